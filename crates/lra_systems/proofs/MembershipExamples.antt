-- Worked examples of membership: x1 is at least 0, and x1 + x2 is at most 4.
use Rattle.std.proofs.{Common.List, Common.[], Common.◌∷◌, Common.pos, Common.negsuc, Common.refl, Common.arith, Common.ℤ, lemmas.Int.ints, lemmas.List.Elements.All-nil, lemmas.List.Elements.All-cons}
use Rattle.lra_linear_spec.specs.Descriptions.{LinearRow, inequality}
use Rattle.lra_systems.specs.Membership.{HoldsInRange, DecidesMembership}
use Rattle.lra_systems.specs.declared.membership.MembershipAnswer.TheVariants.{Yes, No, Wide}

abbrev first : LinearRow
first = inequality (pos 0 ∷ pos 1 ∷ pos 0 ∷ [])

abbrev second : LinearRow
second = inequality (pos 4 ∷ negsuc 0 ∷ negsuc 0 ∷ [])

abbrev both : List LinearRow
both = first ∷ second ∷ []

-- ---- 3/2, 5/2: 8 - 3 - 5 is 0
abbrev inside : List ℤ
inside = pos 2 ∷ pos 3 ∷ pos 5 ∷ []

is_inside : DecidesMembership both inside Yes
is_inside = All-cons (HoldsInRange inside) first (second ∷ []) (refl, omega (arith, ints)) (All-cons (HoldsInRange inside) second [] (refl, omega (arith, ints)) (All-nil (HoldsInRange inside)))

-- ---- 3, 2: 4 - 3 - 2 is below 0
abbrev outside : List ℤ
outside = pos 1 ∷ pos 3 ∷ pos 2 ∷ []

is_outside : DecidesMembership both outside (No 1)
is_outside = record {
  earlier = first ∷ [];
  member = second;
  later = [];
  is = refl;
  at = refl;
  before = All-cons (HoldsInRange outside) first [] (refl, omega (arith, ints)) (All-nil (HoldsInRange outside));
  here = (refl, λ h. omega (arith, ints, h));
}

-- ---- M, M: 4 - M is in the range, 4 - M - M is not
abbrev far : List ℤ
far = pos 1 ∷ pos 170141183460469231731687303715884105727 ∷ pos 170141183460469231731687303715884105727 ∷ []

is_wide : DecidesMembership both far (Wide 1)
is_wide = record {
  earlier = first ∷ [];
  member = second;
  later = [];
  is = refl;
  at = refl;
  before = All-cons (HoldsInRange far) first [] (refl, omega (arith, ints)) (All-nil (HoldsInRange far));
  here = refl;
}
