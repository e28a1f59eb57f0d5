-- Worked examples of inclusion, and of the greatest value of a form, in two dimensions, x1 and x2.
use Rattle.std.proofs.Common.{◌≡◌, All, List, [], ◌∷◌, pos, ℤ, refl, ◌-◌, ◌^◌, false, true, inl, inr, arith}
use Rattle.std.proofs.{lemmas.Int.ints, lemmas.List.Elements.All-nil, lemmas.List.Elements.All-cons}
use Rattle.lra_duality.specs.Crates.lra_linear_spec.Descriptions.{LinearRow, generator, line, inequality, equality}
use Rattle.lra_duality.proofs.Crates.lra_linear_spec.LowestTerms.{primitive_at}
use Rattle.lra_duality.specs.Maxima.{DoesNotImprove, IsAtMost, IsBelow, IsMaximum, OfPoint, StaysInRange}
use Rattle.lra_duality.specs.declared.inclusion.Inclusion.TheVariants.{No, Wide}
use Rattle.lra_duality.specs.{Inclusions.Satisfies, Inclusions.SatisfiesAll, Inclusions.IsInclusion, declared.maximum.Maximum.TheVariants.At, declared.maximum.Maximum.TheVariants.Unbounded}

-- the points with x2 from 0 to 1
abbrev strip_generators : List LinearRow
strip_generators = generator (pos 1 ∷ pos 0 ∷ pos 0 ∷ []) ∷ generator (pos 1 ∷ pos 0 ∷ pos 1 ∷ []) ∷
    line (pos 0 ∷ pos 1 ∷ pos 0 ∷ []) ∷ []

abbrev level : LinearRow
level = equality (pos 0 ∷ pos 0 ∷ pos 1 ∷ [])

abbrev low : LinearRow
low = generator (pos 1 ∷ pos 0 ∷ pos 0 ∷ [])

abbrev high : LinearRow
high = generator (pos 1 ∷ pos 0 ∷ pos 1 ∷ [])

abbrev along : LinearRow
along = line (pos 0 ∷ pos 1 ∷ pos 0 ∷ [])

one_not_zero : (let z : ℤ = pos 1 in z) ≡ pos 0 → ⊥
one_not_zero e = omega (arith, ints, e)

-- are not in the line x2 = 0: the point (0, 1) isn't
pub strip_not_in_line : IsInclusion (level ∷ []) strip_generators (No 1)
strip_not_in_line = record {
  earlier = generator (pos 1 ∷ pos 0 ∷ pos 0 ∷ []) ∷ [];
  member = generator (pos 1 ∷ pos 0 ∷ pos 1 ∷ []);
  later = line (pos 0 ∷ pos 1 ∷ pos 0 ∷ []) ∷ [];
  is = refl;
  at = refl;
  before = All-cons (SatisfiesAll (level ∷ [])) (generator (pos 1 ∷ pos 0 ∷ pos 0 ∷ [])) []
      (All-cons (Satisfies (generator (pos 1 ∷ pos 0 ∷ pos 0 ∷ []))) level [] (refl, refl)
      (All-nil (Satisfies (generator (pos 1 ∷ pos 0 ∷ pos 0 ∷ [])))))
      (All-nil (SatisfiesAll (level ∷ [])));
  here = record {
    place = 0;
    first = record {
      earlier = [];
      member = level;
      later = [];
      is = refl;
      at = refl;
      before = All-nil (Satisfies (generator (pos 1 ∷ pos 0 ∷ pos 1 ∷ [])));
      here = (refl, refl);
    };
  };
}

-- a line is not in a half plane, though its point is
abbrev right_side : LinearRow
right_side = inequality (pos 0 ∷ pos 1 ∷ pos 0 ∷ [])

pub line_not_in_half : IsInclusion (right_side ∷ [])
    (generator (pos 1 ∷ pos 0 ∷ pos 0 ∷ []) ∷ line (pos 0 ∷ pos 1 ∷ pos 0 ∷ []) ∷ []) (No 1)
line_not_in_half = record {
  earlier = generator (pos 1 ∷ pos 0 ∷ pos 0 ∷ []) ∷ [];
  member = line (pos 0 ∷ pos 1 ∷ pos 0 ∷ []);
  later = [];
  is = refl;
  at = refl;
  before = All-cons (SatisfiesAll (right_side ∷ [])) (generator (pos 1 ∷ pos 0 ∷ pos 0 ∷ [])) []
      (All-cons (Satisfies (generator (pos 1 ∷ pos 0 ∷ pos 0 ∷ []))) right_side [] (refl, refl)
      (All-nil (Satisfies (generator (pos 1 ∷ pos 0 ∷ pos 0 ∷ [])))))
      (All-nil (SatisfiesAll (right_side ∷ [])));
  here = record {
    place = 0;
    first = record {
      earlier = [];
      member = right_side;
      later = [];
      is = refl;
      at = refl;
      before = All-nil (Satisfies (line (pos 0 ∷ pos 1 ∷ pos 0 ∷ [])));
      here = (refl, refl);
    };
  };
}

-- the first pair whose product passes the range decides: 2 times the greatest number
abbrev twice : LinearRow
twice = inequality (pos 0 ∷ pos 2 ∷ pos 0 ∷ [])

abbrev far_point : LinearRow
far_point = generator (pos 1 ∷ pos (2 ^ 127 - 1) ∷ pos 0 ∷ [])

pub far_point_passes : IsInclusion (twice ∷ []) (far_point ∷ []) (Wide 0 0)
far_point_passes = record {
  earlier = [];
  member = far_point;
  later = [];
  is = refl;
  at = refl;
  before = All-nil (SatisfiesAll (twice ∷ []));
  here = record {
    earlier = [];
    member = twice;
    later = [];
    is = refl;
    at = refl;
    before = All-nil (Satisfies far_point);
    here = refl;
  };
}

-- ---- on the points with x2 from 0 to 1, x1 has no greatest value: it changes along the line
all_two : (P : LinearRow → Type 0) (a b : LinearRow) → P a → P b → All P (a ∷ b ∷ [])
all_two P a b h k = All-cons P a (b ∷ []) h (All-cons P b [] k (All-nil P))

all_three : (P : LinearRow → Type 0) (a b c : LinearRow) → P a → P b → P c → All P (a ∷ b ∷ c ∷ [])
all_three P a b c h k l = All-cons P a (b ∷ c ∷ []) h (all_two P b c k l)

abbrev first_coordinate : List ℤ
first_coordinate = pos 0 ∷ pos 1 ∷ pos 0 ∷ []

abbrev second_coordinate : List ℤ
second_coordinate = pos 0 ∷ pos 0 ∷ pos 1 ∷ []

pub first_coordinate_unbounded : IsMaximum first_coordinate strip_generators (Unbounded 2)
first_coordinate_unbounded = (
  all_three (StaysInRange first_coordinate) low high along refl refl refl,
  record {
    earlier = low ∷ high ∷ [];
    member = along;
    later = [];
    is = refl;
    at = refl;
    before = all_two (DoesNotImprove first_coordinate) low high (λ i. one_not_zero i.0) (λ i. one_not_zero i.0);
    here = (refl, inr (refl, one_not_zero));
  },
)

-- and x2 has its greatest value, 1, first at the point (0, 1)
not_along : DoesNotImprove second_coordinate along
not_along (z, inl ray) = let e : true ≡ false = ray.0 in cc
not_along (z, inr line) = line.1 refl

pub second_coordinate_greatest : IsMaximum second_coordinate strip_generators (At (pos 1) (pos 1) 1)
second_coordinate_greatest = (
  all_three (StaysInRange second_coordinate) low high along refl refl refl,
  all_three (DoesNotImprove second_coordinate) low high along (λ i. one_not_zero i.0) (λ i. one_not_zero i.0) not_along,
  record {
    first = record {
      earlier = low ∷ [];
      member = high;
      later = along ∷ [];
      is = refl;
      at = refl;
      before = All-cons (OfPoint (IsBelow second_coordinate (pos 1) (pos 1))) low [] (λ p. omega (arith, ints))
          (All-nil (OfPoint (IsBelow second_coordinate (pos 1) (pos 1))));
      here = (omega (arith, ints), refl);
    };
    others = all_three (OfPoint (IsAtMost second_coordinate (pos 1) (pos 1))) low high along (λ p. omega (arith, ints))
        (λ p. omega (arith, ints)) (λ p. omega (arith, ints));
    positive = omega (arith, ints);
  },
  primitive_at (pos 1 ∷ pos 1 ∷ []) 0 refl,
)
