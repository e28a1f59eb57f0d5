-- The moves of a condition leave each store at which the condition is as wanted.
use Rattle.std.proofs.Common.{◌≡◌, zero, suc, ℤ, pos, negsuc, List, Option, Some, None, Bool, true, false, length, refl, ap, subst, ◌∙◌, arith, inl, inr}
use Rattle.std.proofs.{lemmas.Bool.not-false, lemmas.Int.ints}
use Rattle.std.specs.Prelude.{not, if◌then◌else◌, IsTrue, ◌⊎◌, int_le, ◌-ℤ◌}
use Rattle.lra_analysis_spec.specs.Crates.lra_base.Operators.{Comparison, below, at_most, above, at_least, equal, differs}
use Rattle.lra_analysis_spec.specs.Crates.lra_program.Program.{Expr, literal, Cond, compare, nonzero, opposite, both_of, either_of}
use Rattle.lra_analysis_spec.specs.Crates.lra_program.Value.{Environment, Drawn, is_zero, compares, value_of, truth_of}
use Rattle.lra_analysis_spec.specs.Crates.{lra_base.declared.number_types.NumberType.TheVariants.Int, lra_linear_forms.declared.test.Test.Test}
use Rattle.lra_analysis_spec.specs.Linearization.{Divides, with_both, linearized, subtracted, linearized_difference}
use Rattle.lra_analysis_spec.specs.MovesOf.{opposite_comparison, comparison_as, test_action, test_moves, case_moves, linearized_moves, split_moves, comparison_moves, guard, value_moves}
use Rattle.lra_analysis_spec.specs.declared.linearization.Linearized.TheVariants.{Linear, Divided, Unseen}
use Rattle.lra_analysis_spec.specs.{Linear.TestHolds, Linear.constant_form, Linear.comparison_test, declared.linearization.Division.Division, declared.linearization.Linearized.Linearized}
use Rattle.lra_domain.specs.Moves.{MayLead}
use Rattle.lra_analysis_spec.proofs.Crates.lra_program.TypeLaws.{bind_some}
use Rattle.lra_analysis_spec.proofs.DivisionLemmas.{constant_form_wide, SeenIs, seen_tested, subtracted_is, seen_right}
use Rattle.lra_analysis_spec.proofs.FormLemmas.{constant_form_value, some_first, lt_decides, gt_decides, ne_decides, test_is_right, compared}

-- what `!` does to a comparison
opposite_is : (op : Comparison) (x y : ℤ) → compares op x y ≡ false → compares (opposite_comparison op) x y ≡ true
opposite_is below x y e = grind (arith, ints)
opposite_is at_most x y e = grind (arith, ints)
opposite_is above x y e = grind (arith, ints)
opposite_is at_least x y e = grind (arith, ints)
opposite_is equal x y e = ap not e
opposite_is differs x y e = not-false (if int_le x y then int_le y x else false) e

-- `e` is `e != 0`
zero_differs : (x : ℤ) → compares differs x (pos 0) ≡ not (is_zero x)
zero_differs (pos zero) = refl
zero_differs (pos (suc n)) = grind (arith, ints)
zero_differs (negsuc n) = refl

-- whether the answer of a test
not_is : (b wanted : Bool) → not b ≡ wanted → b ≡ not wanted
not_is true true e = cc
not_is true false e = refl
not_is false true e = refl
not_is false false e = cc

-- what both sides of `&&` and `||` answered
and_true : (so : Bool) (rest left : List ℤ) (d : Drawn Bool) → (if so then d else Some (false, rest)) ≡ Some (true, left) → (so ≡ true) × (d ≡ Some (true, left))
and_true true rest left d e = (refl, e)
and_true false rest left d e = absurd (let no : false ≡ true = some_first false true rest left e in cc)

and_false : (so : Bool) (rest left : List ℤ) (d : Drawn Bool) → (if so then d else Some (false, rest)) ≡ Some (false, left) → (so ≡ false) ⊎ ((so ≡ true) × (d ≡ Some (false, left)))
and_false true rest left d e = inr (refl, e)
and_false false rest left d e = inl refl

or_true : (so : Bool) (rest left : List ℤ) (d : Drawn Bool) → (if so then Some (true, rest) else d) ≡ Some (true, left) → (so ≡ true) ⊎ ((so ≡ false) × (d ≡ Some (true, left)))
or_true true rest left d e = inl refl
or_true false rest left d e = inr (refl, e)

or_false : (so : Bool) (rest left : List ℤ) (d : Drawn Bool) → (if so then Some (true, rest) else d) ≡ Some (false, left) → (so ≡ false) × (d ≡ Some (false, left))
or_false true rest left d e = absurd (let no : true ≡ false = some_first true false rest left e in cc)
or_false false rest left d e = (refl, e)

-- a comparison, or its opposite, is true if it is to be so
pub as_wanted : (wanted : Bool) (op : Comparison) (x y : ℤ) → compares op x y ≡ wanted → IsTrue (compares (comparison_as wanted op) x y)
as_wanted true op x y is = is
as_wanted false op x y is = opposite_is op x y is

module _ (store : List ℤ) where
  -- a test that is passed leaves the store
  test_leads : (o : Option Test) → ((t : Test) → o ≡ Some t → TestHolds t store) → MayLead (test_moves o) store store
  test_leads None passes = refl
  test_leads (Some t) passes = (passes t refl, refl)

  -- over a division's cases, too
  case_leads : (c : Division) (o : Option Test) → Divides c (length store) → ((t : Test) → o ≡ Some t → TestHolds t (with_both c store))
      → MayLead (case_moves (length store) c o) store store
  case_leads c None divides passes = refl
  case_leads c (Some t) divides passes = seen_tested c (test_action t) store divides (passes t refl, refl)

  -- a comparison other than `!=`, if its test passes wherever it is true
  seen_leads : (op : Comparison) (w : Linearized) (x y : ℤ) → SeenIs w store (x -ℤ y) → IsTrue (compares op x y)
      → MayLead (linearized_moves (length store) op w) store store
  seen_leads op (Linear d) x y is so = test_leads (comparison_test op d) (λ t e. (test_is_right op d t store x y is.1 e).0 so)
  seen_leads op (Divided c d) x y is so = case_leads c (comparison_test op d) is.0.0 (λ t e. (test_is_right op d t (with_both c store) x y is.1 e).0 so)
  seen_leads op Unseen x y is so = refl

  -- over whole numbers the one is below the other, or above it
  differs_is : (x y : ℤ) → IsTrue (compares differs x y) → IsTrue (compares below x y) ⊎ IsTrue (compares above x y)
  differs_is x y so = elim ((ne_decides x y (x -ℤ y) refl).0 so) [
    | inl a ↦ inl ((lt_decides x y (x -ℤ y) refl).1 a)
    | inr b ↦ inr ((gt_decides x y (x -ℤ y) refl).1 b)
  ]

  split_leads : (op : Comparison) (w : Linearized) (x y : ℤ) → SeenIs w store (x -ℤ y) → IsTrue (compares op x y)
      → MayLead (split_moves (length store) op w) store store
  split_leads differs w x y is so = elim (differs_is x y so) [ inl a ↦ inl (seen_leads below w x y is a) | inr b ↦ inr (seen_leads above w x y is b) ]
  split_leads below w x y is so = seen_leads below w x y is so
  split_leads at_most w x y is so = seen_leads at_most w x y is so
  split_leads above w x y is so = seen_leads above w x y is so
  split_leads at_least w x y is so = seen_leads at_least w x y is so
  split_leads equal w x y is so = seen_leads equal w x y is so

  pub comparison_leads : (op : Comparison) (w : Linearized) (x y : ℤ) → SeenIs w store (x -ℤ y) → IsTrue (compares op x y)
      → MayLead (comparison_moves (length store) op w) store store
  comparison_leads op (Linear d) x y is so = split_leads op (Linear d) x y is so
  comparison_leads op (Divided c d) x y is so = split_leads op (Divided c d) x y is so
  comparison_leads op Unseen x y is so = refl

module _ (s : Environment) where
  -- the first answer of a condition
  answered : (c : Cond) (draws rest : List ℤ) (so wanted : Bool) → so ≡ wanted → truth_of c s draws ≡ Some (so, rest) → truth_of c s draws ≡ Some (wanted, rest)
  answered c draws rest so wanted e got = subst (λ (b : Bool). truth_of c s draws ≡ Some (b, rest)) e got

  -- by what is seen of both sides
  compare_leads : (op : Comparison) (a b : Expr) (draws middle last : List ℤ) (x y : ℤ) → value_of a s draws ≡ Some (x, middle)
      → value_of b s middle ≡ Some (y, last) → IsTrue (compares op x y)
      → MayLead (comparison_moves (length s.store) op (linearized_difference (length s.store) s.base a b)) s.store s.store
  compare_leads op a b draws middle last x y has_x has_y so =
      let n = length s.store in
      comparison_leads s.store op (linearized_difference n s.base a b) x y
      (subtracted_is (linearized n s.base a) (linearized n s.base b) s.store x y (seen_right s a draws middle x has_x) (seen_right s b middle last y has_y)) so

  -- a condition that is as wanted at the store leaves it
  pub cond_leads : (c : Cond) (wanted : Bool) (draws left : List ℤ) → truth_of c s draws ≡ Some (wanted, left) → MayLead (guard (length s.store) s.base wanted c) s.store s.store
  cond_leads (compare op a b) wanted draws left ran =
      let c = compared s op a b draws left wanted ran in
      compare_leads (comparison_as wanted op) a b draws c.middle c.last c.x c.y c.has_x c.has_y (as_wanted wanted op c.x c.y c.is)
  cond_leads (nonzero e) wanted draws left ran =
      let (r, got, to) = bind_some (value_of e s draws) (λ r. Some (not (is_zero r.0), r.1)) (wanted, left) ran in
      let so = zero_differs r.0 ∙ some_first (not (is_zero r.0)) wanted r.1 left to in
      compare_leads (comparison_as wanted differs) e (literal Int 0) draws r.1 r.1 r.0 (pos 0) got refl (as_wanted wanted differs r.0 (pos 0) so)
  cond_leads (opposite c) wanted draws left ran =
      let (r, got, to) = bind_some (truth_of c s draws) (λ r. Some (not r.0, r.1)) (wanted, left) ran in
      let answer : r.0 ≡ not wanted = not_is r.0 wanted (some_first (not r.0) wanted r.1 left to) in
      cond_leads c (not wanted) draws r.1 (answered c draws r.1 r.0 (not wanted) answer got)
  cond_leads (both_of a b) true draws left ran =
      let (r, got, to) = bind_some (truth_of a s draws) (λ r. if r.0 then truth_of b s r.1 else Some (false, r.1)) (true, left) ran in
      let (so, on) = and_true r.0 r.1 left (truth_of b s r.1) to in
      (s.store, cond_leads a true draws r.1 (answered a draws r.1 r.0 true so got), cond_leads b true r.1 left on)
  cond_leads (both_of a b) false draws left ran =
      let (r, got, to) = bind_some (truth_of a s draws) (λ r. if r.0 then truth_of b s r.1 else Some (false, r.1)) (false, left) ran in
      elim (and_false r.0 r.1 left (truth_of b s r.1) to) [
        | inl so ↦ inl (cond_leads a false draws r.1 (answered a draws r.1 r.0 false so got))
        | inr so ↦ inr (s.store, cond_leads a true draws r.1 (answered a draws r.1 r.0 true so.0 got), cond_leads b false r.1 left so.1)
      ]
  cond_leads (either_of a b) true draws left ran =
      let (r, got, to) = bind_some (truth_of a s draws) (λ r. if r.0 then Some (true, r.1) else truth_of b s r.1) (true, left) ran in
      elim (or_true r.0 r.1 left (truth_of b s r.1) to) [
        | inl so ↦ inl (cond_leads a true draws r.1 (answered a draws r.1 r.0 true so got))
        | inr so ↦ inr (s.store, cond_leads a false draws r.1 (answered a draws r.1 r.0 false so.0 got), cond_leads b true r.1 left so.1)
      ]
  cond_leads (either_of a b) false draws left ran =
      let (r, got, to) = bind_some (truth_of a s draws) (λ r. if r.0 then Some (true, r.1) else truth_of b s r.1) (false, left) ran in
      let (so, on) = or_false r.0 r.1 left (truth_of b s r.1) to in
      (s.store, cond_leads a false draws r.1 (answered a draws r.1 r.0 false so got), cond_leads b false r.1 left on)

-- an expression that has the value or, if it is not wanted, another one
pub value_leads : (s : Environment) (e : Expr) (z : ℤ) (wanted : Bool) (draws left : List ℤ) (y : ℤ) → value_of e s draws ≡ Some (y, left)
    → compares equal y z ≡ wanted
    → MayLead (value_moves (length s.store) s.base wanted e z) s.store s.store
value_leads s e z wanted draws left y got is =
    let n = length s.store in
    comparison_leads s.store (comparison_as wanted equal) (subtracted (linearized n s.base e) (Linear (constant_form n z))) y z
    (subtracted_is (linearized n s.base e) (Linear (constant_form n z)) s.store y z (seen_right s e draws left y got)
    ((constant_form_wide n z).width, constant_form_value n z s.store)) (as_wanted wanted equal y z is)
