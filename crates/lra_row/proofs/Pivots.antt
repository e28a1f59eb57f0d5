-- The first column other than 0, one column at a time.
use Rattle.std.proofs.Common.{◌≡◌, ℕ, ◌<◌, ◌+◌, List, length, get_or, drop, sym, ◌∙◌, pos, ℤ, arith, true, add-one, ap, FitsSigned, to_z, of_z}
use Rattle.std.proofs.{Math.Seq.drop-cons, lemmas.Int.to_z-of_z, lemmas.Int.ints}
use Rattle.std.specs.{Int.w128, Ordering.int_eq}
use Rattle.lra_linear_spec.specs.Echelon.{lead_from}

pub lead_later : (xs : List ℤ) (j : ℕ) → j < length xs → int_eq (get_or xs j (pos 0)) (pos 0) ≡ true → lead_from (j + 1) (drop (j + 1) xs) ≡ lead_from j (drop j xs)
lead_later xs j h e = rw (drop-cons xs j (pos 0) h, e, add-one)

zero_read : (z : ℤ) → FitsSigned w128 z → of_z w128 z ≡ 0 → z ≡ pos 0
zero_read z f e = sym (to_z-of_z w128 z f) ∙ ap (to_z w128) e ∙ omega (arith, ints)

pub zero_test : (z : ℤ) → FitsSigned w128 z → of_z w128 z ≡ 0 → int_eq z (pos 0) ≡ true
zero_test z f e = ap (λ y. int_eq y (pos 0)) (zero_read z f e)
