-- Worked examples of the definitions.
use Rattle.std.proofs.Common.{◌≡◌, [], ◌∷◌, pos, negsuc, refl, Err, ℤ}
use Rattle.std.specs.declared.cmp.Ordering.TheVariants.{Less, Greater}
use Rattle.lra_linear_spec.specs.{CheckedArithmetic.checked_product, RowOrder.row_cmp, Vectors.combined, Vectors.substituted, declared.Excess.Excess, declared.Operation.TheVariants.Sum}
use Rattle.lra_row.specs.Division.{floor_quotient}

-- ---- 7 / 2, -7 / 2 and 7 / -2 rounded down
sevens : floor_quotient (pos 7) (pos 2) ≡ pos 3
sevens = refl

below_zero : floor_quotient (negsuc 6) (pos 2) ≡ negsuc 3
below_zero = refl

by_below_zero : floor_quotient (pos 7) (negsuc 1) ≡ negsuc 3
by_below_zero = refl

-- ---- 1 M + 1 1: both products fit, the second sum passes
abbrev most : ℤ
most = pos 170141183460469231731687303715884105727

abbrev sum_of_two : Excess
sum_of_two = record { op = Sum; left = most; right = pos 1 }

passes_at_the_sum : checked_product (pos 1 ∷ pos 1 ∷ []) (most ∷ pos 1 ∷ []) ≡ Err sum_of_two
passes_at_the_sum = refl

-- ---- u and v on either side of c combine to a row on it
combines : combined (pos 1 ∷ pos 1 ∷ []) (pos 6 ∷ negsuc 0 ∷ []) (pos 0 ∷ pos 2 ∷ []) ≡ pos 14 ∷ pos 0 ∷ []
combines = refl

-- ---- 1 + 2 x1 + 3 x2 with 5 + x1 - x2 for x1
puts_in : substituted 1 (pos 5 ∷ pos 1 ∷ negsuc 0 ∷ []) (pos 1 ∷ pos 2 ∷ pos 3 ∷ []) ≡ pos 11 ∷ pos 2 ∷ pos 1 ∷ []
puts_in = refl

-- ---- column 0 is compared last
constants_last : row_cmp (pos 9 ∷ pos 1 ∷ []) (pos 0 ∷ pos 2 ∷ []) ≡ Less
constants_last = refl

constants_decide : row_cmp (pos 9 ∷ pos 1 ∷ []) (pos 0 ∷ pos 1 ∷ []) ≡ Greater
constants_decide = refl
