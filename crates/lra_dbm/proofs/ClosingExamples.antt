-- Worked examples of closing.
use Rattle.std.proofs.Common.{◌≡◌, [], ◌∷◌, None, Some, pos, negsuc, refl, true}
use Rattle.lra_dbm.specs.{Cells.Cells, Cells.place, Cells.cell, Closing.closing, Steps.shortest, Steps.all_rounded, Steps.all_strengthened, Tight.opposite}

-- 2*x <= 1 and -2*x <= -1: each bound is rounded, and then they cross
abbrev odd_double : Cells
odd_double = Some (pos 0) ∷ Some (negsuc 0) ∷ Some (pos 1) ∷ Some (pos 0) ∷ []

odd_double_is_empty : (closing 1 odd_double).empty ≡ true
unfolding place opposite shortest all_rounded all_strengthened
odd_double_is_empty = refl

-- x - y <= 0 and x + y <= 1
abbrev sum_and_difference : Cells
sum_and_difference =
    Some (pos 0) ∷ None ∷ None ∷ Some (pos 0)
    ∷ Some (pos 0) ∷ None ∷ Some (pos 0) ∷ None
    ∷ Some (pos 1) ∷ None ∷ None ∷ Some (pos 0) ∷ []

-- then 2*x <= 1, which is rounded to 2*x <= 0; the two rows stay
sum_and_difference_bounds : cell (closing 2 sum_and_difference).progress.cells 1 0 ≡ Some (pos 0)
unfolding place opposite shortest all_rounded all_strengthened
sum_and_difference_bounds = refl

sum_and_difference_stay :
    (closing 2 sum_and_difference).progress.cells
    ≡ Some (pos 0) ∷ None ∷ Some (pos 0) ∷ Some (pos 0) ∷ Some (pos 0) ∷ None ∷ Some (pos 0) ∷ None ∷ Some (pos 1) ∷ None ∷ None ∷ Some (pos 0) ∷ []
unfolding place opposite shortest all_rounded all_strengthened
sum_and_difference_stay = refl
