-- Lists of truth values: which generators rows saturate.
use Rattle.std.specs.Prelude.{Bool, true, false, ◌&&◌, ℤ, pos, List, [], ◌∷◌, Result, Ok, Err}
use Rattle.std.specs.{Bool.beq, Ordering.int_eq}
use Rattle.lra_poly_widening.specs.Crates.lra_linear_spec.CheckedArithmetic.{checked_product}

-- of lists of one length: whether they have the same values
abbrev pub same_values : List Bool → List Bool → Bool
same_values [] ys = true
same_values (x ∷ xs) [] = true
same_values (x ∷ xs) (y ∷ ys) = beq x y && same_values xs ys

-- the product of the two rows is 0, and stays in the range
abbrev pub is_zero : {E : Type 0} → Result ℤ E → Bool
is_zero (Ok z) = int_eq z (pos 0)
is_zero (Err e) = false

abbrev pub vanishes : List ℤ → List ℤ → Bool
vanishes r g = is_zero (checked_product r g)
