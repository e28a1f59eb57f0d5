-- The rows that mean a box: `x = l` if both bounds are equal, else its finite bounds as inequalities; the equalities
-- first.
use Rattle.std.specs.Prelude.{ℕ, suc, ℤ, pos, negsuc, neg_ℤ, List, [], ◌∷◌, ◌++◌, length, replicate, slice_set, Option}
use Rattle.std.specs.{Ordering.int_eq, Prelude.None, Prelude.Some, Prelude.Bool, Prelude.false, Prelude.if◌then◌else◌}
use Rattle.lra_box.specs.Crates.lra_linear_spec.declared.ConKind.{ConKind}
use Rattle.lra_box.specs.Crates.lra_linear_spec.declared.ConKind.TheVariants.{Ge, Eq}
use Rattle.lra_box.specs.Crates.lra_systems.LinearSystems.{LinearSystem}
use Rattle.lra_box.specs.declared.interval.Interval.{Interval}

-- the row `constant + factor * x_k` in n dimensions
abbrev pub bound_row : ℕ → ℕ → ℤ → ℤ → List ℤ
bound_row n k constant factor = constant ∷ slice_set (replicate n (pos 0)) k factor

-- both bounds are there and equal
abbrev pub is_single_ends : Option ℤ → Option ℤ → Bool
is_single_ends None b = false
is_single_ends (Some a) None = false
is_single_ends (Some a) (Some b) = int_eq a b

abbrev pub is_single : Interval → Bool
is_single i = is_single_ends i.low i.high

-- the rows of the lower bound l, x - l, and of the upper bound h, h - x
abbrev pub low_rows : ℕ → ℕ → Option ℤ → List (List ℤ)
low_rows n k None = []
low_rows n k (Some l) = bound_row n k (neg_ℤ l) (pos 1) ∷ []

abbrev pub high_rows : ℕ → ℕ → Option ℤ → List (List ℤ)
high_rows n k None = []
high_rows n k (Some h) = bound_row n k h (negsuc 0) ∷ []

-- the equalities of the intervals from place k on
abbrev pub box_equalities : ℕ → ℕ → List Interval → List (List ℤ)
box_equalities n k [] = []
box_equalities n k (i ∷ is) = (if is_single i then low_rows n k i.low else []) ++ box_equalities n (suc k) is

-- their inequalities
abbrev pub box_inequalities : ℕ → ℕ → List Interval → List (List ℤ)
box_inequalities n k [] = []
box_inequalities n k (i ∷ is) = (if is_single i then [] else low_rows n k i.low ++ high_rows n k i.high) ++
    box_inequalities n (suc k) is

abbrev pub box_rows : ℕ → List Interval → List (List ℤ)
box_rows n is = box_equalities n 0 is ++ box_inequalities n 0 is

abbrev pub box_system : ℕ → List Interval → LinearSystem ConKind
box_system n is = record {
  dims = n;
  rows = box_rows n is;
  kinds = replicate (length (box_equalities n 0 is)) Eq ++ replicate (length (box_inequalities n 0 is)) Ge;
}

-- an empty box has no part, another has one
abbrev pub box_parts : ℕ → Option (List Interval) → List (LinearSystem ConKind)
box_parts n None = []
box_parts n (Some is) = box_system n is ∷ []
