-- Of thresholds the tightest alone, and a widening that is limited by these. It gives the set of the widening that is
-- limited by all of them (`TightestTell`), from a shorter list.
use Rattle.std.specs.Prelude.{◌⊎◌, ◌&&◌, ℕ, ℤ, Bool, false, not, List, [], ◌∷◌, int_lt}
use Rattle.std.specs.{Cmp.Lexicographic.pointwise, List.filter, List.list_any, Ordering.int_eq}
use Rattle.lra_poly_widening.specs.Crates.lra_linear_spec.Descriptions.{LinearRow, Con}
use Rattle.lra_poly_widening.specs.Crates.lra_linear_spec.OperationStrain.{LimitedStrains, WideningPasses}
use Rattle.lra_poly_widening.specs.Crates.{lra_linear_spec.Points.IsWithin, lra_linear_spec.Polyhedra.Polyhedron}
use Rattle.lra_poly_widening.specs.Crates.{lra_linear_spec.Strain.Loss, lra_linear_spec.Widening.LimitedWidening}
use Rattle.lra_poly_widening.specs.Rank.{kept_thresholds}

-- the rows have equal coefficients, and the constant of the first is lower
abbrev pub is_lower : List ℤ → List ℤ → Bool
is_lower [] ys = false
is_lower (c ∷ cs) [] = false
is_lower (c ∷ cs) (d ∷ ds) = int_lt c d && pointwise int_eq cs ds

-- the second is an inequality, and holds strictly where the first holds
abbrev pub is_tighter : LinearRow → LinearRow → Bool
is_tighter s r = not r.equal && is_lower s.row r.row

abbrev pub is_loose : List LinearRow → LinearRow → Bool
is_loose rows r = list_any (λ s. is_tighter s r) rows

-- the rows than which none of the others is tighter, in their order
abbrev pub tightest : List LinearRow → List LinearRow
tightest rows = filter (λ r. not (is_loose rows r)) rows

-- if the tightest hold, all do
abbrev pub TightestTell : Type 0
TightestTell = (n : ℕ) (rows : List LinearRow) → IsWithin n (Con (tightest rows)) (Con rows)

-- the widening that is limited by the tightest of the rows that hold in the range on both exceeds a limit; or a product
-- of a row of Q, or of one of all thresholds, passes
abbrev pub TightestStrains : Polyhedron → Polyhedron → List LinearRow → Loss → Type 0
TightestStrains p q given loss =
    LimitedStrains p q (tightest (kept_thresholds p q given)) loss
    ⊎ WideningPasses p q given (LimitedWidening p q given) loss
