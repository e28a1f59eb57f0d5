-- Rows with their kinds, as the descriptions of sets of points that they are.
use Rattle.std.specs.Prelude.{◌≡◌, ℕ, ℤ, pos, ◌<ℤ◌, Bool, List, [], ◌∷◌}
use Rattle.lra_linear_spec.specs.{Descriptions.LinearRow, Kinds.is_equality, Kinds.is_line, Vectors.entry}
use Rattle.lra_linear_spec.specs.{declared.ConKind.ConKind, declared.GenKind.GenKind}
use Rattle.lra_linear_spec.specs.declared.GenKind.TheVariants as gen

-- what a contract sees of a list of rows of n + 1 columns, each with a kind
pub record LinearSystem (K : Type 0) : Type 0 where
  pub dims : ℕ
  pub rows : List (List ℤ)
  pub kinds : List K

abbrev pub rows_by_kind : {K : Type 0} → (K → Bool) → List (List ℤ) → List K → List LinearRow
rows_by_kind equal [] kinds = []
rows_by_kind equal (r ∷ rows) [] = []
rows_by_kind equal (r ∷ rows) (k ∷ kinds) = record { row = r; equal = equal k } ∷ rows_by_kind equal rows kinds

abbrev pub constraints : LinearSystem ConKind → List LinearRow
constraints s = rows_by_kind is_equality s.rows s.kinds

abbrev pub generators : LinearSystem GenKind → List LinearRow
generators s = rows_by_kind is_line s.rows s.kinds

-- column 0 as the kind asks: a point's divisor is above 0; rays and lines have 0 there
abbrev pub FitsKind : GenKind → List ℤ → Type 0
FitsKind gen.Point r = pos 0 <ℤ entry r 0
FitsKind gen.Ray r = entry r 0 ≡ pos 0
FitsKind gen.Line r = entry r 0 ≡ pos 0

-- row by row; the generators of such a list are `AreGenerators`
abbrev pub FitKinds : List (List ℤ) → List GenKind → Type 0
FitKinds [] kinds = Unit {0}
FitKinds (r ∷ rows) [] = Unit {0}
FitKinds (r ∷ rows) (k ∷ kinds) = FitsKind k r × FitKinds rows kinds
