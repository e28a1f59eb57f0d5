-- Inequalities without the redundant ones, reported from which generators they are tight at (Le Verge 1992, Fukuda and
-- Prodon 1996).
use Rattle.std.specs.Prelude.{◌≡◌, ◌≢◌, ◌↔◌, ℕ, ◌<◌, ◌≤◌, ℤ, pos, ◌≤ℤ◌, Bool, true, false, List, [], length}
use Rattle.std.specs.{List.Contains, Prelude.slice_index_or}
use Rattle.lra_canonical.specs.Crates.lra_linear_spec.Cones.{Generated, all_rows}
use Rattle.lra_canonical.specs.Crates.lra_linear_spec.Descriptions.{LinearRow, Gen}
use Rattle.lra_canonical.specs.Crates.lra_linear_spec.LowestTerms.{IsPrimitive}
use Rattle.lra_canonical.specs.Crates.lra_linear_spec.Vectors.{entry, product}
use Rattle.lra_canonical.specs.Crates.{lra_linear_spec.Canonical.IsCanonical, lra_linear_spec.Echelon.pivot}
use Rattle.lra_bits.specs.{Matrix.Matrix, Matrix.unmarked, TruthValues.value_at, TruthValues.IsSubset}
use Rattle.lra_canonical.specs.{Echelons.HaveWidth, Reduced.IsEchelonForm, Reduced.SolvesAll}

-- u solves the inequalities, and the form as equalities
abbrev pub Solutions : List (List ℤ) → List (List ℤ) → List ℤ → Type 0
Solutions form rows u = SolvesAll form u × ((r : List ℤ) → Contains rows r → pos 0 ≤ℤ product r u)

-- The rows, reduced by the form and in lowest terms, have with it the solutions that the generators generate. No row is
-- tight at all generators, and row i of the matrix says of each generator whether row i is tight at it.
pub record IsSaturation (w : ℕ) (form : List (List ℤ)) (generators : List LinearRow) (rows : List (List ℤ))
    (matrix : Matrix) : Type 0 where
  pub is_form : IsEchelonForm form
  pub form_widths : HaveWidth w form
  pub row_widths : HaveWidth w rows
  pub widths : (g : LinearRow) → Contains generators g → length g.row ≡ w
  pub described : (u : List ℤ) → length u ≡ w → Solutions form rows u ↔ Gen generators u
  pub reduced : (r line : List ℤ) → Contains rows r → Contains form line → entry r (pivot line) ≡ pos 0
  pub lowest : (r : List ℤ) → Contains rows r → IsPrimitive r
  pub loose : (r : List ℤ) → Contains rows r → ¬ ((g : LinearRow) → Contains generators g → product r g.row ≡ pos 0)
  pub columns : (i : ℕ) → i < length rows → length (slice_index_or matrix.rows i []) ≡ length generators
  pub tight : (i j : ℕ) (g : LinearRow) → i < length rows → j < length generators →
      (value_at (slice_index_or matrix.rows i []) j ≡ true) ↔
      (product (slice_index_or rows i []) (slice_index_or generators j g).row ≡ pos 0)

-- ---- which rows go
-- another row that isn't marked is true wherever row i is
abbrev pub IsCoveredBy : List (List Bool) → List Bool → ℕ → ℕ → Type 0
IsCoveredBy bits marks i other =
    (other ≢ i) × (value_at marks other ≡ false) × IsSubset (slice_index_or bits i []) (slice_index_or bits other [])

pub record IsCovered (bits : List (List Bool)) (marks : List Bool) (i : ℕ) : Type 0 where
  pub other : ℕ
  pub inside : other < length bits
  pub by : IsCoveredBy bits marks i other

-- The marks after the first i rows: what the rows generate, with any form of which the matrix reports, those that stay
-- generate; and of the first i rows none that stays is covered.
pub record AreMarks (rows : List (List ℤ)) (matrix : Matrix) (marks : List Bool) (i : ℕ) : Type 0 where
  pub as_many : length marks ≡ length rows
  pub later : (k : ℕ) → i ≤ k → value_at marks k ≡ false
  pub alone : (k : ℕ) → k < i → value_at marks k ≡ false → ¬ (IsCovered matrix.rows marks k)
  pub same : (w : ℕ) (form : List (List ℤ)) (generators : List LinearRow) → IsSaturation w form generators rows matrix →
      (u : ℕ → ℤ) → Generated (all_rows form rows) u → Generated (all_rows form (unmarked marks rows)) u

-- the rows that are marked are gone from both lists, the others keep their order
pub record AreKept (rows kept : List (List ℤ)) (matrix left : Matrix) : Type 0 where
  pub marks : List Bool
  pub as_many : length marks ≡ length rows
  pub rows_kept : kept ≡ unmarked marks rows
  pub bits_kept : left.rows ≡ unmarked marks matrix.rows
  pub same_width : left.width ≡ matrix.width

-- ---- what stays
-- The rows that stay have the same solutions with the form, and are the inequalities of a canonical description. Each
-- canonical description with these solutions has this form and these rows.
pub record IsIrredundant (w : ℕ) (form rows kept : List (List ℤ)) : Type 0 where
  pub same : (u : List ℤ) → length u ≡ w → Solutions form rows u ↔ Solutions form kept u
  pub canonical : IsCanonical form kept
  pub one : (lines others : List (List ℤ)) → HaveWidth w lines → HaveWidth w others → IsCanonical lines others →
      ((u : List ℤ) → length u ≡ w → Solutions form rows u ↔ Solutions lines others u) →
      (lines ≡ form) × ((r : List ℤ) → Contains others r ↔ Contains kept r) × (length others ≡ length kept)

-- whatever form and generators the matrix says of
abbrev pub WithoutRedundant : List (List ℤ) → Matrix → List (List ℤ) → Type 0
WithoutRedundant rows matrix kept =
    (w : ℕ) (form : List (List ℤ)) (generators : List LinearRow) → IsSaturation w form generators rows matrix →
    IsIrredundant w form rows kept
