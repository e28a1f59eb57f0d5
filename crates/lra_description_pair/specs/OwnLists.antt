-- The canonical list of the own kind: of constraints that were added to a cone the canonical constraints, of
-- generators the canonical generators. Rows that are tight at all rays of the cone come into an echelon form; the
-- others are reduced by it.
use Rattle.std.specs.Prelude.{◌≡◌, ◌↔◌, ℕ, suc, ◌+◌, ◌<◌, ◌≤◌, ℤ, pos, Bool, true, cond, List, [], ◌∷◌, ◌++◌, length}
use Rattle.std.specs.{List.Contains, Prelude.slice_index_or, Prelude.nat_lt}
use Rattle.lra_description_pair.specs.Crates.lra_linear_spec.Canonical.{IsCanonicalOf}
use Rattle.lra_description_pair.specs.Crates.lra_linear_spec.Descriptions.{LinearRow, inequality, system_of}
use Rattle.lra_description_pair.specs.Crates.lra_linear_spec.Reduction.{ReductionPasses}
use Rattle.lra_description_pair.specs.Crates.lra_linear_spec.Strain.{Loss, is_tight_at, tight_rows, OwnReductionPasses}
use Rattle.lra_description_pair.specs.Crates.lra_linear_spec.Strain.{OwnTooMany}
use Rattle.lra_description_pair.specs.Crates.lra_row.declared.error.RowError.TheVariants.{Excess, Memory}
use Rattle.lra_description_pair.specs.Crates.{lra_bits.Matrix.Matrix, lra_bits.TruthValues.value_at}
use Rattle.lra_description_pair.specs.Crates.{lra_canonical.Reduced.IsReducedBy, lra_linear_spec.Polyhedra.positivity}
use Rattle.lra_description_pair.specs.Crates.{lra_linear_spec.Vectors.product, lra_linear_spec.declared.Cause.Cause}
use Rattle.lra_description_pair.specs.Crates.{lra_row.declared.error.RowError.RowError}
use Rattle.lra_description_pair.specs.Crates.lra_linear_spec.declared.Cause.TheVariants as of_cause
use Rattle.lra_descriptions.specs.Tightness.{tight_matrix}
use Rattle.lra_cone.specs.Cones.{ConeContent}

-- ---- tight rows and the others
-- the rows that are not tight at some ray, in their order
abbrev pub loose_rows : List (List ℤ) → List (List ℤ) → List (List ℤ)
loose_rows rays [] = []
loose_rows rays (r ∷ rows) = cond (is_tight_at rays r) (loose_rows rays rows) (r ∷ loose_rows rays rows)

-- the values say at which rays the row is tight, and that it is at each of so many lines
pub record TellsTight (rays : List (List ℤ)) (lines : ℕ) (r : List ℤ) (bits : List Bool) : Type 0 where
  pub many : length bits ≡ length rays + lines
  pub at_rays : (j : ℕ) → j < length rays → (value_at bits j ≡ true) ↔ (product r (slice_index_or rays j []) ≡ pos 0)
  pub at_lines : (j : ℕ) → length rays ≤ j → j < length bits → value_at bits j ≡ true

-- row by row
abbrev pub AllTellTight : List (List ℤ) → ℕ → List (List ℤ) → List (List Bool) → Type 0
AllTellTight rays lines [] [] = Unit {0}
AllTellTight rays lines [] (b ∷ bits) = ⊥
AllTellTight rays lines (r ∷ rows) [] = ⊥
AllTellTight rays lines (r ∷ rows) (b ∷ bits) = TellsTight rays lines r b × AllTellTight rays lines rows bits

abbrev pub AreReducedBy : List (List ℤ) → List (List ℤ) → List (List ℤ) → Type 0
AreReducedBy form [] [] = Unit {0}
AreReducedBy form [] (t ∷ ts) = ⊥
AreReducedBy form (r ∷ rows) [] = ⊥
AreReducedBy form (r ∷ rows) (t ∷ ts) = IsReducedBy form r t × AreReducedBy form rows ts

-- ---- the list, or the reduction in which a number passes
abbrev pub IsOwnList : ConeContent → List (List ℤ) → List (List ℤ) → Type 0
IsOwnList s lines rays = IsCanonicalOf (suc s.dims) (system_of s.taken) lines rays

abbrev pub IsOwnExcess : ConeContent → RowError → Type 0
IsOwnExcess s (Excess e) = OwnReductionPasses (suc s.dims) s.taken s.rays e
IsOwnExcess s Memory = Unit {0}

-- why no list is reported of: a number passes in it, or it has so many rays, and that is too many
abbrev pub IsOwnCause : ConeContent → Cause → Type 0
IsOwnCause s (of_cause.Excess e) = OwnReductionPasses (suc s.dims) s.taken s.rays e
IsOwnCause s (of_cause.TooMany count) = OwnTooMany (suc s.dims) (system_of s.taken) count

-- ---- as the code goes through the rows
-- whether the row at the place is tight at a ray; past the rays stand lines, at which each is
abbrev pub tight_value : List (List Bool) → ℕ → ℕ → Bool
tight_value rows place ray = cond (nat_lt ray (length rows)) (value_at (slice_index_or rows ray []) place) true

-- the parts of the rows so far
pub record AreParts (rays : List (List ℤ)) (lines : ℕ) (rows tight loose : List (List ℤ))
    (bits : List (List Bool)) : Type 0 where
  pub is_tight : tight ≡ tight_rows rays rows
  pub is_loose : loose ≡ loose_rows rays rows
  pub told : AllTellTight rays lines loose bits

-- the reduction of some row passes
abbrev pub AnyReductionExcess : List (List ℤ) → List (List ℤ) → RowError → Type 0
AnyReductionExcess form rows (Excess e) = (r : List ℤ) × Contains rows r × ReductionPasses (length form) form r e
AnyReductionExcess form rows Memory = Unit {0}

-- the positivity row stands first
abbrev pub IsPositive : ℕ → List LinearRow → Type 0
IsPositive n taken = (kept : List LinearRow) × (taken ≡ inequality (positivity n) ∷ kept)

-- the loss of the own list of the rows added, one of which is named
pub record IsOwnLoss (s : ConeContent) (reason : Cause) (loss : Loss) : Type 0 where
  pub chosen : loss.chosen ≡ s.taken
  pub further : Contains s.taken loss.further
  pub cause : loss.cause ≡ reason

-- after the losses reported before stands that of the own list
pub record TellsOwnLoss (s : ConeContent) (reason : Cause) (before after : List Loss) : Type 0 where
  pub loss : Loss
  pub told : after ≡ before ++ loss ∷ []
  pub own : IsOwnLoss s reason loss

-- ---- which rows are tight at which others
-- the rays of a cone, and after them its lines
abbrev pub columns_of : ConeContent → List (List ℤ)
columns_of s = s.rays ++ s.lines

-- If the old matrix says at which of the cone's rays and lines each row is tight, and all are at its lines, the new
-- one says at which of the rows each of those shown is tight.
abbrev pub TurnsTo : ConeContent → Matrix → List (List ℤ) → Matrix → Type 0
TurnsTo s old shown new = (rows : List (List ℤ)) → old ≡ tight_matrix (columns_of s) rows →
    ((l r : List ℤ) → Contains s.lines l → Contains rows r → product l r ≡ pos 0) → new ≡ tight_matrix rows shown
