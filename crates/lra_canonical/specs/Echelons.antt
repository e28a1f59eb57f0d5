-- Reduced echelon forms, made row by row.
use Rattle.std.specs.Prelude.{◌≡◌, ℕ, ◌<◌, ◌⊎◌, ℤ, pos, ◌<ℤ◌, List, [], ◌∷◌, ◌++◌, length, take, Option, Some, None}
use Rattle.std.specs.{List.Contains, List.All, Prelude.Err}
use Rattle.lra_canonical.specs.Crates.lra_linear_spec.declared.Excess as E
use Rattle.lra_canonical.specs.Crates.lra_linear_spec.Echelon.{Before, IsEchelonOf, pivot}
use Rattle.lra_canonical.specs.Crates.lra_linear_spec.Reduction.{ReductionPasses, checked_clearing}
use Rattle.lra_canonical.specs.Crates.lra_linear_spec.Strain.{InOtherForm}
use Rattle.lra_canonical.specs.Crates.lra_linear_spec.Vectors.{entry, negated}
use Rattle.lra_row.specs.declared.error.RowError.{RowError}
use Rattle.lra_row.specs.declared.error.RowError.TheVariants.{Excess, Memory}
use Rattle.lra_canonical.specs.Reduced.{SolvesAll, IsReducedBy, IsCleared, IsChainEnd, FirstPassing}

-- ---- solutions
-- as equalities, the rows and the others have the same solutions
abbrev pub SameEqualities : List (List ℤ) → List (List ℤ) → Type 0
SameEqualities rows others = (u : List ℤ) → (SolvesAll rows u → SolvesAll others u) ×
    (SolvesAll others u → SolvesAll rows u)

abbrev pub HaveWidth : ℕ → List (List ℤ) → Type 0
HaveWidth w rows = All (λ r. length r ≡ w) rows

abbrev pub HaveOneWidth : List (List ℤ) → Type 0
HaveOneWidth rows = (w : ℕ) × (0 < w) × HaveWidth w rows

-- each list of equalities with the same solutions has this echelon form
abbrev pub IsOneForm : List (List ℤ) → List (List ℤ) → Type 0
IsOneForm rows form =
    (w : ℕ) → HaveWidth w rows → (others other : List (List ℤ)) → HaveWidth w others → SameEqualities rows others →
    HaveWidth w other → IsEchelonOf other others → other ≡ form

-- ---- one more row
-- the row or its negative, whichever is positive at its pivot; none of a row of zeros
abbrev pub IsDirected : List ℤ → Option (List ℤ) → Type 0
IsDirected t None = (j : ℕ) → entry t j ≡ pos 0
IsDirected t (Some r) = (pos 0 <ℤ entry r (pivot r)) × ((r ≡ t) ⊎ (r ≡ negated t))

-- row by row
abbrev pub AreCleared : List ℤ → List (List ℤ) → List (List ℤ) → Type 0
AreCleared line [] [] = Unit {0}
AreCleared line [] (t ∷ ts) = ⊥
AreCleared line (r ∷ rows) [] = ⊥
AreCleared line (r ∷ rows) (t ∷ ts) = IsCleared line r t × AreCleared line rows ts

-- a number passes as the row is cleared, after those before it were
pub record ClearedPasses (line : List ℤ) (rows : List (List ℤ)) (e : E.Excess) : Type 0 where
  pub earlier : List (List ℤ)
  pub row : List ℤ
  pub later : List (List ℤ)
  pub is : rows ≡ earlier ++ row ∷ later
  pub made : List (List ℤ)
  pub cleared : AreCleared line earlier made
  pub cancels : ¬ (entry row (pivot line) ≡ pos 0)
  pub passes : checked_clearing line row ≡ Err e

abbrev pub IsClearedExcess : List ℤ → List (List ℤ) → RowError → Type 0
IsClearedExcess line rows (Excess e) = ClearedPasses line rows e
IsClearedExcess line rows Memory = Unit {0}

abbrev pub StartsAfter : List ℤ → List (List ℤ) → Type 0
StartsAfter line [] = Unit {0}
StartsAfter line (r ∷ rows) = ¬ (Before (pivot r) (pivot line))

-- the form at the line's place: first the rows with a pivot before the line's
pub record IsPlaced (form : List (List ℤ)) (line : List ℤ) (low high : List (List ℤ)) : Type 0 where
  pub is : form ≡ low ++ high
  pub before : (r : List ℤ) → Contains low r → Before (pivot r) (pivot line)
  pub behind : StartsAfter line high

-- the line in its place, and the rows before it cleared at its pivot
pub record IsInserted (form : List (List ℤ)) (line : List ℤ) (out : List (List ℤ)) : Type 0 where
  pub low : List (List ℤ)
  pub high : List (List ℤ)
  pub placed : IsPlaced form line low high
  pub new : List (List ℤ)
  pub cleared : AreCleared line low new
  pub result : out ≡ new ++ line ∷ high

pub record InsertionPasses (form : List (List ℤ)) (line : List ℤ) (e : E.Excess) : Type 0 where
  pub low : List (List ℤ)
  pub high : List (List ℤ)
  pub placed : IsPlaced form line low high
  pub passes : ClearedPasses line low e

abbrev pub IsInsertionExcess : List (List ℤ) → List ℤ → RowError → Type 0
IsInsertionExcess form line (Excess e) = InsertionPasses form line e
IsInsertionExcess form line Memory = Unit {0}

-- the row, reduced by the form to t; a line in either direction has its place in the form, a row of zeros none
pub record IsExtended (form : List (List ℤ)) (row : List ℤ) (out : List (List ℤ)) : Type 0 where
  pub rest : List ℤ
  pub reduced : IsReducedBy form row rest
  pub chain : IsChainEnd form row rest
  pub extended : (IsDirected rest None × (out ≡ form)) ⊎
      ((line : List ℤ) × IsDirected rest (Some line) × IsInserted form line out)

-- the first number that passes: as the row is reduced, or then as the form's rows are cleared
pub record ClearingPasses (form : List (List ℤ)) (row : List ℤ) (e : E.Excess) : Type 0 where
  pub rest : List ℤ
  pub reduced : IsReducedBy form row rest
  pub chain : IsChainEnd form row rest
  pub line : List ℤ
  pub directed : IsDirected rest (Some line)
  pub passes : InsertionPasses form line e

abbrev pub IsExtensionExcess : List (List ℤ) → List ℤ → RowError → Type 0
IsExtensionExcess form row (Excess e) = FirstPassing form row e ⊎ ClearingPasses form row e
IsExtensionExcess form row Memory = Unit {0}

-- ---- the rows in their order
abbrev pub Extends : List (List ℤ) → List (List ℤ) → List (List ℤ) → Type 0
Extends form [] end = end ≡ form
Extends form (row ∷ rows) end = (next : List (List ℤ)) × IsExtended form row next × Extends next rows end

-- the rows before it have a form, and as it is extended by the row the first number passes
pub record FirstPassingRow (rows : List (List ℤ)) (e : RowError) : Type 0 where
  pub earlier : List (List ℤ)
  pub row : List ℤ
  pub later : List (List ℤ)
  pub is : rows ≡ earlier ++ row ∷ later
  pub form : List (List ℤ)
  pub made : Extends [] earlier form
  pub passes : IsExtensionExcess form row e

abbrev pub IsFirstRowExcess : List (List ℤ) → RowError → Type 0
IsFirstRowExcess rows (Excess e) = FirstPassingRow rows (Excess e)
IsFirstRowExcess rows Memory = Unit {0}

-- ---- the strain: a reduction by the form of the first few rows passes, from a row or from another such form
abbrev pub IsPrefixForm : List (List ℤ) → List (List ℤ) → Type 0
IsPrefixForm rows form = (first : ℕ) × IsEchelonOf form (take first rows)

pub record EchelonPasses (rows : List (List ℤ)) (e : E.Excess) : Type 0 where
  pub form : List (List ℤ)
  pub is_form : IsPrefixForm rows form
  pub start : List ℤ
  pub from : Contains rows start ⊎ InOtherForm (IsPrefixForm rows) form start
  pub passes : ReductionPasses (length start) form start e
  pub start_width : (w : ℕ) → HaveWidth w rows → length start ≡ w

abbrev pub IsEchelonExcess : List (List ℤ) → RowError → Type 0
IsEchelonExcess rows (Excess e) = EchelonPasses rows e
IsEchelonExcess rows Memory = Unit {0}
