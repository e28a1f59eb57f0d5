-- Rows reduced by an echelon form.
use Rattle.std.specs.List.{Contains}
use Rattle.std.specs.Prelude.{◌≡◌, ℕ, ◌<◌, ◌⊎◌, ℤ, pos, ◌+ℤ◌, ◌*ℤ◌, ◌≤ℤ◌, List, [], ◌∷◌, ◌++◌, length, Err}
use Rattle.lra_canonical.specs.Crates.lra_linear_spec.declared.Excess as E
use Rattle.lra_canonical.specs.Crates.lra_linear_spec.Echelon.{IsEchelon, Spanned, pivot}
use Rattle.lra_canonical.specs.Crates.lra_linear_spec.LowestTerms.{IsPrimitive, IsLowest}
use Rattle.lra_canonical.specs.Crates.lra_linear_spec.Reduction.{ClearingStep, ReductionPasses, checked_clearing}
use Rattle.lra_canonical.specs.Crates.lra_linear_spec.Vectors.{entry, product}
use Rattle.lra_row.specs.declared.error.RowError.{RowError}
use Rattle.lra_row.specs.declared.error.RowError.TheVariants.{Excess, Memory}

-- rows in reduced echelon form
abbrev pub IsEchelonForm : List (List ℤ) → Type 0
IsEchelonForm form = (pivots : List ℕ) × IsEchelon form pivots

-- ---- solutions
-- u solves the equalities: each row has product 0 with it
abbrev pub SolvesAll : List (List ℤ) → List ℤ → Type 0
SolvesAll rows u = (r : List ℤ) → Contains rows r → product r u ≡ pos 0

-- with the form's equalities, the inequalities r and t have the same solutions
abbrev pub SameSolutions : List (List ℤ) → List ℤ → List ℤ → Type 0
SameSolutions form r t =
    (u : List ℤ) → SolvesAll form u →
    (pos 0 ≤ℤ product r u → pos 0 ≤ℤ product t u) × (pos 0 ≤ℤ product t u → pos 0 ≤ℤ product r u)

-- ---- the reduced row
-- some positive multiple of t is a positive multiple of r and a sum of the form's rows
pub record IsAlong (form : List (List ℤ)) (r t : List ℤ) : Type 0 where
  pub times : ℕ
  pub positive : 0 < times
  pub other : ℕ
  pub other_positive : 0 < other
  pub line : ℕ → ℤ
  pub on_line : Spanned form line
  pub is_sum : (j : ℕ) → pos times *ℤ entry t j ≡ (pos other *ℤ entry r j) +ℤ line j

-- t is r with 0 at the pivot of each row of the form, in lowest terms
pub record IsReducedBy (form : List (List ℤ)) (r t : List ℤ) : Type 0 where
  pub same_length : length t ≡ length r
  pub along : IsAlong form r t
  pub zeros : (line : List ℤ) → Contains form line → entry t (pivot line) ≡ pos 0
  pub lowest : IsPrimitive t ⊎ ((j : ℕ) → entry t j ≡ pos 0)

-- each row with the same solutions as r is reduced to t
abbrev pub IsOneReduced : List (List ℤ) → List ℤ → List ℤ → Type 0
IsOneReduced form r t =
    (other s : List ℤ) → length other ≡ length r → SameSolutions form r other → IsReducedBy form other s → s ≡ t

-- ---- one step
-- r with 0 at the pivot of the line: r itself if it is 0 there
abbrev pub IsCleared : List ℤ → List ℤ → List ℤ → Type 0
IsCleared line r next = ((entry r (pivot line) ≡ pos 0) × (next ≡ r)) ⊎ ClearingStep line r next

abbrev pub IsClearingExcess : List ℤ → List ℤ → RowError → Type 0
IsClearingExcess line r (Excess e) = (¬ (entry r (pivot line) ≡ pos 0)) × (checked_clearing line r ≡ Err e)
IsClearingExcess line r Memory = Unit {0}

-- ---- the chain of steps, by the rows of the form in their order
abbrev pub Clears : List (List ℤ) → List ℤ → List ℤ → Type 0
Clears [] r last = last ≡ r
Clears (line ∷ form) r last = (next : List ℤ) × IsCleared line r next × Clears form next last

-- no number passes: each step is made, and the last row is taken in lowest terms
abbrev pub IsChainEnd : List (List ℤ) → List ℤ → List ℤ → Type 0
IsChainEnd form r t = (last : List ℤ) × Clears form r last × IsLowest last t

-- a number passes: the steps before the one by `line` are made, and e is the first number that passes in that one
pub record FirstPassing (form : List (List ℤ)) (r : List ℤ) (e : E.Excess) : Type 0 where
  pub earlier : List (List ℤ)
  pub line : List ℤ
  pub later : List (List ℤ)
  pub is : form ≡ earlier ++ line ∷ later
  pub last : List ℤ
  pub clears : Clears earlier r last
  pub cancels : ¬ (entry last (pivot line) ≡ pos 0)
  pub passes : checked_clearing line last ≡ Err e

-- an excess is the first of the chain, and so the strain of a reduction; running out of memory says nothing
abbrev pub IsFirstExcess : List (List ℤ) → List ℤ → RowError → Type 0
IsFirstExcess form r (Excess e) = FirstPassing form r e
IsFirstExcess form r Memory = Unit {0}

abbrev pub IsReductionExcess : List (List ℤ) → List ℤ → RowError → Type 0
IsReductionExcess form r (Excess e) = ReductionPasses (length form) form r e
IsReductionExcess form r Memory = Unit {0}
