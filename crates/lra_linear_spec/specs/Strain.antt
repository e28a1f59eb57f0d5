-- Strain: from which numbers, exactly, a list that is added row by row may lose a row. The list is one of
-- constraints, with the positivity row first, or one of generators. Let S be a beginning of it and c the next row, or a
-- row of S; let S* be the canonical description of the other kind of what S describes. The list exceeds a limit if a
-- number passes the range (1) in the product of c with a row of S*, or in what c and two rows of S* combine to, a line
-- of S* in either direction, but not with itself;
-- (2) in a reduction, of at most as many steps as there are columns, by an echelon form;
-- or if (3) S with c has a canonical description of one of the two kinds with too many rows.
-- The rows that a reduction starts from, and the echelon forms by which it goes, are those of one kind:
-- of the list's own kind, from a row of S, of the canonical description of S, or another such form, by the echelon form
-- of the first few of those rows of S that are tight at all of S* (they hold as equalities; of generators, they can be
-- taken both ways);
-- of the other kind, from a row of S*, a combination of two of them by c, or the other form, by the lines of S* or of
-- (S with c)*.
-- No row of a form is cleared by itself in that form; a row of S that equals it is another row.
-- Each is said with its witness: the lists, the rows, the steps before the one that passes.
use Rattle.std.specs.Prelude.{◌≡◌, ◌≢◌, ℕ, ◌<◌, ◌⊎◌, ℤ, pos, Bool, true, false, cond, List, [], ◌∷◌, ◌++◌, length, take}
use Rattle.std.specs.{List.Contains, Ordering.int_eq}
use Rattle.lra_linear_spec.specs.declared.Excess as E
use Rattle.lra_linear_spec.specs.Canonical.{IsCanonical, IsCanonicalOf}
use Rattle.lra_linear_spec.specs.ConeStrain.{row_limit, ProductPasses, PairPasses, IsPairOf, HasTooMany}
use Rattle.lra_linear_spec.specs.Cones.{both_ways, all_rows, AreDual, with_row}
use Rattle.lra_linear_spec.specs.Descriptions.{LinearRow, rows_of, system_of}
use Rattle.lra_linear_spec.specs.declared.Cause.TheVariants.{Excess, TooMany}
use Rattle.lra_linear_spec.specs.{Echelon.IsEchelonOf, Reduction.ReductionPasses, Vectors.product, declared.Cause.Cause}

-- what is reported about a row that was left out: the rows taken before it, the row, and what passed
pub record Loss : Type 0 where
  pub chosen : List LinearRow
  pub further : LinearRow
  pub cause : Cause

-- ---- (2) reductions of the list's own kind
-- the product with each of the rays is 0 (with the lines of S*, each row of S has product 0 anyway)
abbrev pub is_tight_at : List (List ℤ) → List ℤ → Bool
is_tight_at [] r = true
is_tight_at (t ∷ rays) r = cond (int_eq (product r t) (pos 0)) (is_tight_at rays r) false

-- the rows that are tight at each of the rays, in their order
abbrev pub tight_rows : List (List ℤ) → List (List ℤ) → List (List ℤ)
tight_rows rays [] = []
tight_rows rays (r ∷ rows) = cond (is_tight_at rays r) (r ∷ tight_rows rays rows) (tight_rows rays rows)

-- the echelon form of the first few tight rows
pub record IsOwnForm (rows rays form : List (List ℤ)) : Type 0 where
  pub first : ℕ
  pub is_form : IsEchelonOf form (take first (tight_rows rays rows))

-- a row of the canonical description of what the system generates; a line of it if the form isn't these lines
pub record InCanonical (w : ℕ) (system form : List (List ℤ)) (r : List ℤ) : Type 0 where
  pub lines : List (List ℤ)
  pub rays : List (List ℤ)
  pub canonical : IsCanonicalOf w system lines rays
  pub has : Contains rays r ⊎ (Contains lines r × (form ≢ lines))

-- a row of another echelon form, equal as a vector to none of this form
pub record InOtherForm (IsForm : List (List ℤ) → Type 0) (form : List (List ℤ)) (r : List ℤ) : Type 0 where
  pub other : List (List ℤ)
  pub is_form : IsForm other
  pub has : Contains other r
  pub apart : ¬ (Contains form r)

pub record OwnReductionPasses (w : ℕ) (chosen : List LinearRow) (rays : List (List ℤ)) (e : E.Excess) : Type 0 where
  pub form : List (List ℤ)
  pub is_form : IsOwnForm (rows_of chosen) rays form
  pub start : List ℤ
  pub from : Contains (rows_of chosen) start ⊎ InCanonical w (system_of chosen) form start ⊎
      InOtherForm (IsOwnForm (rows_of chosen) rays) form start
  pub passes : ReductionPasses w form start e

-- ---- (2) reductions of the other kind
-- the lines of S*, or those of (S with c)*
pub record IsNewLines (w : ℕ) (system lines : List (List ℤ)) : Type 0 where
  pub rays : List (List ℤ)
  pub dual : AreDual w system (all_rows lines rays)
  pub canonical : IsCanonical lines rays

abbrev pub IsOtherForm : ℕ → List (List ℤ) → List (List ℤ) → List (List ℤ) → Type 0
IsOtherForm w system lines form = (form ≡ lines) ⊎ IsNewLines w system form

-- a row of S*, a line in either direction; a line if the form isn't the lines of S*
abbrev pub InOther : List (List ℤ) → List (List ℤ) → List (List ℤ) → List ℤ → Type 0
InOther lines rays form r = Contains rays r ⊎ (Contains (both_ways lines) r × (form ≢ lines))

pub record OtherReductionPasses (w : ℕ) (chosen : List LinearRow) (further : LinearRow) (lines rays : List (List ℤ))
    (e : E.Excess) : Type 0 where
  pub form : List (List ℤ)
  pub is_form : IsOtherForm w (with_row further.equal further.row (system_of chosen)) lines form
  pub start : List ℤ
  pub from : InOther lines rays form start ⊎ IsPairOf further.row (all_rows lines rays) start
      ⊎ InOtherForm (IsOtherForm w (with_row further.equal further.row (system_of chosen)) lines) form start
  pub passes : ReductionPasses w form start e

-- ---- (3) the list's own kind has so many rows, and that is too many
pub record OwnTooMany (w : ℕ) (system : List (List ℤ)) (count : ℕ) : Type 0 where
  pub lines : List (List ℤ)
  pub rays : List (List ℤ)
  pub canonical : IsCanonicalOf w system lines rays
  pub are : length rays ≡ count
  pub long : row_limit < count

-- ---- the strain
abbrev pub IsStrained : ℕ → List LinearRow → LinearRow → List (List ℤ) → List (List ℤ) → Cause → Type 0
IsStrained w chosen further lines rays (Excess e) =
    ProductPasses further.row (all_rows lines rays) e ⊎ PairPasses further.row (all_rows lines rays) e ⊎
    OwnReductionPasses w chosen rays e
    ⊎ OtherReductionPasses w chosen further lines rays e
IsStrained w chosen further lines rays (TooMany count) =
    HasTooMany w further.equal further.row lines rays count ⊎
    OwnTooMany w (with_row further.equal further.row (system_of chosen)) count

-- the list exceeds a limit, as the loss reports: with the beginning `chosen` and the row `further`, the next one or one
-- of those
pub record Strains (w : ℕ) (all : List LinearRow) (loss : Loss) : Type 0 where
  pub rest : List LinearRow
  pub begins : all ≡ loss.chosen ++ rest
  pub next : ((later : List LinearRow) × (rest ≡ loss.further ∷ later)) ⊎ Contains loss.chosen loss.further
  pub lines : List (List ℤ)
  pub rays : List (List ℤ)
  pub dual : AreDual w (system_of loss.chosen) (all_rows lines rays)
  pub canonical : IsCanonical lines rays
  pub strained : IsStrained w loss.chosen loss.further lines rays loss.cause
