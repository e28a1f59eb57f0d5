-- What a test `e >= 0` answers, and an assignment.
use Rattle.std.specs.Prelude.{◌≡◌, ℕ, ℤ, pos, ◌≤ℤ◌, List, slice_set, Option, None, Some}
use Rattle.lra_octagon.specs.Crates.lra_linear_forms.Form.{Form, form_value}
use Rattle.lra_domain.specs.declared.Exactness.{Exactness}
use Rattle.lra_domain.specs.declared.Exactness.TheVariants.{Exact, Flagged}
use Rattle.lra_dbm.specs.{Cells.Cells, Cells.entries, Cells.IsMatrix, Tight.IsStore}
use Rattle.lra_box.specs.declared.interval.Interval.{Interval}
use Rattle.lra_octagon.specs.Tables.{alone, TestsTo, FirstTestPasses, AssignsTo, MatrixAssignPasses, Forgets}
use Rattle.lra_octagon.specs.{Content.CellsFit, Content.has_store, Content.MatrixWithin, Entering.BoundedTo}
use Rattle.lra_octagon.specs.{declared.assigning.Assignment.Assignment, declared.forms.FormShape.FormShape}

abbrev pub MatrixFits : ℕ → Option Cells → Type 0
MatrixFits n None = Unit {0}
MatrixFits n (Some cells) = IsMatrix n cells

-- a matrix tested to a new one by a form of the shape: it keeps the stores that pass, is the table's unless flagged,
-- and covers the table's, also of each matrix within the old one
pub record MatrixTestedTo (n : ℕ) (e : Form) (s : FormShape) (old new : Option Cells) (x : Exactness) : Type 0 where
  pub stores : (l : List ℤ) → has_store n old l → pos 0 ≤ℤ form_value e l → has_store n new l
  pub covers : (b v : Option Cells) → MatrixFits n b → MatrixWithin b old → TestsTo n e s b v → MatrixWithin v new
  pub exact : x ≡ Exact → TestsTo n e s old new
  pub flagged : x ≡ Flagged → FirstTestPasses n e s old
  pub fit : CellsFit n new

-- the entries of x were forgotten, x was made to lie in the interval, and the matrix closed
abbrev pub ConfinedTo : ℕ → ℕ → Interval → Cells → Option Cells → Exactness → Type 0
ConfinedTo n x i old new e = (cells : Cells) × Forgets n x old cells × BoundedTo n (alone n x i) cells new e

-- a matrix in which x got the form's value: it keeps the changed stores, is the table's unless flagged, and covers the
-- table's
pub record MatrixAssignedTo (n x : ℕ) (e : Form) (a : Assignment) (old : Cells) (new : Option Cells) (u : Exactness)
    : Type 0 where
  pub stores : (s : List ℤ) → IsStore n (entries n old) s → has_store n new (slice_set s x (form_value e s))
  pub covers : (v : Option Cells) → AssignsTo n x e a old v → MatrixWithin v new
  pub exact : u ≡ Exact → AssignsTo n x e a old new
  pub flagged : u ≡ Flagged → MatrixAssignPasses n x e a old
  pub fit : CellsFit n new
