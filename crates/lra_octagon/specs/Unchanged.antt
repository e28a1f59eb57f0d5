-- Tests that lower no entry: of a tight matrix they are the matrix itself.
use Rattle.std.specs.Prelude.{ℕ, ℤ, pos, ◌+ℤ◌, ◌≤ℤ◌, Some}
use Rattle.lra_octagon.specs.Crates.lra_linear_forms.Form.{Form}
use Rattle.lra_dbm.specs.{Cells.Cells, Cells.entries, Entry.◌⊑◌, Tight.opposite}
use Rattle.lra_octagon.specs.declared.forms.FormShape.TheVariants.{Constant, One, Two, Other}
use Rattle.lra_octagon.specs.{Tables.quotient, declared.forms.FormShape.FormShape}

-- the entry that says `v_i + v_j + q >= 0` is at most q
abbrev pub LowersNothing : ℕ → ℕ → ℕ → ℤ → Cells → Type 0
LowersNothing n i j q cells = entries n cells i (opposite j) ⊑ Some q

-- so is that of the test `e >= 0`; of other shapes that isn't reported
abbrev pub ShapeUnchanged : ℕ → Form → FormShape → Cells → Type 0
ShapeUnchanged n e Constant cells = pos 0 ≤ℤ e.constant
ShapeUnchanged n e (One m i) cells = LowersNothing n i i (quotient e m +ℤ quotient e m) cells
ShapeUnchanged n e (Two m i j) cells = LowersNothing n i j (quotient e m) cells
ShapeUnchanged n e Other cells = ⊥
