use Rattle.std.proofs.Common.{◌≡◌, suc, ◌+◌, ◌-◌, ◌/◌, ◌≤◌}
use Rattle.lra_dbm.specs.Cells.{entry_at}
use Rattle.lra_octagon.specs.Parts.{kind_row, falling}
use Rattle.lra_octagon.proofs.PartLemmas.{Pushing}
use Rattle.lra_octagon.proofs.parts.push_falling.Given as goal

abbrev pub invariant-loop-left : goal.invariant-loop-left
invariant-loop-left l = record {
  dims : l.system.dims ≡ l.matrix.dims;
  few : suc (l.i / 2) + l.left ≤ l.matrix.dims;
  pushing : Pushing l.kind (falling (kind_row l.kind l.matrix.dims (entry_at l.matrix) l.i) (suc (l.i / 2)) (l.matrix.dims - suc (l.i / 2)))
      (falling (kind_row l.kind l.matrix.dims (entry_at l.matrix) l.i) (suc (l.i / 2)) l.left) l.fn.system l.system;
}

abbrev pub decreases-loop-left : goal.decreases-loop-left
decreases-loop-left l = l.left
