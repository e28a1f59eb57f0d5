use Rattle.std.proofs.Common.{◌≡◌, suc, ◌-◌, ◌/◌}
use Rattle.lra_dbm.specs.Cells.{entry_at}
use Rattle.lra_octagon.specs.Parts.{kind_row, rising}
use Rattle.lra_octagon.proofs.PartLemmas.{Pushing}
use Rattle.lra_octagon.proofs.parts.push_rising.Given as goal

abbrev pub invariant-loop-b : goal.invariant-loop-b
invariant-loop-b l = record {
  dims : l.system.dims ≡ l.matrix.dims;
  pushing : Pushing l.kind (rising (kind_row l.kind l.matrix.dims (entry_at l.matrix) l.i) (suc (l.i / 2)) (l.matrix.dims - suc (l.i / 2)))
      (rising (kind_row l.kind l.matrix.dims (entry_at l.matrix) l.i) l.b (l.matrix.dims - l.b)) l.fn.system l.system;
}
