use Rattle.std.proofs.Common.{◌≡◌, ◌-◌}
use Rattle.lra_linear_spec.specs.declared.ConKind.TheVariants.{Ge}
use Rattle.lra_dbm.specs.Cells.{entry_at}
use Rattle.lra_octagon.specs.Parts.{octagon_inequalities}
use Rattle.lra_octagon.proofs.PartLemmas.{Pushing}
use Rattle.lra_octagon.proofs.parts.push_unequals.Given as goal

abbrev pub invariant-loop-a : goal.invariant-loop-a
invariant-loop-a l = record {
  dims : l.system.dims ≡ l.matrix.dims;
  pushing : Pushing Ge (octagon_inequalities l.matrix.dims (entry_at l.matrix) 0 l.matrix.dims) (octagon_inequalities l.matrix.dims (entry_at l.matrix) l.a (l.matrix.dims - l.a)) l.fn.system l.system;
}
