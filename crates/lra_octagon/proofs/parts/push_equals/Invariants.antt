use Rattle.std.proofs.Common.{◌≡◌, ◌-◌}
use Rattle.lra_linear_spec.specs.declared.ConKind.TheVariants.{Eq}
use Rattle.lra_dbm.specs.Cells.{entry_at}
use Rattle.lra_octagon.specs.Parts.{octagon_equalities}
use Rattle.lra_octagon.proofs.PartLemmas.{Pushing}
use Rattle.lra_octagon.proofs.parts.push_equals.Given as goal

abbrev pub invariant-loop-a : goal.invariant-loop-a
invariant-loop-a l = record {
  dims : l.system.dims ≡ l.matrix.dims;
  pushing : Pushing Eq (octagon_equalities l.matrix.dims (entry_at l.matrix) 0 l.matrix.dims) (octagon_equalities l.matrix.dims (entry_at l.matrix) l.a (l.matrix.dims - l.a)) l.fn.system l.system;
}
