use Rattle.std.proofs.Common.{take}
use Rattle.lra_description_pair.specs.Crates.lra_canonical.Echelons.{HaveWidth}
use Rattle.lra_description_pair.specs.OwnLists.{AreReducedBy}
use Rattle.lra_description_pair.proofs.own.all_reduced.Given as goal

abbrev pub invariant-loop-row : goal.invariant-loop-row
invariant-loop-row l = record {
  reduced : AreReducedBy l.form (take l.row-index l.rows) l.all.items;
  widths : HaveWidth l.fn.width l.all.items;
}
