use Rattle.std.proofs.Common.{length}
use Rattle.lra_path_disjuncts.specs.{PassedLabels.ArePassed, Tables.Grows, Tables.IsTable}
use Rattle.lra_path_disjuncts.proofs.selections.push_unmatched.Given as goal

-- the last labels are passed
abbrev pub invariant-arms : goal.invariant-arms
invariant-arms l = record {
  table : IsTable l.entries.items;
  grows : Grows l.fn.entries.items l.entries.items;
  passed : ArePassed l.entries.items l.live l.seen l.arms l.left l.place;
}

abbrev pub decreases-arms : goal.decreases-arms
decreases-arms l = length l.left
