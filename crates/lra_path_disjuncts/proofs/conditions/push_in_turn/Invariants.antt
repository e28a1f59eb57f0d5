use Rattle.std.proofs.Common.{length}
use Rattle.lra_path_disjuncts.specs.Crates.lra_domain.Changes.{actions_of}
use Rattle.lra_path_disjuncts.specs.{Conditions.IsTurned, Tables.Grows, Tables.IsTable}
use Rattle.lra_path_disjuncts.proofs.conditions.push_in_turn.Given as goal

-- the last ones are made
abbrev pub invariant-changes : goal.invariant-changes
invariant-changes l = record {
  table : IsTable l.entries.items;
  grows : Grows l.fn.entries.items l.entries.items;
  turned : IsTurned l.entries.items l.place (actions_of l.initial.left.items) l.left.items;
}

abbrev pub decreases-changes : goal.decreases-changes
decreases-changes l = length l.left.items
