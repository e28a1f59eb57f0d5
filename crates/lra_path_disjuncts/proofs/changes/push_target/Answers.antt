-- The goal of `push_target`: the value stands in the table.
use Rattle.lra_path_disjuncts.proofs.TableSteps.{within}
use Rattle.lra_path_disjuncts.proofs.changes.push_target.Goals as goal

pub push_within-requires-clause-before : goal.push_within-requires-clause-before
push_within-requires-clause-before c = within c.push_set.new.entries.items c.in_ok-set-in-Variable.set _ c.in_ok-set-in-Variable.ensures.has
