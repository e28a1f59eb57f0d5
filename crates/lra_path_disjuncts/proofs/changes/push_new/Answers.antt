-- The goal of `push_new`: the new variable stands in the table.
use Rattle.lra_path_disjuncts.proofs.TableSteps.{within}
use Rattle.lra_path_disjuncts.proofs.changes.push_new.Goals as goal

pub push_within-requires-clause-before : goal.push_within-requires-clause-before
push_within-requires-clause-before c = within c.push_appended.new.entries.items c.in_ok-appended.appended _ c.in_ok-appended.ensures.has
