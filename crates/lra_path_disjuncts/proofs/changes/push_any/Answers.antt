-- The goal of `push_any`: the new variable stands in the table.
use Rattle.lra_path_disjuncts.proofs.TableSteps.{within}
use Rattle.lra_path_disjuncts.proofs.changes.push_any.Goals as goal

pub push_within-requires-clause-before : goal.push_within-requires-clause-before
push_within-requires-clause-before c = within c.push_make.new.entries.items c.in_ok-made.made _ c.in_ok-made.ensures.has
