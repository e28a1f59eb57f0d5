-- Goals of `push_appended`: both stand in the table.
use Rattle.lra_path_disjuncts.proofs.TableSteps.{within}
use Rattle.lra_path_disjuncts.proofs.changes.push_appended.Goals as goal

pub push_first_then-requires-clause-first : goal.push_first_then-requires-clause-first
push_first_then-requires-clause-first c = within c.push_set.new.entries.items c.in_ok-made.made _ (c.in_ok-set.ensures.grows c.in_ok-made.made _
    c.in_ok-made.ensures.has)

pub push_first_then-requires-clause-then : goal.push_first_then-requires-clause-then
push_first_then-requires-clause-then c = within c.push_set.new.entries.items c.in_ok-set.set _ c.in_ok-set.ensures.has
