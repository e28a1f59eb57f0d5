-- Goals of `push_bounds`: both tests stand in the table.
use Rattle.lra_path_disjuncts.proofs.TableSteps.{within}
use Rattle.lra_path_disjuncts.proofs.changes.push_bounds.Goals as goal

pub push_first_then-requires-clause-first : goal.push_first_then-requires-clause-first
push_first_then-requires-clause-first c = within c.push_bound-2.new.entries.items c.in_ok-low.low _ (c.in_ok-high.ensures.grows c.in_ok-low.low _
    c.in_ok-low.ensures.has)

pub push_first_then-requires-clause-then : goal.push_first_then-requires-clause-then
push_first_then-requires-clause-then c = within c.push_bound-2.new.entries.items c.in_ok-high.high _ c.in_ok-high.ensures.has
