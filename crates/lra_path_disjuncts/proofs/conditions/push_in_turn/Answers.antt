-- Goals of `push_in_turn`: one change more is made.
use Rattle.lra_path_disjuncts.specs.Crates.{lra_domain.Changes.action_of, lra_domain.Changes.actions_of, lra_domain.Moves.make}
use Rattle.lra_path_disjuncts.proofs.{GuardSteps.turned_in, TableSteps.within}
use Rattle.lra_path_disjuncts.proofs.conditions.push_in_turn.Goals as goal

pub push_first_then-requires-clause-first : goal.push_first_then-requires-clause-first
push_first_then-requires-clause-first c = within c.push_make.new.entries.items c.in_ok-first.first (make (action_of c.in-Some.change)) c.in_ok-first.ensures.has

pub push_first_then-requires-clause-then : goal.push_first_then-requires-clause-then
push_first_then-requires-clause-then c = turned_in c.changes.entries.items c.push_make.new.entries.items c.changes.place
    (actions_of c.args.changes.items) c.changes.left.items c.changes.invariant.turned c.in_ok-first.ensures.grows
