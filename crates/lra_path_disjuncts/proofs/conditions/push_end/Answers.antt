-- Goals of `push_end`: both stand in the table.
use Rattle.lra_path_disjuncts.specs.Crates.{lra_domain.Actions.remove_last, lra_domain.Changes.action_of, lra_domain.Moves.make}
use Rattle.lra_path_disjuncts.proofs.{GuardSteps.both_has, GuardSteps.grows_to, GuardSteps.grows_on, TableSteps.within}
use Rattle.lra_path_disjuncts.proofs.conditions.push_end.Goals as goal

pub push_first_then-requires-clause-first : goal.push_first_then-requires-clause-first
push_first_then-requires-clause-first c = within c.push_make-2.new.entries.items c.in_ok-made.made (make (action_of c.args.change))
    (c.in_ok-gone.ensures.grows c.in_ok-made.made (make (action_of c.args.change)) c.in_ok-made.ensures.has)

pub push_first_then-requires-clause-then : goal.push_first_then-requires-clause-then
push_first_then-requires-clause-then c = within c.push_make-2.new.entries.items c.in_ok-gone.gone (make (remove_last 2)) c.in_ok-gone.ensures.has

pub returns-clause-has : goal.returns-clause-has
returns-clause-has c = both_has c.push_first_then.result c.push_make-2.new.entries.items c.push_first_then.new.entries.items c.in_ok-made.made c.in_ok-gone.gone
    (make (action_of c.args.change)) (make (remove_last 2))
    (c.in_ok-gone.ensures.grows c.in_ok-made.made (make (action_of c.args.change)) c.in_ok-made.ensures.has) c.in_ok-gone.ensures.has
    c.push_first_then.ensures.has

pub returns-clause-grows : goal.returns-clause-grows
returns-clause-grows c = grows_to c.push_first_then.result c.args.entries.now.items c.push_make-2.new.entries.items c.push_first_then.new.entries.items
    (grows_on c.args.entries.now.items c.push_make.new.entries.items c.push_make-2.new.entries.items c.in_ok-made.ensures.grows c.in_ok-gone.ensures.grows)
    c.push_first_then.ensures.grows
