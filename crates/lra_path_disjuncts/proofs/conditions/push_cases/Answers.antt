-- Goals of `push_cases`: the end stands in the table, and then both cases.
use Rattle.lra_path_disjuncts.specs.Crates.lra_analysis_spec.MovesOf.{first_case, in_turn, second_case}
use Rattle.lra_path_disjuncts.specs.Crates.{lra_domain.Actions.remove_last, lra_domain.Changes.action_of, lra_domain.Changes.actions_of, lra_domain.Moves.make, lra_domain.Moves.first_then}
use Rattle.lra_path_disjuncts.specs.Tables.{moves_at}
use Rattle.lra_path_disjuncts.proofs.{GuardSteps.cases_have, GuardSteps.grows_on, GuardSteps.grows_to, TableSteps.within}
use Rattle.lra_path_disjuncts.proofs.conditions.push_cases.Goals as goal

pub push_case-requires-clause-end : goal.push_case-requires-clause-end
push_case-requires-clause-end c = within c.push_end.new.entries.items c.in_ok-end.end
    (first_then (make (action_of c.args.change)) (make (remove_last 2))) c.in_ok-end.ensures.has

pub push_case-requires-2-clause-end : goal.push_case-requires-2-clause-end
push_case-requires-2-clause-end c = within c.push_case.new.entries.items c.in_ok-end.end (first_then (make (action_of c.args.change)) (make (remove_last 2)))
    (c.in_ok-one.ensures.grows c.in_ok-end.end (first_then (make (action_of c.args.change)) (make (remove_last 2))) c.in_ok-end.ensures.has)

pub push_join-requires-clause-one : goal.push_join-requires-clause-one
push_join-requires-clause-one c = within c.push_case-2.new.entries.items c.in_ok-one.one
    (first_then (in_turn (actions_of c.in_ok-first.first.items)) (moves_at c.push_end.new.entries.items c.in_ok-end.end))
    (c.in_ok-two.ensures.grows c.in_ok-one.one
    (first_then (in_turn (actions_of c.in_ok-first.first.items)) (moves_at c.push_end.new.entries.items c.in_ok-end.end)) c.in_ok-one.ensures.has)

pub push_join-requires-clause-other : goal.push_join-requires-clause-other
push_join-requires-clause-other c = within c.push_case-2.new.entries.items c.in_ok-two.two
    (first_then (in_turn (actions_of c.in_ok-second.second.items)) (moves_at c.push_case.new.entries.items c.in_ok-end.end)) c.in_ok-two.ensures.has

pub returns-clause-grows : goal.returns-clause-grows
returns-clause-grows c = grows_to c.push_join.result c.args.entries.now.items c.push_case-2.new.entries.items c.push_join.new.entries.items
    (grows_on c.args.entries.now.items c.push_end.new.entries.items c.push_case-2.new.entries.items c.in_ok-end.ensures.grows
    (grows_on c.push_end.new.entries.items c.push_case.new.entries.items c.push_case-2.new.entries.items c.in_ok-one.ensures.grows
    c.in_ok-two.ensures.grows))
    c.push_join.ensures.grows

pub returns-clause-has : goal.returns-clause-has
returns-clause-has c = cases_have c.push_join.result c.push_end.new.entries.items c.push_case.new.entries.items c.push_case-2.new.entries.items
    c.push_join.new.entries.items c.in_ok-end.end c.in_ok-one.one c.in_ok-two.two (first_then (make (action_of c.args.change)) (make (remove_last 2)))
    (in_turn (first_case c.args.live c.args.division.now)) (in_turn (second_case c.args.live c.args.division.now)) c.in_ok-end.ensures.has
    c.in_ok-one.ensures.grows c.in_ok-two.ensures.grows
    (rw c.in_ok-first.ensures at c.in_ok-one.ensures.has) (rw c.in_ok-second.ensures at c.in_ok-two.ensures.has) c.push_join.ensures.has
