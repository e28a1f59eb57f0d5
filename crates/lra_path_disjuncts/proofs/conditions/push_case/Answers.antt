-- Goals of `push_case`: the end stands where it stood.
use Rattle.lra_path_disjuncts.specs.Crates.{lra_analysis_spec.MovesOf.in_turn, lra_domain.Changes.actions_of}
use Rattle.lra_path_disjuncts.proofs.{GuardSteps.still_in, GuardSteps.case_has, TableSteps.within}
use Rattle.lra_path_disjuncts.proofs.conditions.push_case.Goals as goal

pub push_first_then-requires-clause-first : goal.push_first_then-requires-clause-first
push_first_then-requires-clause-first c = within c.push_in_turn.new.entries.items c.in_ok-first.first (in_turn (actions_of c.args.begun.items))
    c.in_ok-first.ensures.has

pub push_first_then-requires-clause-then : goal.push_first_then-requires-clause-then
push_first_then-requires-clause-then c = still_in c.args.entries.now.items c.push_in_turn.new.entries.items c.in_ok-first.ensures.grows c.args.end
    c.requires.end

pub returns-clause-has : goal.returns-clause-has
returns-clause-has c = case_has c.push_first_then.result c.args.entries.now.items c.push_in_turn.new.entries.items c.push_first_then.new.entries.items
    c.in_ok-first.first c.args.end (in_turn (actions_of c.args.begun.items)) c.in_ok-first.ensures.grows c.requires.end c.in_ok-first.ensures.has
    c.push_first_then.ensures.has
