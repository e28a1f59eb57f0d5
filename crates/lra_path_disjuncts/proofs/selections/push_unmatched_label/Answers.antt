-- Goals of `push_unmatched_label`: a value is passed, and then the later ones are.
use Rattle.lra_path_disjuncts.proofs.{GuardSteps.grows_to, GuardSteps.still_in, LabelSteps.case_puts, LabelSteps.default_puts, TableSteps.within}
use Rattle.lra_path_disjuncts.proofs.selections.push_unmatched_label.Goals as goal

pub push_first_then-requires-clause-first : goal.push_first_then-requires-clause-first
push_first_then-requires-clause-first c = within c.push_number.new.entries.items c.in_ok-one-in-Case.one _ c.in_ok-one-in-Case.ensures.has

pub push_first_then-requires-clause-then : goal.push_first_then-requires-clause-then
push_first_then-requires-clause-then c = still_in c.args.entries.now.items c.push_number.new.entries.items c.in_ok-one-in-Case.ensures.grows c.args.later
    c.requires.later

pub returns-in_ok-one-in-Case-clause-grows : goal.returns-in_ok-one-in-Case-clause-grows
returns-in_ok-one-in-Case-clause-grows c = grows_to c.push_first_then.result c.args.entries.now.items c.push_number.new.entries.items
    c.push_first_then.new.entries.items c.in_ok-one-in-Case.ensures.grows c.push_first_then.ensures.grows

pub returns-in_ok-one-in-Case-clause-puts : goal.returns-in_ok-one-in-Case-clause-puts
returns-in_ok-one-in-Case-clause-puts c = case_puts c.args.live c.args.seen.now c.push_first_then.result c.args.entries.now.items c.push_number.new.entries.items
    c.push_first_then.new.entries.items c.args.label.now c.in-Case.number c.in_ok-one-in-Case.one c.args.later c.in-Case.is c.in_ok-one-in-Case.ensures.grows
    c.in_ok-one-in-Case.ensures.has c.push_first_then.ensures.has

pub returns-in-Default-clause-puts : goal.returns-in-Default-clause-puts
returns-in-Default-clause-puts c = default_puts c.args.live c.args.seen.now c.args.entries.now.items c.args.label.now c.args.later c.in-Default.is
