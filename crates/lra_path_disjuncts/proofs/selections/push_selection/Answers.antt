-- Goals of `push_selection`: the value is seen once, and goes to the label.
use Rattle.lra_program.specs.ProgramViews.{expr_view}
use Rattle.lra_path_disjuncts.proofs.{LabelSteps.case_selected, LabelSteps.default_selected, SegmentMoveSteps.seen_so}
use Rattle.lra_path_disjuncts.proofs.selections.push_selection.Goals as goal

pub push_number-requires-clause-width : goal.push_number-requires-clause-width
push_number-requires-clause-width c = seen_so c.args.live c.args.selection.base (expr_view c.args.selection.value.now) c.in_ok-seen.seen c.in_ok-seen.ensures

pub push_unmatched-requires-clause-width : goal.push_unmatched-requires-clause-width
push_unmatched-requires-clause-width c =
    seen_so c.args.live c.args.selection.base (expr_view c.args.selection.value.now) c.in_ok-seen.seen c.in_ok-seen.ensures

pub returns-in-Case-clause-has : goal.returns-in-Case-clause-has
returns-in-Case-clause-has c = case_selected c.push_number.result c.push_number.new.entries.items c.args.live c.args.selection c.args.label.now
    c.in_ok-seen.seen c.in-Case.number c.in-Case.is c.in_ok-seen.ensures c.push_number.ensures.has

pub returns-clause-has : goal.returns-clause-has
returns-clause-has c = default_selected c.push_unmatched.result c.push_unmatched.new.entries.items c.args.live c.args.selection c.args.label.now
    c.in_ok-seen.seen c.in-Default.is c.in_ok-seen.ensures c.push_unmatched.ensures.has
