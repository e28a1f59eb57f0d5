-- Goals of `next_case`: past the labels, the next statement of a `switch`, or all of it.
use Rattle.std.proofs.Common.{◌<◌, map, refl, ap, subst}
use Rattle.lra_program.specs.ProgramViews.{expr_view, stmt_view, case_view, cases_of}
use Rattle.lra_operations.specs.TreeViews.{arm_view}
use Rattle.lra_inline_steps.specs.{Stack.SwitchLoop, Stack.from_next, Steps.call_steps, Steps.next_left, Steps.cases_left}
use Rattle.lra_inline_steps.proofs.{CaseRows.passed_on, CaseRows.cases_end, CaseRows.case_next, CaseRows.none_steps, CaseRows.fewer_steps, OpenFrames.closed_ok}
use Rattle.lra_inline_steps.proofs.cases.next_case.Goals as goal

pub returns-in-None-clause-leads : goal.returns-in-None-clause-leads
returns-in-None-clause-leads c = λ P path S V at all loop.
    let f = c.args.frame in
    let row = c.args.row in
    let e = expr_view row.value.now in
    let arms = c.pass_labels.new.arms.items in
    let left = passed_on P path f S row.point at e all row.arms.items arms row.rest.now (from_next c.in_ok-next.next) V c.in_ok-next.ensures loop in
    let last = subst (λ z. SwitchLoop P path f S row.point at e all z (map arm_view arms) V) (ap from_next c.in-None.is) left in
    closed_ok P c.close.result _ _ c.selection.result f.live c.close.ensures.written c.selection.ensures
    (λ g a. ((rw a (cases_end P path f S row.point at e all (map arm_view arms) V last), refl), refl))

pub returns-in-None-clause-falls : goal.returns-in-None-clause-falls
returns-in-None-clause-falls c = λ P.
    closed_ok P c.close.result _ (λ k. next_left P k < cases_left P c.args.frame c.args.row.rest.now) c.selection.result c.args.frame.live
    c.close.ensures.written c.selection.ensures
    (λ g a. none_steps (call_steps P c.args.frame.calls_left) c.args.row.arms.items c.pass_labels.new.arms.items c.args.row.rest.now
    (from_next c.in_ok-next.next) c.in_ok-next.ensures (ap from_next c.in-None.is))

pub returns-in-Some-clause-leads : goal.returns-in-Some-clause-leads
returns-in-Some-clause-leads c = λ P path S V at all loop.
    let f = c.args.frame in
    let row = c.args.row in
    let e = expr_view row.value.now in
    let arms = c.pass_labels.new.arms in
    let found = c.in-Some.found in
    let left = passed_on P path f S row.point at e all row.arms.items arms.items row.rest.now (from_next c.in_ok-next.next) V c.in_ok-next.ensures loop in
    let here = subst (λ z. SwitchLoop P path f S row.point at e all z (map arm_view arms.items) V) (ap from_next c.in-Some.is) left in
    case_next P path f S at all (record { point = row.point; value = row.value; arms = arms; rest = found.rest }) (stmt_view found.stmt.now) V here

pub returns-in-Some-clause-falls : goal.returns-in-Some-clause-falls
returns-in-Some-clause-falls c = λ P.
    fewer_steps (call_steps P c.args.frame.calls_left) c.args.row.arms.items c.pass_labels.new.arms.items c.args.row.rest.now
    (from_next c.in_ok-next.next) c.in_ok-next.ensures (stmt_view c.in-Some.found.stmt.now) (cases_of (map case_view c.in-Some.found.rest.now))
    (ap from_next c.in-Some.is)
