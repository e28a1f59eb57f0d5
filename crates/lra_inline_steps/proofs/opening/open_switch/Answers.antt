-- Goals of `open_switch`: a `switch`, and its statements.
use Rattle.std.proofs.{Common.map, lemmas.Result.IfOk-weaker}
use Rattle.lra_program.specs.ProgramViews.{expr_view, case_view, cases_of}
use Rattle.lra_inline_steps.specs.{Inlining.points_in, Inlining.program_around, Steps.next_left, Steps.cases_left}
use Rattle.lra_inline_steps.proofs.CaseRows.{cases_begin, own_step_more}
use Rattle.lra_inline_steps.proofs.opening.open_switch.Goals as goal

pub returns-clause-leads : goal.returns-clause-leads
returns-clause-leads c =
    let here = c.args.here.now in
    let before = points_in c.args.sites.now in
    let behind = points_in c.open_point.new.sites in
    let all = cases_of (map case_view c.args.cases.now) in
    c.next_case.ensures.leads (program_around here) here.path.now before behind c.args.label all
    (cases_begin (program_around here) here.path.now here.frame before c.in_ok-point.point c.args.label (expr_view c.args.value.now) all _ behind
    c.new.ensures.items c.in_ok-point.ensures.number c.in_ok-point.ensures.walked c.requires)

pub returns-clause-falls : goal.returns-clause-falls
returns-clause-falls c =
    let P = program_around c.args.here.now in
    IfOk-weaker c.next_case.result _ _ (λ n fewer. own_step_more (next_left P n) (cases_left P c.args.here.now.frame c.args.cases.now) fewer)
    (c.next_case.ensures.falls P)
