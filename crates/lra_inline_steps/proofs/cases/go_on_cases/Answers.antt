-- Goals of `go_on_cases`: after one of the statements of a `switch`.
use Rattle.lra_inline_steps.proofs.OpenFrames.{cases_next}
use Rattle.lra_inline_steps.proofs.cases.go_on_cases.Goals as goal

pub returns-clause-leads : goal.returns-clause-leads
returns-clause-leads c = λ P whole under path V b.
    cases_next P whole under c.args.frame path c.args.stmt.live V c.args.row c.args.stmt.node c.add_arm.new.arms.items c.next_case.result b.0 b.1 b.2
    c.in_ok-add_arm.ensures (c.next_case.ensures.leads P)
