-- Goals of `leave_label`: what is left of the value if the label doesn't name what is seen.
use Rattle.lra_pass_stack.proofs.SelectFrames.{case_left, default_left}
use Rattle.lra_pass_stack.proofs.selections.leave_label.Goals as goal

pub returns-in-Default-clause-leaves : goal.returns-in-Default-clause-leaves
returns-in-Default-clause-leaves g c base e labels last all same none =
    default_left g.D.Domain.abstraction base e c.args.label.now labels c.args.value.now c.args.before last all c.in-Default.is none

pub returns-in_ok-exactness-in-Case-clause-leaves : goal.returns-in_ok-exactness-in-Case-clause-leaves
returns-in_ok-exactness-in-Case-clause-leaves g c base e labels last all same none =
    case_left g.D.Domain.abstraction base e c.args.label.now c.in-Case.number labels c.args.seen.now c.args.value.now c.filter_number.new.value c.args.before
    c.in_ok-exactness-in-Case.exactness c.worse.result last all c.in-Case.is same c.in_ok-exactness-in-Case.ensures.leaves c.worse.ensures.is none
