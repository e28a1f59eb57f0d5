-- Goals of `take_line`: what comes after the line of a number, which may be skipped.
use Rattle.std.proofs.Common.{◌∙◌, sym}
use Rattle.lra_calc.proofs.SessionLemmas.{refused_steps}
use Rattle.lra_calc.proofs.calculator.take_line.Goals as goal

pub returns-in-Err-Refused-clause-steps : goal.returns-in-Err-Refused-clause-steps
returns-in-Err-Refused-clause-steps c =
    refused_steps c.args.number c.args.session c.args.line.now c.in-Err-Refused.fault (sym c.is_skipped.ensures ∙ c.if-is_skipped.false)
    (rw c.in-Err-Refused.field-0-is at c.in-Err-Refused.ensures.gives)
