-- Goals of `answer_back`: what is left before an assertion fails, or the refusal of its source.
use Rattle.std.proofs.Common.{refl}
use Rattle.lra_commands.proofs.BackOutcomes.{report_answer}
use Rattle.lra_commands.proofs.back_answer.answer_back.Goals as goal

pub returns-in-Ok : goal.returns-in-Ok
returns-in-Ok c = report_answer c.args.number _ c.args.bytes.now _ c.answer_report.result c.requires.least refl c.in-Ok.ensures.back
    c.answer_report.ensures.text c.answer_report.ensures.status
