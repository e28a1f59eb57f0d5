-- Goals of `take_end`: the last line.
use Rattle.lra_certificate_lines.specs.declared.refusals.LineFault.TheVariants.{BadLine}
use Rattle.lra_verify.specs.Crates.{lra_certificate_spec.Judged.judged_end, lra_certificate_spec.Lines.left_at, lra_certificate_spec.Lines.line_number_at}
use Rattle.lra_certificate_lines.proofs.JudgedLines.{refused_here}
use Rattle.lra_verify.proofs.EndSteps.{end_past}
use Rattle.lra_verify.proofs.body.take_end.Goals as goal

pub returns-else-next-bytes : goal.returns-else-next-bytes
returns-else-next-bytes c =
    let bytes = c.args.bytes.now in
    let next = c.in_ok-next.next in
    refused_here (judged_end (left_at bytes c.args.at)) c.refuse.result (line_number_at bytes next) BadLine c.refuse.ensures
    (end_past bytes c.args.at next c.in_ok-next.ensures.told c.in_ok-next.ensures.within c.if-next-bytes.false)
