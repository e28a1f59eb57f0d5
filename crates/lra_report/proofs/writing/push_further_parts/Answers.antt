-- Goals of `push_further_parts`: appends the lines of the parts after the first.
use Rattle.std.proofs.Common.{arith}
use Rattle.lra_row_text.proofs.Lists.{drop_front}
use Rattle.lra_report.proofs.Lists.{part_step, parts_end}
use Rattle.lra_report.proofs.writing.push_further_parts.Goals as goal

pub loop-part-preserved : goal.loop-part-preserved
loop-part-preserved c =
    let j = c.loop-part.part-index in
    let parts = c.args.parts.now in
    part_step c.args.names.now _ _ _ _ parts j c.part-item.result
    c.loop-part.invariant (drop_front parts j c.part-item.result c.part-item.is (omega arith)) c.in_ok-writeln.ensures.bytes c.in_ok-push_part.ensures

pub returns : goal.returns
returns c = parts_end c.args.names.now _ _ c.args.parts.now c.loop-part.part-index c.loop-part.invariant (omega arith)
