-- Goals of `take_sources`: the paths from all sources, in order.
use Rattle.std.proofs.Common.{◌+◌, ◌-◌, length, arith}
use Rattle.std.specs.List.{range_with_len}
use Rattle.lra_verify.specs.EdgeViews.{source_by, sources_by}
use Rattle.lra_verify.specs.Crates.lra_certificate_spec.Lines.{left_at}
use Rattle.lra_certificate_lines.proofs.ShowSteps.{turn_more, turn_fault, turn_done}
use Rattle.lra_verify.proofs.EdgeSteps.{numbers_next, numbers_end}
use Rattle.lra_verify.proofs.annotated.AnnotatedProgram.take_sources.Goals as goal

pub loop-source-preserved : goal.loop-source-preserved
loop-source-preserved c =
    let i = c.loop-source.source in
    let n = length c.args.self.now.sources.now in
    let h = c.loop-source-test.true in
    record {
      so_far = turn_more (source_by c.args.self.now) i (range_with_len (i + 1) (n - (i + 1))) (range_with_len i (n - i)) (left_at c.args.bytes.now c.loop-source.next)
          (sources_by c.args.self.now (left_at c.args.bytes.now c.args.at)) (numbers_next i n (omega (arith, h))) c.loop-source.invariant.so_far
          (left_at c.args.bytes.now c.in-Ok.behind) c.in-Ok.ensures.told;
      within = c.in-Ok.ensures.within;
    }

pub returns-in-Err-clause-told : goal.returns-in-Err-clause-told
returns-in-Err-clause-told c =
    let i = c.loop-source.source in
    let n = length c.args.self.now.sources.now in
    let h = c.loop-source-test.true in
    turn_fault (source_by c.args.self.now) i (range_with_len (i + 1) (n - (i + 1))) (range_with_len i (n - i)) (left_at c.args.bytes.now c.loop-source.next)
    (sources_by c.args.self.now (left_at c.args.bytes.now c.args.at)) (numbers_next i n (omega (arith, h))) c.loop-source.invariant.so_far c.in-Err.error c.in-Err.ensures.told

pub returns-clause-told : goal.returns-clause-told
returns-clause-told c =
    let i = c.loop-source.source in
    let n = length c.args.self.now.sources.now in
    let h = c.loop-source-test.false in
    turn_done (source_by c.args.self.now) (range_with_len i (n - i)) (left_at c.args.bytes.now c.loop-source.next) (sources_by c.args.self.now (left_at c.args.bytes.now c.args.at))
    (numbers_end i n (omega (arith, h))) c.loop-source.invariant.so_far
