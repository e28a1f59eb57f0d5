-- Goals of `take_source`: the paths from a source to all points, in order.
use Rattle.std.proofs.Common.{◌+◌, ◌-◌, length, arith}
use Rattle.std.specs.List.{range_with_len}
use Rattle.lra_verify.specs.EdgeViews.{source_by, paths_to_by}
use Rattle.lra_verify.specs.Crates.lra_certificate_spec.Lines.{left_at}
use Rattle.lra_certificate_lines.proofs.ShowSteps.{turn_more, turn_fault, turn_done}
use Rattle.lra_verify.proofs.EdgeSteps.{numbers_next, numbers_end}
use Rattle.lra_verify.proofs.annotated.AnnotatedProgram.take_source.Goals as goal

pub loop-point-preserved : goal.loop-point-preserved
loop-point-preserved c =
    let i = c.loop-point.point in
    let n = length c.args.self.now.sites.now in
    let h = c.loop-point-test.true in
    record {
      so_far = turn_more (paths_to_by c.args.self.now c.args.source) i (range_with_len (i + 1) (n - (i + 1))) (range_with_len i (n - i)) (left_at c.args.bytes.now c.loop-point.next)
          (source_by c.args.self.now c.args.source (left_at c.args.bytes.now c.args.at)) (numbers_next i n (omega (arith, h))) c.loop-point.invariant.so_far
          (left_at c.args.bytes.now c.in-Ok.behind) c.in-Ok.ensures.told;
      within = c.in-Ok.ensures.within;
    }

pub returns-in-Err-clause-told : goal.returns-in-Err-clause-told
returns-in-Err-clause-told c =
    let i = c.loop-point.point in
    let n = length c.args.self.now.sites.now in
    let h = c.loop-point-test.true in
    turn_fault (paths_to_by c.args.self.now c.args.source) i (range_with_len (i + 1) (n - (i + 1))) (range_with_len i (n - i)) (left_at c.args.bytes.now c.loop-point.next)
    (source_by c.args.self.now c.args.source (left_at c.args.bytes.now c.args.at)) (numbers_next i n (omega (arith, h))) c.loop-point.invariant.so_far c.in-Err.error c.in-Err.ensures.told

pub returns-clause-told : goal.returns-clause-told
returns-clause-told c =
    let i = c.loop-point.point in
    let n = length c.args.self.now.sites.now in
    let h = c.loop-point-test.false in
    turn_done (paths_to_by c.args.self.now c.args.source) (range_with_len i (n - i)) (left_at c.args.bytes.now c.loop-point.next)
    (source_by c.args.self.now c.args.source (left_at c.args.bytes.now c.args.at))
    (numbers_end i n (omega (arith, h))) c.loop-point.invariant.so_far
