-- Goals of `part`: those of a kind, and the others.
use Rattle.lra_path_segments.specs.TreeSegmentViews.{kind_view}
use Rattle.lra_path_segments.proofs.SegmentLists.{those_more, others_more}
use Rattle.lra_path_segments.proofs.segments.part.Goals as goal

pub each-preserved : goal.each-preserved
each-preserved c =
    let k = kind_view c.args.kind in
    let front = c.each.yielded in
    let x = c.in-Some.stretch in
    let b = c.is_of-is.result in
    record {
      those = those_more k front x c.each.parts.those.items c.put_part.new.parts.those.items b c.is_of-is.ensures c.in_ok-put_part.ensures.those
          c.each.invariant.those;
      others = others_more k front x c.each.parts.others.items c.put_part.new.parts.others.items b c.is_of-is.ensures c.in_ok-put_part.ensures.others
          c.each.invariant.others;
    }
