-- Goals of `common`: the bits that are set in both.
use Rattle.std.proofs.lemmas.Slice.Zip.{Zip-more, either_empty_from_Zip}
use Rattle.lra_bits.proofs.Pairs.{common_more, common_end}
use Rattle.lra_bits.proofs.words.common.Goals as goal

pub loop-x-preserved : goal.loop-x-preserved
loop-x-preserved c =
    let n = Zip-more c.loop-x.x-iterator c.next.new.self c.next.result (c.in-Some.x, c.in-Some.y) c.in-Some.is c.next.ensures.steps in
    common_more _ _ _ _ _ _ _ _ _ n.0 n.1 c.in_ok-push.ensures.items c.loop-x.invariant

pub returns : goal.returns
returns c = common_end _ _ _ _ (either_empty_from_Zip c.loop-x.x-iterator c.next.new.self c.next.result c.in-None.is c.next.ensures.steps) c.loop-x.invariant
