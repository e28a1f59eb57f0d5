-- Goals of `turn`: the point's head grows by the point's next value.
use Rattle.std.proofs.Common.{◌<◌, length, arith}
use Rattle.lra_back.proofs.{HeadSteps.heads_set, PathSteps.read_at}
use Rattle.lra_back.proofs.tasks.Task.turn.Goals as goal

pub returns-clause-heads : goal.returns-clause-heads
returns-clause-heads g c =
    let heads = c.args.going.now.heads.items in
    let p = c.args.point in
    let h = c.index_mut.result.now in
    let count = c.requires.heads.count in
    let inside : p < length heads = omega (arith, c.requires.point, count) in
    heads_set g.D.Domain.abstraction c.args.self.now.forward.now heads p h c.grow.new.head c.requires.heads (read_at heads p h inside c.index_mut.ensures.value)
    c.grow.ensures.dims c.in_ok-growth.ensures.fits
