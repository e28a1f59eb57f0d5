-- Goals of `tell_last`: of each part whether it goes, if only the last is new.
use Rattle.std.proofs.{Common.◌≡◌, Common.[], Common.arith, lemmas.Grind.common_steps}
use Rattle.lra_powerset.proofs.AntichainLemmas.{last_alike, last_ends, last_next, last_starts}
use Rattle.lra_powerset.proofs.reduction.tell_last.Goals as goal

pub loop-part-init : goal.loop-part-init
loop-part-init g c =
    let none : c.new-told.result.items ≡ [] = grind (arith, common_steps) in
    rw none (last_starts g.D.Domain.abstraction c.args.front.now c.args.last.now)

pub lies_below-requires : goal.lies_below-requires
lies_below-requires g c = last_alike g.D.Domain.abstraction (g.D.Domain.abstraction.dims c.args.last.now) c.args.front.now
    c.loop-part.rest.now c.in-Some.behind.now c.in-Some.part.now c.args.last.now c.loop-part.told.items c.loop-part.invariant
    c.in-Some.ensures.cases.0 c.requires.alike

pub loop-part-preserved : goal.loop-part-preserved
loop-part-preserved g c =
    rw c.in_ok-push.ensures.items (last_next g.D.Domain.abstraction c.args.front.now c.loop-part.rest.now c.in-Some.behind.now
    c.in-Some.part.now c.args.last.now c.loop-part.told.items c.lies_below.result c.loop-part.invariant
    c.in-Some.ensures.cases.0 c.requires.apart c.lies_below.ensures)

pub returns : goal.returns
returns g c =
    let none : c.loop-part.rest.now ≡ [] = grind (arith, common_steps) in
    rw c.in_ok-push-2.ensures.items (last_ends g.D.Domain.abstraction c.args.front.now c.loop-part.rest.now c.args.last.now
    c.loop-part.told.items c.lies_in_some.result c.loop-part.invariant none c.lies_in_some.ensures)
