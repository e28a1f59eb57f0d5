-- Goals of `meet_all`: the value of each head, met with the forward value at its point.
use Rattle.std.proofs.Common.{◌≡◌, ◌<◌, ◌+◌, List, Some, length, add-one, ap, arith, slice_get, subst, sym, ◌∙◌}
use Rattle.lra_back.specs.Operations.{lossy_back_operations}
use Rattle.lra_back.proofs.{MeetSteps.StillMeets, MeetSteps.append_cases, MeetSteps.last_meets, MeetSteps.next_meets, MeetSteps.one_more, PathSteps.read_at, PathSteps.same_there}
use Rattle.lra_back.proofs.meets.meet_all.Goals as goal

pub points-preserved : goal.points-preserved
points-preserved g c =
    let m = g.D.Domain.abstraction in
    let ops = lossy_back_operations m g.D.Backward.backward_abstraction in
    let heads = c.args.going.now.heads.items in
    let forward = c.args.forward.now in
    let values = c.points.values.items in
    let i = c.points.point in
    let h = c.index.result.now in
    let x = c.index-forward-point.result in
    let found = c.in_ok-found.found in
    let inside : i < length forward = c.points-test.true in
    let among : i < length heads = let count = c.requires.count in omega (arith, count, inside) in
    let at = read_at forward i x inside c.index-forward-point.is in
    let there = read_at heads i h among c.index.ensures in
    let met = c.in_ok-found.ensures.met in
    let items = c.in_ok-push.ensures.items in
    record {
      still = subst (λ (vs : List g.row.D.Denot). StillMeets ops heads forward c.args.going.now.flag (i + 1) c.note-flag.result vs) (sym items)
          (next_meets ops heads forward c.args.going.now.flag i
          (i + 1) c.points.flag values h x met.0 found.value met.1 met.2 found.exactness c.note-flag.result
          (add-one i) there at c.points.invariant.still met.3 met.4 met.5 c.note-flag.ensures);
      count = ap length items ∙ one_more values found.value i c.points.invariant.count;
      dims = λ p v is. append_cases (λ q (w : g.row.D.Denot). (y : g.row.D.Denot) → slice_get forward q ≡ Some y → m.dims w ≡ m.dims y) values found.value
          (λ y here. c.in_ok-found.ensures.dims
          ∙ same_there forward i x y at (subst (λ k. slice_get forward k ≡ Some y) c.points.invariant.count here) m.dims)
          c.points.invariant.dims p v (subst (λ (vs : List g.row.D.Denot). slice_get vs p ≡ Some v) items is);
    }

pub returns-clause-met : goal.returns-clause-met
returns-clause-met g c =
    last_meets (lossy_back_operations g.D.Domain.abstraction g.D.Backward.backward_abstraction) c.args.going.now.heads.items c.args.forward.now
    c.args.going.now.flag c.points.point
    c.points.flag c.points.values.items c.points-test.false c.requires.count c.points.invariant.still
