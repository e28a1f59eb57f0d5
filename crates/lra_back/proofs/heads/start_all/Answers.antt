-- Goals of `start_all`: the heads of all points.
use Rattle.std.proofs.Common.{◌+◌, List, add-one, refl, subst, sym, take}
use Rattle.lra_back.specs.Operations.{lossy_back_operations}
use Rattle.lra_back.proofs.{HeadSteps.AreFirst, HeadSteps.IsFirst, HeadSteps.first_all, HeadSteps.first_heads, HeadSteps.first_next, HeadSteps.first_started, PathSteps.read_at}
use Rattle.lra_back.proofs.heads.start_all.Goals as goal

pub points-preserved : goal.points-preserved
points-preserved g c =
    let m = g.D.Domain.abstraction in
    let ops = lossy_back_operations m g.D.Backward.backward_abstraction in
    let forward = c.args.forward.now in
    let i = c.points.value-index in
    let x = c.value-item.result in
    let h = c.in_ok-head.head in
    let starts = c.in_ok-head.ensures.starts in
    let first : IsFirst ops m c.dims.result h = record {
      nothing = starts.0;
      void = starts.1;
      starts = starts.2;
      has = c.in_ok-head.ensures.dims;
      fits = c.in_ok-head.ensures.fits;
    } in
    subst (λ (hs : List g.row.D-Head.Denot). AreFirst ops m (take (i + 1) forward) hs) (sym c.in_ok-push.ensures.items)
    (first_next ops m forward i (i + 1) c.points.heads.items x h (add-one i) (read_at forward i x c.points-test.true c.value-item.is) c.points.invariant
    (subst (λ n. IsFirst ops m n h) c.dims.ensures first))

pub returns-clause-started : goal.returns-clause-started
returns-clause-started g c =
    let m = g.D.Domain.abstraction in
    let ops = lossy_back_operations m g.D.Backward.backward_abstraction in
    first_started ops m (λ v. refl) c.args.forward.now c.points.heads.items
    (first_all ops m c.args.forward.now c.points.value-index c.points.heads.items c.points-test.false c.points.invariant)

pub returns-clause-heads : goal.returns-clause-heads
returns-clause-heads g c =
    let m = g.D.Domain.abstraction in
    let ops = lossy_back_operations m g.D.Backward.backward_abstraction in
    first_heads ops m c.args.forward.now c.points.heads.items
    (first_all ops m c.args.forward.now c.points.value-index c.points.heads.items c.points-test.false c.points.invariant)
