-- Goals of `points_among`: the rays above 0 in column 0.
use Rattle.std.proofs.Common.{◌∙◌, ap, arith, sym, cond, Bool, [], ◌∷◌}
use Rattle.lra_descriptions.specs.ShownLists.{points_of}
use Rattle.lra_descriptions.proofs.{Parted.points_append, Parted.one_kept, Parted.one_left, shown.points_among.Goals.then-is_point+in_ok-copy+in_ok-push, shown.points_among.Goals.else-is_point}
use Rattle.lra_descriptions.proofs.shown.points_among.Goals as goal

pub loop-ray-preserved : goal.loop-ray-preserved
loop-ray-preserved c =
    let r = c.ray-item.result in
    elim c.if-is_point.branch [
      | then-is_point+in_ok-copy+in_ok-push w ↦ rw (w.points-is)
          (one_kept points_of points_append c.args.rays.now c.loop-ray.ray-index r w.in_ok-copy.field-0 c.loop-ray.points.items w.push.new.self.items
          (omega (arith, c.loop-ray-test.true)) c.ray-item.is (ap (λ (b : Bool). cond b (r ∷ []) []) (sym c.is_point.ensures ∙ w.if-is_point.true)) w.in_ok-copy.ensures w.in_ok-push.ensures.items
          c.loop-ray.invariant)
      | else-is_point w ↦ rw (w.points-is)
          (one_left points_of points_append c.args.rays.now c.loop-ray.ray-index r c.loop-ray.points.items (omega (arith, c.loop-ray-test.true)) c.ray-item.is
          (ap (λ (b : Bool). cond b (r ∷ []) []) (sym c.is_point.ensures ∙ w.if-is_point.false)) c.loop-ray.invariant)
    ]
