-- Goals of `directions_among`: the other rays.
use Rattle.std.proofs.Common.{◌∙◌, ap, arith, sym, cond, Bool, [], ◌∷◌}
use Rattle.lra_descriptions.specs.ShownLists.{directions_of}
use Rattle.lra_descriptions.proofs.Parted.{directions_append, one_kept, one_left}
use Rattle.lra_descriptions.proofs.shown.directions_among.Goals.{then-not-is_point+in_ok-copy+in_ok-push, else-not-is_point}
use Rattle.lra_descriptions.proofs.shown.directions_among.Goals as goal

pub loop-ray-preserved : goal.loop-ray-preserved
loop-ray-preserved c =
    let r = c.ray-item.result in
    elim c.if-not-is_point.branch [
      | then-not-is_point+in_ok-copy+in_ok-push w ↦ rw (w.directions-is)
          (one_kept directions_of directions_append c.args.rays.now c.loop-ray.ray-index r w.in_ok-copy.field-0 c.loop-ray.directions.items w.push.new.self.items
          (omega (arith, c.loop-ray-test.true)) c.ray-item.is (ap (λ (b : Bool). cond b [] (r ∷ [])) (sym c.is_point.ensures ∙ w.if-not-is_point.true)) w.in_ok-copy.ensures
          w.in_ok-push.ensures.items c.loop-ray.invariant)
      | else-not-is_point w ↦ rw (w.directions-is)
          (one_left directions_of directions_append c.args.rays.now c.loop-ray.ray-index r c.loop-ray.directions.items (omega (arith, c.loop-ray-test.true)) c.ray-item.is
          (ap (λ (b : Bool). cond b [] (r ∷ [])) (sym c.is_point.ensures ∙ w.if-not-is_point.false)) c.loop-ray.invariant)
    ]
