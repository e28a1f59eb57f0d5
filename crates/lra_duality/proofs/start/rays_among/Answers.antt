-- Goals of `rays_among`: the points and rays among them.
use Rattle.std.proofs.Common.{◌≡◌, ◌∙◌, ap, length, sym}
use Rattle.lra_duality.specs.Crates.{lra_linear_spec.Kinds.is_line, lra_linear_spec.declared.GenKind.TheVariants.Point}
use Rattle.lra_duality.proofs.{StartLemmas.ray_more, StartLemmas.ray_left, start.rays_among.Goals.then-not-goes_both_ways+in_ok-copy+in_ok-push, start.rays_among.Goals.else-not-goes_both_ways}
use Rattle.lra_duality.proofs.start.rays_among.Goals as goal

pub loop-place-preserved : goal.loop-place-preserved
loop-place-preserved c =
    let rows = c.rows-rows.result.now in
    let kinds = c.kinds-kinds.result.now in
    let i = c.loop-place.place in
    let r = c.index-rows-place.result in
    let n : length kinds ≡ length rows = c.kinds-kinds.ensures.len ∙ ap length (sym c.rows-rows.ensures.rows) in
    elim c.if-not-goes_both_ways.branch [
      | then-not-goes_both_ways+in_ok-copy+in_ok-push w ↦ rw (w.rays-is)
          (ray_more is_line rows kinds i r w.in_ok-copy.field-0 Point c.goes_both_ways.result c.loop-place.rays.items w.push.new.self.items n c.loop-place-test.true
          c.index-rows-place.is c.goes_both_ways.ensures w.if-not-goes_both_ways.true w.in_ok-copy.ensures w.in_ok-push.ensures.items c.loop-place.invariant)
      | else-not-goes_both_ways w ↦ rw (w.rays-is)
          (ray_left is_line rows kinds i r Point c.goes_both_ways.result c.loop-place.rays.items n c.loop-place-test.true c.index-rows-place.is c.goes_both_ways.ensures
          w.if-not-goes_both_ways.false c.loop-place.invariant)
    ]
