-- Goals of `inequalities_among`: the inequalities among them.
use Rattle.std.proofs.Common.{◌≡◌, ◌∙◌, ap, length, sym}
use Rattle.lra_duality.specs.Crates.{lra_linear_spec.Kinds.is_equality, lra_linear_spec.declared.ConKind.TheVariants.Ge}
use Rattle.lra_duality.proofs.StartLemmas.{ray_more, ray_left}
use Rattle.lra_duality.proofs.facets.inequalities_among.Goals.{then-not-is_equality+in_ok-copy+in_ok-push, else-not-is_equality}
use Rattle.lra_duality.proofs.facets.inequalities_among.Goals as goal

pub loop-place-preserved : goal.loop-place-preserved
loop-place-preserved c =
    let rows = c.rows-rows.result.now in
    let kinds = c.kinds-kinds.result.now in
    let i = c.loop-place.place in
    let r = c.index-rows-place.result in
    let n : length kinds ≡ length rows = c.kinds-kinds.ensures.len ∙ ap length (sym c.rows-rows.ensures.rows) in
    elim c.if-not-is_equality.branch [
      | then-not-is_equality+in_ok-copy+in_ok-push w ↦ rw (w.rays-is)
          (ray_more is_equality rows kinds i r w.in_ok-copy.field-0 Ge c.is_equality.result c.loop-place.rays.items w.push.new.self.items n c.loop-place-test.true
          c.index-rows-place.is c.is_equality.ensures w.if-not-is_equality.true w.in_ok-copy.ensures w.in_ok-push.ensures.items c.loop-place.invariant)
      | else-not-is_equality w ↦ rw (w.rays-is)
          (ray_left is_equality rows kinds i r Ge c.is_equality.result c.loop-place.rays.items n c.loop-place-test.true c.index-rows-place.is c.is_equality.ensures
          w.if-not-is_equality.false c.loop-place.invariant)
    ]
