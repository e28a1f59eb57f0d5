-- Goals of `equalities_among`: the equalities among the constraints.
use Rattle.std.proofs.Common.{◌≡◌, ◌∙◌, ap, length, sym}
use Rattle.lra_duality.specs.Crates.{lra_linear_spec.Kinds.is_equality, lra_linear_spec.declared.ConKind.TheVariants.Ge}
use Rattle.lra_duality.proofs.{StartLemmas.line_more, StartLemmas.line_left, facets.equalities_among.Goals.then-is_equality+in_ok-copy+in_ok-push, facets.equalities_among.Goals.else-is_equality}
use Rattle.lra_duality.proofs.facets.equalities_among.Goals as goal

pub loop-place-preserved : goal.loop-place-preserved
loop-place-preserved c =
    let rows = c.rows-rows.result.now in
    let kinds = c.kinds-kinds.result.now in
    let i = c.loop-place.place in
    let r = c.index-rows-place.result in
    let n : length kinds ≡ length rows = c.kinds-kinds.ensures.len ∙ ap length (sym c.rows-rows.ensures.rows) in
    elim c.if-is_equality.branch [
      | then-is_equality+in_ok-copy+in_ok-push w ↦ rw (w.lines-is)
          (line_more is_equality rows kinds i r w.in_ok-copy.field-0 Ge c.is_equality.result c.loop-place.lines.items w.push.new.self.items n c.loop-place-test.true
          c.index-rows-place.is c.is_equality.ensures w.if-is_equality.true w.in_ok-copy.ensures w.in_ok-push.ensures.items c.loop-place.invariant)
      | else-is_equality w ↦ rw (w.lines-is)
          (line_left is_equality rows kinds i r Ge c.is_equality.result c.loop-place.lines.items n c.loop-place-test.true c.index-rows-place.is c.is_equality.ensures
          w.if-is_equality.false c.loop-place.invariant)
    ]
