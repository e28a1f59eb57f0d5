-- Goals of `lines_among`: the lines among the generators.
use Rattle.std.proofs.Common.{◌≡◌, ◌∙◌, ap, length, sym}
use Rattle.lra_duality.specs.Crates.{lra_linear_spec.Kinds.is_line, lra_linear_spec.declared.GenKind.TheVariants.Point}
use Rattle.lra_duality.proofs.{StartLemmas.line_more, StartLemmas.line_left, start.lines_among.Goals.then-goes_both_ways+in_ok-copy+in_ok-push, start.lines_among.Goals.else-goes_both_ways}
use Rattle.lra_duality.proofs.start.lines_among.Goals as goal

pub loop-place-preserved : goal.loop-place-preserved
loop-place-preserved c =
    let rows = c.rows-rows.result.now in
    let kinds = c.kinds-kinds.result.now in
    let i = c.loop-place.place in
    let r = c.index-rows-place.result in
    let n : length kinds ≡ length rows = c.kinds-kinds.ensures.len ∙ ap length (sym c.rows-rows.ensures.rows) in
    elim c.if-goes_both_ways.branch [
      | then-goes_both_ways+in_ok-copy+in_ok-push w ↦ rw (w.lines-is)
          (line_more is_line rows kinds i r w.in_ok-copy.field-0 Point c.goes_both_ways.result c.loop-place.lines.items w.push.new.self.items n c.loop-place-test.true
          c.index-rows-place.is c.goes_both_ways.ensures w.if-goes_both_ways.true w.in_ok-copy.ensures w.in_ok-push.ensures.items c.loop-place.invariant)
      | else-goes_both_ways w ↦ rw (w.lines-is)
          (line_left is_line rows kinds i r Point c.goes_both_ways.result c.loop-place.lines.items n c.loop-place-test.true c.index-rows-place.is c.goes_both_ways.ensures
          w.if-goes_both_ways.false c.loop-place.invariant)
    ]
