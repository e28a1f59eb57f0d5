-- Goals of `ray_saturation`: which of the positivity row and the constraints are tight at which points and rays.
use Rattle.std.proofs.Common.{◌≡◌, ◌∙◌, ◌∷◌, ap, length, sym}
use Rattle.lra_duality.specs.Crates.{lra_bits.Matrix.Matrix, lra_linear_spec.Descriptions.inequality, lra_linear_spec.Polyhedra.positivity, lra_linear_spec.declared.GenKind.TheVariants.Point}
use Rattle.lra_duality.proofs.StartLemmas.{matrix_more, matrix_left}
use Rattle.lra_duality.proofs.start.ray_saturation.Goals.{then-not-goes_both_ways+in_ok-values_of+in_ok-add_row, else-not-goes_both_ways}
use Rattle.lra_duality.proofs.start.ray_saturation.Goals as goal

pub loop-place-preserved : goal.loop-place-preserved
loop-place-preserved c =
    let rows = c.rows-rows.result.now in
    let kinds = c.kinds-kinds.result.now in
    let i = c.loop-place.place in
    let r = c.index-rows-place.result in
    let m = c.args.saturation.now in
    let old = c.loop-place.matrix in
    let d = c.args.list.now.dims in
    let n : length kinds ≡ length rows = c.kinds-kinds.ensures.len ∙ ap length (sym c.rows-rows.ensures.rows) in
    elim c.if-not-goes_both_ways.branch [
      | then-not-goes_both_ways+in_ok-values_of+in_ok-add_row w ↦ rw (w.matrix-is) (record {
        width = ap (λ (x : Matrix). x.width) w.in_ok-add_row.ensures.added ∙ c.loop-place.invariant.width;
        rows = λ given e. matrix_more d given rows kinds i r Point c.goes_both_ways.result c.is_direction-first.result w.in_ok-values_of.field-0 m old w.add_row.new.self n c.loop-place-test.true
            c.index-rows-place.is c.goes_both_ways.ensures w.if-not-goes_both_ways.true c.is_direction-first.ensures w.in_ok-values_of.ensures e w.in_ok-add_row.ensures.added
            (c.loop-place.invariant.rows given e);
      })
      | else-not-goes_both_ways w ↦ rw (w.matrix-is) (record {
        width = c.loop-place.invariant.width;
        rows = λ given e. matrix_left (inequality (positivity d) ∷ given) rows kinds i r Point c.goes_both_ways.result old n c.loop-place-test.true c.index-rows-place.is
            c.goes_both_ways.ensures w.if-not-goes_both_ways.false (c.loop-place.invariant.rows given e);
      })
    ]
