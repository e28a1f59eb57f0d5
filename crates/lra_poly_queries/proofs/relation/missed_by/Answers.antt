-- Goals of `missed_by`: which signs the form misses with each of the generators.
use Rattle.std.proofs.{Common.◌≡◌, Common.◌∙◌, Common.◌∷◌, Common.[], Common.ap, Common.length, Common.sym, Common.List, lemmas.Result.err_from_is_err_and}
use Rattle.lra_poly_queries.specs.Crates.{lra_duality.Maxima.StaysInRange, lra_linear_spec.Descriptions.LinearRow, lra_linear_spec.Descriptions.inequality, lra_linear_spec.Kinds.is_line}
use Rattle.lra_poly_queries.specs.Crates.{lra_linear_spec.OperationStrain.ProductsPass, lra_linear_spec.declared.GenKind.TheVariants.Point}
use Rattle.lra_poly_queries.proofs.Crates.lra_duality.InclusionLemmas.{seen_generators}
use Rattle.lra_systems.proofs.FirstMembers.{one_more}
use Rattle.lra_poly_queries.proofs.MissedLists.{one_missed_more, one_passes}
use Rattle.lra_poly_queries.proofs.relation.missed_by.Goals as goal

pub returns-in_err-here-clause-wide : goal.returns-in_err-here-clause-wide
returns-in_err-here-clause-wide c =
    let rows = c.rows-rows.result.now in
    let kinds = c.kinds-kinds.result.now in
    let n : length kinds ≡ length rows = c.kinds-kinds.ensures.len ∙ ap length (sym c.rows-rows.ensures.rows) in
    let p = err_from_is_err_and c.from_residual.result c.from_residual.ensures.1 in
    let excess = c.in_err-here.field-0.0 in
    rw (p.1, p.2)
    (seen_generators (λ (l : List LinearRow). ProductsPass (inequality c.args.form.now ∷ []) l excess) c.args.list.now rows
    kinds c.rows-rows.ensures.rows c.kinds-kinds.ensures.kinds
    (one_passes c.args.form.now rows kinds c.loop-place.place c.index-rows-place.result Point excess n
    c.loop-place-test.true c.index-rows-place.is c.in_err-here.ensures.wide))

pub loop-place-preserved : goal.loop-place-preserved
loop-place-preserved c =
    let rows = c.rows-rows.result.now in
    let kinds = c.kinds-kinds.result.now in
    let n : length kinds ≡ length rows = c.kinds-kinds.ensures.len ∙ ap length (sym c.rows-rows.ensures.rows) in (
      one_more (StaysInRange c.args.form.now) is_line rows kinds c.loop-place.place c.index-rows-place.result Point n
          c.loop-place-test.true c.index-rows-place.is c.loop-place.invariant.0 c.in_ok-here.ensures.product,
      one_missed_more c.args.form.now rows kinds c.loop-place.place c.index-rows-place.result Point
          c.loop-place.missed c.in_ok-here.here c.and-missed.result n c.loop-place-test.true c.index-rows-place.is
          c.loop-place.invariant.1
          (λ g e l. c.in_ok-here.ensures.misses g e (l ∙ sym c.goes_both_ways.ensures))
          c.and-missed.ensures.below c.and-missed.ensures.zero c.and-missed.ensures.above,
    )
