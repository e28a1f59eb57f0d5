-- Goals of `assign_parts`: the generators with the form's value in the column, lines apart.
use Rattle.std.proofs.{Common.◌≡◌, Common.◌∙◌, Common.ap, Common.length, Common.sym, lemmas.Result.err_from_is_err_and}
use Rattle.lra_mapped_systems.specs.Crates.lra_linear_spec.CheckedArithmetic.{checked_product}
use Rattle.lra_mapped_systems.specs.Crates.{lra_linear_spec.Kinds.is_line, lra_linear_spec.SetOperations.assigned, lra_linear_spec.declared.GenKind.TheVariants.Point}
use Rattle.lra_mapped_systems.proofs.{MovedLists.part_seen, MovingLosses.some_passes}
use Rattle.lra_mapped_systems.proofs.moving.assign_parts.Goals as goal

pub loop-place-preserved : goal.loop-place-preserved
loop-place-preserved c =
    let rows = c.rows-rows.result.now in
    let kinds = c.kinds-kinds.result.now in
    let many : length kinds ≡ length rows = c.kinds-kinds.ensures.len ∙ ap length (sym c.rows-rows.ensures.rows) in
    part_seen (assigned c.args.column c.args.form.now) is_line rows kinds c.loop-place.place c.loop-place.parts.lines.items
    c.loop-place.parts.rays.items c.push_part.new.parts.lines.items c.push_part.new.parts.rays.items
    c.index-rows-place.result c.in_ok-row.row Point c.goes_both_ways.result c.loop-place.invariant many
    c.loop-place-test.true c.index-rows-place.is c.in_ok-row.ensures.ok c.goes_both_ways.ensures
    c.in_ok-push_part.ensures.lines c.in_ok-push_part.ensures.rays

pub returns-in_err-row-clause-excess : goal.returns-in_err-row-clause-excess
returns-in_err-row-clause-excess c =
    let list = c.args.list.now in
    let many : length c.kinds-kinds.result.now ≡ length list.rows = c.kinds-kinds.ensures.len in
    let p = err_from_is_err_and c.from_residual.result c.from_residual.ensures.1 in
    let f = some_passes is_line (checked_product c.args.form.now) list.rows c.rows-rows.result.now list.kinds c.kinds-kinds.result.now c.loop-place.place c.index-rows-place.result Point
    c.in_err-row.field-0.0 c.rows-rows.ensures.rows c.kinds-kinds.ensures.kinds many c.loop-place-test.true c.index-rows-place.is c.in_err-row.ensures.excess in
    rw (p.1, p.2) f
