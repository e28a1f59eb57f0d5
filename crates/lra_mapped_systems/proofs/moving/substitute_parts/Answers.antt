-- Goals of `substitute_parts`: the constraints with the form put in for the column, equalities apart.
use Rattle.std.proofs.{Common.◌≡◌, Common.◌∙◌, Common.ap, Common.length, Common.sym, lemmas.Result.err_from_is_err_and}
use Rattle.lra_mapped_systems.specs.Crates.lra_linear_spec.CheckedArithmetic.{checked_substitution}
use Rattle.lra_mapped_systems.specs.Crates.{lra_linear_spec.Kinds.is_equality, lra_linear_spec.Vectors.substituted, lra_linear_spec.declared.ConKind.TheVariants.Ge}
use Rattle.lra_mapped_systems.proofs.{MovedLists.part_seen, MovingLosses.some_passes}
use Rattle.lra_mapped_systems.proofs.moving.substitute_parts.Goals as goal

pub loop-place-preserved : goal.loop-place-preserved
loop-place-preserved c =
    let rows = c.rows-rows.result.now in
    let kinds = c.kinds-kinds.result.now in
    let many : length kinds ≡ length rows = c.kinds-kinds.ensures.len ∙ ap length (sym c.rows-rows.ensures.rows) in
    part_seen (substituted c.args.column c.args.form.now) is_equality rows kinds c.loop-place.place c.loop-place.parts.lines.items
    c.loop-place.parts.rays.items c.push_part.new.parts.lines.items c.push_part.new.parts.rays.items
    c.index-rows-place.result c.in_ok-row.row Ge c.is_equality.result c.loop-place.invariant many
    c.loop-place-test.true c.index-rows-place.is c.in_ok-row.ensures.value c.is_equality.ensures
    c.in_ok-push_part.ensures.lines c.in_ok-push_part.ensures.rays

pub returns-in_err-row-clause-excess : goal.returns-in_err-row-clause-excess
returns-in_err-row-clause-excess c =
    let list = c.args.list.now in
    let many : length c.kinds-kinds.result.now ≡ length list.rows = c.kinds-kinds.ensures.len in
    let p = err_from_is_err_and c.from_residual.result c.from_residual.ensures.1 in
    let f = some_passes is_equality (checked_substitution c.args.column c.args.form.now) list.rows c.rows-rows.result.now list.kinds c.kinds-kinds.result.now c.loop-place.place
    c.index-rows-place.result Ge
    c.in_err-row.field-0.0 c.rows-rows.ensures.rows c.kinds-kinds.ensures.kinds many c.loop-place-test.true c.index-rows-place.is c.in_err-row.ensures.excess in
    rw (p.1, p.2) f
