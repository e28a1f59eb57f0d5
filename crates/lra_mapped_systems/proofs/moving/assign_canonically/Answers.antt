-- Goals of `assign_canonically`: the generators with the form's value in the column, as a canonical list.
use Rattle.std.proofs.{Common.◌+◌, Common.arith, Common.◌∙◌, lemmas.Result.err_from_is_err_and}
use Rattle.lra_mapped_systems.specs.Crates.{lra_linear_spec.Kinds.is_line, lra_linear_spec.SetOperations.assigned}
use Rattle.lra_systems.specs.LinearSystems.{generators}
use Rattle.lra_mapped_systems.proofs.{MovedLists.KeepsWidth, MovedLists.lines_wide, MovedLists.rays_wide, MovingLosses.assignment_canonical, MovingLosses.assignment_forms, TakenBack.assigned_width}
use Rattle.lra_mapped_systems.proofs.moving.assign_canonically.Goals as goal

pub remake-requires-clause-lines : goal.remake-requires-clause-lines
remake-requires-clause-lines c =
    let k = c.args.column in
    let form = c.args.form.now in
    let list = c.args.list.now in
    let seen = c.rows-rows.result.now in
    let keeps : KeepsWidth (assigned k form) (c.dims-n.result + 1) list seen = record {
      width = omega arith;
      are = c.rows-rows.ensures.rows;
      widths = c.rows-rows.ensures.widths;
      keeps = λ r l. assigned_width k form r ∙ l;
    } in
    lines_wide (assigned k form) is_line (c.dims-n.result + 1) list seen c.in_ok-parts.parts.lines.items keeps
    c.in_ok-parts.ensures.lines

pub remake-requires-clause-rays : goal.remake-requires-clause-rays
remake-requires-clause-rays c =
    let k = c.args.column in
    let form = c.args.form.now in
    let list = c.args.list.now in
    let seen = c.rows-rows.result.now in
    let keeps : KeepsWidth (assigned k form) (c.dims-n.result + 1) list seen = record {
      width = omega arith;
      are = c.rows-rows.ensures.rows;
      widths = c.rows-rows.ensures.widths;
      keeps = λ r l. assigned_width k form r ∙ l;
    } in
    rays_wide (assigned k form) is_line (c.dims-n.result + 1) list seen c.in_ok-parts.parts.rays.items keeps
    c.in_ok-parts.ensures.rays

pub returns-in_err-parts-clause-excess : goal.returns-in_err-parts-clause-excess
returns-in_err-parts-clause-excess c =
    let p = err_from_is_err_and c.from_residual.result c.from_residual.ensures.1 in
    let f = assignment_forms c.args.column c.args.form.now (generators c.args.list.now) c.in_err-parts.field-0.0 c.in_err-parts.ensures.excess in
    rw (p.1, p.2) f

pub returns-in_err-own-clause-excess : goal.returns-in_err-own-clause-excess
returns-in_err-own-clause-excess c =
    let parts = c.in_ok-parts.parts in
    let p = err_from_is_err_and c.from_residual-in_err-own.result c.from_residual-in_err-own.ensures.1 in
    let f = assignment_canonical c.args.column c.args.form.now (generators c.args.list.now) parts.lines.items parts.rays.items c.in_err-own.field-0.0 c.in_ok-parts.ensures.lines
    c.in_ok-parts.ensures.rays
    c.in_err-own.ensures.excess in
    rw (p.1, p.2) f
