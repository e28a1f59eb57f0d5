-- Goals of `valid_list`: the constraints of the cone; after a loss those of them that are valid on all rows, which
-- were to be added.
use Rattle.std.proofs.Common.{ap, sym, ◌∙◌, suc}
use Rattle.lra_cone.proofs.Stepped.{lines_have_width, rays_have_width}
use Rattle.lra_description_pair.specs.Crates.lra_systems.LinearSystems.{constraints}
use Rattle.lra_description_pair.proofs.ConstraintLists.{shows_valid}
use Rattle.lra_description_pair.proofs.valid.valid_list.Goals as goal

pub constraint_list-requires-clause-lines : goal.constraint_list-requires-clause-lines
constraint_list-requires-clause-lines c = lines_have_width c.args.conversion.now.cone (suc c.dims-n.result) c.lines-lines.result.now c.lines-lines.ensures.cone
    (ap suc (c.dims-n.ensures ∙ sym c.requires.dims)) c.lines-lines.ensures.lines

pub constraint_list-requires-clause-rays : goal.constraint_list-requires-clause-rays
constraint_list-requires-clause-rays c = rays_have_width c.args.conversion.now.cone (suc c.dims-n.result) c.rays-rays.result.now c.rays-rays.ensures.cone
    (ap suc (c.dims-n.ensures ∙ sym c.requires.dims)) c.rays-rays.ensures.rays

pub valid_rows-requires : goal.valid_rows-requires
valid_rows-requires c = lines_have_width c.args.conversion.now.cone (suc c.args.rows.now.dims) c.lines-lines.result.now c.lines-lines.ensures.cone
    (ap suc (sym c.requires.dims)) c.lines-lines.ensures.lines

pub valid_rows-requires-2 : goal.valid_rows-requires-2
valid_rows-requires-2 c = rays_have_width c.args.conversion.now.cone (suc c.args.rows.now.dims) c.rays-rays.result.now c.rays-rays.ensures.cone (ap suc (sym c.requires.dims)) c.rays-rays.ensures.rays

pub returns-clause-valid : goal.returns-clause-valid
returns-clause-valid c = λ _.
    let cone = c.args.conversion.now.cone in
    shows_valid c.args.rows.now.dims cone.lines cone.rays c.lines-lines.result.now c.rays-rays.result.now (constraints c.args.rows.now) c.lines-lines.ensures.lines c.rays-rays.ensures.rays
    c.dims-n.result c.deref.result.now c.deref-2.result.now c.in_ok-valid_lines.valid_lines.items c.in_ok-valid_rays.valid_rays.items c.constraint_list-2.result c.dims-n.ensures c.deref.ensures.value
    c.deref-2.ensures.value c.in_ok-valid_lines.ensures.valid c.in_ok-valid_rays.ensures.valid c.constraint_list-2.ensures.shown
