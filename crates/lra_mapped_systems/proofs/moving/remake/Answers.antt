-- Goals of `remake`: the lines in echelon form, and the rays reduced by it.
use Rattle.std.proofs.{Common.sym, Common.subst, Common.List, Common.ℤ, lemmas.Result.err_from_is_err_and}
use Rattle.lra_mapped_systems.specs.Crates.lra_canonical.Echelons.{HaveWidth}
use Rattle.lra_description_pair.specs.OwnLists.{AnyReductionExcess}
use Rattle.lra_mapped_systems.proofs.MovingLosses.{echelon_passes, reduction_passes}
use Rattle.lra_mapped_systems.proofs.moving.remake.Goals as goal

pub all_reduced-requires-clause-form_widths : goal.all_reduced-requires-clause-form_widths
all_reduced-requires-clause-form_widths c =
    subst (λ (l : List (List ℤ)). HaveWidth c.args.width l) (sym c.deref-2.ensures.value)
    (c.in_ok-echelon.ensures.widths c.args.width c.requires.lines)

pub returns-clause-line_widths : goal.returns-clause-line_widths
returns-clause-line_widths c = c.in_ok-echelon.ensures.widths c.args.width c.requires.lines

pub returns-in_err-echelon-clause-excess : goal.returns-in_err-echelon-clause-excess
returns-in_err-echelon-clause-excess c =
    let p = err_from_is_err_and c.from_residual.result c.from_residual.ensures.1 in
    let f = echelon_passes c.args.parts.lines.items c.args.parts.rays.items c.in_err-echelon.field-0.0 c.in_err-echelon.ensures.excess in
    rw (p.1, p.2) f

pub returns-in_err-rays-clause-excess : goal.returns-in_err-rays-clause-excess
returns-in_err-rays-clause-excess c =
    let lines = c.args.parts.lines.items in
    let rays = c.args.parts.rays.items in
    let error = c.in_err-rays.field-0.0 in
    let p = err_from_is_err_and c.from_residual-in_err-rays.result c.from_residual-in_err-rays.ensures.1 in
    let x = subst (λ (l : List (List ℤ)). AnyReductionExcess l rays error) c.deref-2.ensures.value
    (subst (λ (l : List (List ℤ)). AnyReductionExcess c.deref-2.result.now l error) c.deref.ensures.value c.in_err-rays.ensures.excess) in
    let f = reduction_passes lines rays c.echelon.new.lines.items error c.in_ok-echelon.ensures.form x in
    rw (p.1, p.2) f
