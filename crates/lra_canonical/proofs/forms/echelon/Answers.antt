-- Goals of `echelon`: makes the rows their reduced echelon form, one row after the other.
use Rattle.std.proofs.{Common.◌≡◌, Common.◌<◌, Common.arith, Common.List, Common.ℤ, Common.length, Common.get_or, Common.subst, Common.ap, lemmas.Result.err_from_is_err_and}
use Rattle.lra_canonical.proofs.EchelonRows.{form_width, first_more, first_passes, extension_strains, form_end, same_equalities, one_form}
use Rattle.lra_canonical.proofs.forms.echelon.Goals as goal

pub extend-requires-clause-widths : goal.extend-requires-clause-widths
extend-requires-clause-widths c =
    let e = c.deref-row-items.ensures.value in
    let l : c.loop-row.row-index < length c.args.lines.now.items = subst (λ (xs : List (List ℤ)). c.loop-row.row-index < length xs) e c.loop-row-test.true in
    let g = subst (λ (xs : List (List ℤ)). c.row-item.result ≡ get_or xs c.loop-row.row-index c.row-item.result) e c.row-item.is in
    form_width c.args.lines.now.items c.loop-row.form.items c.loop-row.row-index c.row-item.result c.requires.width l g c.loop-row.invariant

pub returns-in_err-form-clause-first : goal.returns-in_err-form-clause-first
returns-in_err-form-clause-first c =
    let e = c.deref-row-items.ensures.value in
    let l : c.loop-row.row-index < length c.args.lines.now.items = subst (λ (xs : List (List ℤ)). c.loop-row.row-index < length xs) e c.loop-row-test.true in
    let g = subst (λ (xs : List (List ℤ)). c.row-item.result ≡ get_or xs c.loop-row.row-index c.row-item.result) e c.row-item.is in
    let p = err_from_is_err_and c.from_residual.result c.from_residual.ensures.1 in
    let f = first_passes c.args.lines.now.items c.loop-row.form.items c.loop-row.row-index c.row-item.result c.in_err-form.field-0.0 l g c.loop-row.invariant c.in_err-form.ensures.excess in
    rw (p.1, p.2) f

pub returns-in_err-form-clause-excess : goal.returns-in_err-form-clause-excess
returns-in_err-form-clause-excess c =
    let e = c.deref-row-items.ensures.value in
    let l : c.loop-row.row-index < length c.args.lines.now.items = subst (λ (xs : List (List ℤ)). c.loop-row.row-index < length xs) e c.loop-row-test.true in
    let g = subst (λ (xs : List (List ℤ)). c.row-item.result ≡ get_or xs c.loop-row.row-index c.row-item.result) e c.row-item.is in
    let p = err_from_is_err_and c.from_residual.result c.from_residual.ensures.1 in
    let f = extension_strains c.args.lines.now.items c.loop-row.form.items c.loop-row.row-index c.row-item.result c.in_err-form.field-0.0 c.requires.width l g c.loop-row.invariant
    c.in_err-form.ensures.excess in
    rw (p.1, p.2) f

pub loop-row-preserved : goal.loop-row-preserved
loop-row-preserved c =
    let e = c.deref-row-items.ensures.value in
    let l : c.loop-row.row-index < length c.args.lines.now.items = subst (λ (xs : List (List ℤ)). c.loop-row.row-index < length xs) e c.loop-row-test.true in
    let g = subst (λ (xs : List (List ℤ)). c.row-item.result ≡ get_or xs c.loop-row.row-index c.row-item.result) e c.row-item.is in
    first_more c.args.lines.now.items c.loop-row.form.items c.in_ok-form.form.items c.loop-row.row-index c.row-item.result c.requires.width l g c.loop-row.invariant c.in_ok-form.ensures.ok

pub returns-clause-same : goal.returns-clause-same
returns-clause-same c =
    let n = ap length c.deref-row-items.ensures.value in
    same_equalities c.args.lines.now.items c.loop-row.form.items
    (form_end c.args.lines.now.items c.loop-row.form.items c.loop-row.row-index (omega (arith, c.loop-row-test.false, c.loop-row.auto.row-index-end, n)) c.loop-row.invariant)

pub returns-clause-one : goal.returns-clause-one
returns-clause-one c =
    let n = ap length c.deref-row-items.ensures.value in
    one_form c.args.lines.now.items c.loop-row.form.items c.loop-row.invariant.widths
    (form_end c.args.lines.now.items c.loop-row.form.items c.loop-row.row-index (omega (arith, c.loop-row-test.false, c.loop-row.auto.row-index-end, n)) c.loop-row.invariant)
