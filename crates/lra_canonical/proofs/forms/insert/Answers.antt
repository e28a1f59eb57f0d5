-- Goals of `insert`: the line in its place in the form, and the rows before it cleared.
use Rattle.std.proofs.lemmas.Result.{err_from_is_err_and}
use Rattle.lra_canonical.proofs.EchelonSteps.{place_is, inserted_excess, inserted_ok}
use Rattle.lra_canonical.proofs.forms.insert.Goals as goal

pub returns-in_err-rows-clause-excess : goal.returns-in_err-rows-clause-excess
returns-in_err-rows-clause-excess c =
    let p = err_from_is_err_and c.from_residual.result c.from_residual.ensures.1 in
    let at = place_is c.args.form.now c.args.line c.split_at.result.0.now c.split_at.result.1.now c.rows_before-place.result c.pivot.result c.pivot.ensures.pivot c.rows_before-place.ensures.inside
    c.rows_before-place.ensures.before c.rows_before-place.ensures.behind c.split_at.ensures.front c.split_at.ensures.back in
    let f = inserted_excess c.args.form.now c.args.line c.split_at.result.0.now c.split_at.result.1.now c.in_err-rows.field-0.0 at c.in_err-rows.ensures.excess in
    rw (p.1, p.2) f

pub returns-clause-ok : goal.returns-clause-ok
returns-clause-ok c =
    let at = place_is c.args.form.now c.args.line c.split_at.result.0.now c.split_at.result.1.now c.rows_before-place.result c.pivot.result c.pivot.ensures.pivot c.rows_before-place.ensures.inside
    c.rows_before-place.ensures.before c.rows_before-place.ensures.behind c.split_at.ensures.front c.split_at.ensures.back in
    inserted_ok c.args.form.now c.args.line c.split_at.result.0.now c.split_at.result.1.now c.in_ok-rows.rows.items c.push.new.self.items c.push_copies.new.rows.items at c.in_ok-rows.ensures.ok
    c.in_ok-push.ensures.items c.in_ok-push_copies.ensures
