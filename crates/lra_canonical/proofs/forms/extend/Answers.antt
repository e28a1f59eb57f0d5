-- Goals of `extend`: the form extended by the row.
use Rattle.std.proofs.lemmas.Result.{IfOk-weaker, IfErr-weaker}
use Rattle.lra_canonical.specs.Echelons.{IsInserted, IsInsertionExcess, IsExtended, IsExtensionExcess}
use Rattle.lra_canonical.proofs.EchelonSteps.{directed_at, width_same, extended_ok, extended_excess}
use Rattle.lra_canonical.proofs.forms.extend.Goals as goal

pub insert-requires-clause-widths : goal.insert-requires-clause-widths
insert-requires-clause-widths c =
    width_same c.args.form.items c.deref-in-Some.result.now c.args.row.now c.in_ok-rest.rest c.in-Some.line c.deref-in-Some.ensures.value c.requires.widths c.in_ok-rest.ensures.reduced.same_length
    (directed_at c.in_ok-rest.rest c.in-Some.line c.in_ok-direct.field-0 c.in-Some.is c.in_ok-direct.ensures)

pub returns-in-Some-clause-ok : goal.returns-in-Some-clause-ok
returns-in-Some-clause-ok c =
    IfOk-weaker c.insert.result (λ out. IsInserted c.deref-in-Some.result.now c.in-Some.line out.items) (λ out. IsExtended c.args.form.items c.args.row.now out.items)
    (λ out i. extended_ok c.args.form.items c.deref.result.now c.deref-in-Some.result.now c.args.row.now c.in_ok-rest.rest c.in-Some.line out.items c.deref.ensures.value c.deref-in-Some.ensures.value
    c.in_ok-rest.ensures.reduced c.in_ok-rest.ensures.chain (directed_at c.in_ok-rest.rest c.in-Some.line c.in_ok-direct.field-0 c.in-Some.is c.in_ok-direct.ensures) i) c.insert.ensures.ok

pub returns-in-Some-clause-excess : goal.returns-in-Some-clause-excess
returns-in-Some-clause-excess c =
    IfErr-weaker c.insert.result (IsInsertionExcess c.deref-in-Some.result.now c.in-Some.line) (IsExtensionExcess c.args.form.items c.args.row.now)
    (λ e i. extended_excess c.args.form.items c.deref.result.now c.deref-in-Some.result.now c.args.row.now c.in_ok-rest.rest c.in-Some.line e c.deref.ensures.value c.deref-in-Some.ensures.value
    c.in_ok-rest.ensures.reduced c.in_ok-rest.ensures.chain (directed_at c.in_ok-rest.rest c.in-Some.line c.in_ok-direct.field-0 c.in-Some.is c.in_ok-direct.ensures) i)
    c.insert.ensures.excess
