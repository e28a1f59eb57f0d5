-- Goals of `set`: the variable at the place gets the expression's value, as far as it is seen.
use Rattle.std.proofs.Common.{◌≡◌, ℕ, sym, ap, ◌∙◌}
use Rattle.lra_program.specs.ProgramViews.{expr_view}
use Rattle.lra_transfer.specs.Crates.{lra_analysis_spec.Linearization.linearized, lra_analysis_spec.declared.linearization.Linearized.TheVariants.Divided}
use Rattle.lra_transfer.proofs.ChangeSteps.{set_as, seen_width, seen_divides}
use Rattle.lra_transfer.proofs.changes.set.Goals as goal

pub assign-requires-clause-width : goal.assign-requires-clause-width
assign-requires-clause-width g c =
    seen_width c.dims.result (g.D.Domain.abstraction.dims c.args.value.now) c.args.base (expr_view c.args.e.now) c.in_ok-seen.seen c.in-Linear.form
    c.dims.ensures c.in-Linear.is c.in_ok-seen.ensures

pub assign_in_cases-requires-clause-divides : goal.assign_in_cases-requires-clause-divides
assign_in_cases-requires-clause-divides g c =
    (seen_divides c.dims.result (g.D.Domain.abstraction.dims c.args.value.now) c.args.base (expr_view c.args.e.now) c.in_ok-seen.seen c.in-Divided.division
    c.in-Divided.form c.dims.ensures c.in-Divided.is c.in_ok-seen.ensures).0

pub assign_in_cases-requires-clause-width : goal.assign_in_cases-requires-clause-width
assign_in_cases-requires-clause-width g c =
    (seen_divides c.dims.result (g.D.Domain.abstraction.dims c.args.value.now) c.args.base (expr_view c.args.e.now) c.in_ok-seen.seen c.in-Divided.division
    c.in-Divided.form c.dims.ensures c.in-Divided.is c.in_ok-seen.ensures).1

pub returns-clause-sets : goal.returns-clause-sets
returns-clause-sets g c =
    let m = g.D.Domain.abstraction in
    let v = c.args.value.now in
    let seen = λ (k : ℕ). linearized k c.args.base (expr_view c.args.e.now) in
    let there = Divided c.in-Divided.division c.in-Divided.form in
    let is : there ≡ seen (m.dims v) = sym c.in-Divided.is ∙ c.in_ok-seen.ensures ∙ ap seen c.dims.ensures in
    set_as m (m.dims v) c.args.place (seen (m.dims v)) there v c.in_ok-exactness-in-Divided.exactness c.assign_in_cases.new.value is
    c.in_ok-exactness-in-Divided.ensures.changes
