-- Goals of `append_global`: a new variable, with the global's first value.
use Rattle.std.proofs.Common.{◌≡◌, ◌+◌, suc, ◌∙◌, arith}
use Rattle.lra_transfer.specs.Crates.{lra_analysis_spec.Linear.constant_form, lra_analysis_spec.MovesOf.append_set, lra_analysis_spec.declared.linearization.Linearized.TheVariants.Linear}
use Rattle.lra_transfer.proofs.{ChangeSteps.held_as, GlobalSteps.constant_wide, GlobalSteps.appended}
use Rattle.lra_transfer.proofs.globals.append_global.Goals as goal

pub assign-requires-clause-width : goal.assign-requires-clause-width
assign-requires-clause-width g c =
    let wide = constant_wide c.in_ok-form.form (c.dims-place.result + 1) c.args.global.now.value c.in_ok-form.ensures in
    let dims = c.in_ok-one.ensures.dims in
    let place = c.dims-place.ensures in
    omega (arith, wide, dims, place)

pub returns-clause-appends : goal.returns-clause-appends
returns-clause-appends g c =
    let m = g.D.Domain.abstraction in
    let form = rw c.dims-place.ensures at c.in_ok-form.ensures in
    let assigns = rw c.dims-place.ensures at c.in_ok-two.ensures.meets in
    let v = c.args.value.now in
    let z = c.args.global.now.value in
    let made = appended m z c.in_ok-form.form v c.embed.new.self c.assign.new.self c.in_ok-one.one c.in_ok-two.two
    c.in_ok-one.ensures.meets c.in_ok-one.ensures.dims c.in_ok-one.ensures.capped form assigns c.in_ok-two.ensures.dims c.in_ok-two.ensures.capped in
    let p = append_set (m.dims v) (Linear (constant_form (suc (m.dims v)) z)) in
    let one : m.dims v + 1 ≡ suc (m.dims v) = omega arith in
    held_as m c.args.global.now.number_type p (m.dims c.assign.new.self) (suc (m.dims v)) c.dims-place.result (m.dims v) v c.in_ok-held.held
    c.hold_type.new.value
    (c.in_ok-two.ensures.dims ∙ c.in_ok-one.ensures.dims ∙ one) c.dims-place.ensures (c.in_ok-held.ensures.holds p v (rw c.worse.ensures.is made))
