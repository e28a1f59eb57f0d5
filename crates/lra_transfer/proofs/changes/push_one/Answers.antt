-- Goals of `push_one`: a new variable of its parameter's type, with the value of an argument.
use Rattle.std.proofs.Common.{◌≡◌, ◌+◌, suc, ◌∙◌, arith}
use Rattle.lra_transfer.specs.Crates.{lra_analysis_spec.Linearization.linearized, lra_analysis_spec.MovesOf.append_set}
use Rattle.lra_program.specs.ProgramViews.{expr_view}
use Rattle.lra_transfer.proofs.ChangeSteps.{done_append, held_as}
use Rattle.lra_transfer.proofs.changes.push_one.Goals as goal

pub returns-clause-pushes : goal.returns-clause-pushes
returns-clause-pushes g c =
    let m = g.D.Domain.abstraction in
    let v = c.args.value.now in
    let e = expr_view c.args.argument.now.value in
    let sets = rw c.dims-place.ensures at c.in_ok-two.ensures.sets in
    let made = done_append m c.args.base e v c.embed.new.self c.set.new.value c.in_ok-one.one c.in_ok-two.two
    c.in_ok-one.ensures.meets c.in_ok-one.ensures.dims c.in_ok-one.ensures.capped (omega arith) sets in
    let p = append_set (m.dims v) (linearized (suc (m.dims v)) c.args.base e) in
    let one : m.dims v + 1 ≡ suc (m.dims v) = omega arith in
    held_as m c.args.argument.now.number_type p (m.dims c.set.new.value) (suc (m.dims v)) c.dims-place.result (m.dims v) v c.in_ok-held.held c.hold_type.new.value
    (c.in_ok-two.ensures.dims ∙ c.in_ok-one.ensures.dims ∙ one) c.dims-place.ensures (c.in_ok-held.ensures.holds p v (rw c.worse.ensures.is made))
