-- Goals of `append_any`: a new variable of this type, with any value.
use Rattle.std.proofs.Common.{◌≡◌, ◌+◌, suc, ◌∙◌, arith}
use Rattle.lra_transfer.specs.Crates.{lra_domain.Actions.embed, lra_domain.Moves.make}
use Rattle.lra_transfer.proofs.ChangeSteps.{done_one, held_as}
use Rattle.lra_transfer.proofs.changes.append_any.Goals as goal

pub returns-clause-changes : goal.returns-clause-changes
returns-clause-changes g c =
    let m = g.D.Domain.abstraction in
    let v = c.args.value.now in
    let made = done_one m (embed 1) v c.in_ok-exactness.exactness c.embed.new.self c.in_ok-exactness.ensures.meets c.in_ok-exactness.ensures.dims
    c.in_ok-exactness.ensures.capped in
    let one : m.dims v + 1 ≡ suc (m.dims v) = omega arith in
    held_as m c.args.number_type (make (embed 1)) (m.dims c.embed.new.self) (suc (m.dims v)) c.dims-place.result (m.dims v) v c.in_ok-held.held
    c.hold_type.new.value
    (c.in_ok-exactness.ensures.dims ∙ one) c.dims-place.ensures (c.in_ok-held.ensures.holds (make (embed 1)) v made)
