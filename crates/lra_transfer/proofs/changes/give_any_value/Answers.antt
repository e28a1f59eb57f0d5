-- Goals of `give_any_value`: the target's variable gets any value of its type.
use Rattle.std.proofs.Common.{refl}
use Rattle.lra_transfer.specs.Crates.{lra_analysis_spec.declared.linearization.Linearized.TheVariants.Unseen, lra_domain.Actions.forget, lra_domain.Moves.make}
use Rattle.lra_program.specs.declared.receivers.Cell.TheVariants.{Variable, Waiting}
use Rattle.lra_transfer.proofs.ChangeSteps.{variable_below, cell_as, done_none, done_one, held_as}
use Rattle.lra_transfer.proofs.changes.give_any_value.Goals as goal

pub returns-in-Waiting-clause-gives : goal.returns-in-Waiting-clause-gives
returns-in-Waiting-clause-gives g c =
    let m = g.D.Domain.abstraction in
    let v = c.args.value.now in
    cell_as m (m.dims v) c.args.target (Waiting c.in-Waiting.field-0) Unseen v _ v c.in-Waiting.is (done_none m v)

pub forget-requires : goal.forget-requires
forget-requires g c =
    variable_below c.args.target.cell c.in-Variable.place (g.D.Domain.abstraction.dims c.args.value.now) c.in-Variable.is c.requires.place

pub returns-in_ok-held-in-Variable-clause-gives : goal.returns-in_ok-held-in-Variable-clause-gives
returns-in_ok-held-in-Variable-clause-gives g c =
    let m = g.D.Domain.abstraction in
    let v = c.args.value.now in
    let x = c.in-Variable.place in
    let made = done_one m (forget x) v c.in_ok-exactness-in-Variable.exactness c.forget.new.self c.in_ok-exactness-in-Variable.ensures.meets
    c.in_ok-exactness-in-Variable.ensures.dims c.in_ok-exactness-in-Variable.ensures.capped in
    cell_as m (m.dims v) c.args.target (Variable x) Unseen v c.in_ok-held-in-Variable.held c.hold_type.new.value c.in-Variable.is
    (held_as m c.args.target.number_type (make (forget x)) (m.dims c.forget.new.self) (m.dims v) x x v c.in_ok-held-in-Variable.held c.hold_type.new.value
    c.in_ok-exactness-in-Variable.ensures.dims refl (c.in_ok-held-in-Variable.ensures.holds (make (forget x)) v made))
