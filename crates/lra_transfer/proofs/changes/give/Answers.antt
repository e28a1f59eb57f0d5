-- Goals of `give`: the target's variable gets the expression's value.
use Rattle.std.proofs.Common.{refl}
use Rattle.lra_program.specs.{ProgramViews.expr_view, declared.receivers.Cell.TheVariants.Variable, declared.receivers.Cell.TheVariants.Waiting}
use Rattle.lra_transfer.specs.Crates.{lra_analysis_spec.Linearization.linearized, lra_analysis_spec.MovesOf.set_to}
use Rattle.lra_transfer.proofs.ChangeSteps.{variable_below, cell_as, done_none, held_as}
use Rattle.lra_transfer.proofs.changes.give.Goals as goal

pub returns-in-Waiting-clause-gives : goal.returns-in-Waiting-clause-gives
returns-in-Waiting-clause-gives g c =
    let m = g.D.Domain.abstraction in
    let v = c.args.value.now in
    cell_as m (m.dims v) c.args.target (Waiting c.in-Waiting.field-0) (linearized (m.dims v) c.args.base (expr_view c.args.e.now)) v _ v c.in-Waiting.is
    (done_none m v)

pub set-requires-clause-place : goal.set-requires-clause-place
set-requires-clause-place g c =
    variable_below c.args.target.cell c.in-Variable.place (g.D.Domain.abstraction.dims c.args.value.now) c.in-Variable.is c.requires.place

pub returns-in_ok-held-in-Variable-clause-gives : goal.returns-in_ok-held-in-Variable-clause-gives
returns-in_ok-held-in-Variable-clause-gives g c =
    let m = g.D.Domain.abstraction in
    let v = c.args.value.now in
    let x = c.in-Variable.place in
    let seen = linearized (m.dims v) c.args.base (expr_view c.args.e.now) in
    let moves = set_to (m.dims v) x seen in
    cell_as m (m.dims v) c.args.target (Variable x) seen v c.in_ok-held-in-Variable.held c.hold_type.new.value c.in-Variable.is
    (held_as m c.args.target.number_type moves (m.dims c.set.new.value) (m.dims v) x x v c.in_ok-held-in-Variable.held c.hold_type.new.value
    c.in_ok-exactness-in-Variable.ensures.dims refl (c.in_ok-held-in-Variable.ensures.holds moves v c.in_ok-exactness-in-Variable.ensures.sets))
