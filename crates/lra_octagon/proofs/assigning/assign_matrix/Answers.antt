-- Goals of `assign_matrix`: assigns `constant + factors` to `x`.
use Rattle.std.proofs.Common.{rules, ◌≡◌, ◌∙◌, sym, ap}
use Rattle.lra_box.specs.Bounds.{form}
use Rattle.lra_octagon.specs.{Content.matrix_view, Forms.shape, Tables.assignment_of, declared.assigning.Assignment.TheVariants.Equate, declared.assigning.Assignment.TheVariants.Shift}
use Rattle.lra_octagon.proofs.AssignLemmas.{given_equate, given_shift, equate_below}
use Rattle.lra_octagon.proofs.assigning.assign_matrix.Goals as goal

pub equate_and_close-assigned-requires-clause-row : goal.equate_and_close-assigned-requires-clause-row
equate_and_close-assigned-requires-clause-row c =
    equate_below c.args.n c.args.x c.in-Equate.i c.args.factors.now c.requires.width c.requires.range (sym c.in-Equate.is ∙ c.assignment_of.ensures ∙ ap (assignment_of c.args.x) c.classify.ensures)

pub returns-in_ok-copy-in-Equate-clause-assigned : goal.returns-in_ok-copy-in-Equate-clause-assigned
returns-in_ok-copy-in-Equate-clause-assigned c =
    let is : Equate c.in-Equate.i ≡ assignment_of c.args.x (shape (form c.args.constant c.args.factors.now)) =
    sym c.in-Equate.is ∙ c.assignment_of.ensures ∙ ap (assignment_of c.args.x) c.classify.ensures in
    given_equate c.args.n c.args.x c.in-Equate.i (form c.args.constant c.args.factors.now) c.args.matrix.now.cells (matrix_view c.equate_and_close-assigned.result.0)
    c.equate_and_close-assigned.result.1
    c.requires.place (equate_below c.args.n c.args.x c.in-Equate.i c.args.factors.now c.requires.width c.requires.range is) (search rules) is (search rules)

pub returns-in_ok-shifted-in-Shift-clause-assigned : goal.returns-in_ok-shifted-in-Shift-clause-assigned
returns-in_ok-shifted-in-Shift-clause-assigned c =
    let is : Shift c.in-Shift.flips ≡ assignment_of c.args.x (shape (form c.args.constant c.args.factors.now)) =
    sym c.in-Shift.is ∙ c.assignment_of.ensures ∙ ap (assignment_of c.args.x) c.classify.ensures in
    given_shift c.args.n c.args.x c.in-Shift.flips (form c.args.constant c.args.factors.now) c.args.matrix.now.cells c.in_ok-shifted-in-Shift.shifted.cells c.in_ok-shifted-in-Shift.exactness
    c.requires.place c.requires.fit is (search rules)
