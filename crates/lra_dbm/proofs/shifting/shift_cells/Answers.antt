-- Goals of `shift_cells`: the entries become those that the shift gives; whether a number of them passes the range.
use Rattle.std.proofs.Common.{◌*◌, ap, sym, ◌∙◌, subst}
use Rattle.std.specs.Prelude.{◌||◌}
use Rattle.lra_dbm.specs.{Cells.Cells, Cells.entries, Shifting.shifted_within, Shifting.RowGiven}
use Rattle.lra_dbm.proofs.Shifts.{both_shifted}
use Rattle.lra_dbm.proofs.shifting.shift_cells.Goals as goal

pub returns-then-plus : goal.returns-then-plus
returns-then-plus c =
    let given = shifted_within c.args.shift.flips c.args.shift.x c.args.shift.c (entries c.args.n c.args.old.now) in
    both_shifted c.args.n c.args.shift.flips c.args.shift.x c.args.shift.c c.args.old.now c.shift_row-plus.new.cells c.shift_row-minus.new.cells
    c.shift_row-plus.result c.shift_row-minus.result c.shift_row-plus.result c.requires.place c.requires.is
    (subst (λ (cells : Cells). RowGiven c.args.n given (2 * c.args.shift.x) (2 * c.args.n) cells c.shift_row-plus.new.cells) c.requires.same c.shift_row-plus.ensures.given)
    c.shift_row-minus.ensures.given c.shift_row-plus.ensures.passes c.shift_row-minus.ensures.passes
    (c.if-plus.true ∙ ap (λ t. t || c.shift_row-minus.result) (sym c.if-plus.true))

pub returns-else-plus : goal.returns-else-plus
returns-else-plus c =
    let given = shifted_within c.args.shift.flips c.args.shift.x c.args.shift.c (entries c.args.n c.args.old.now) in
    both_shifted c.args.n c.args.shift.flips c.args.shift.x c.args.shift.c c.args.old.now c.shift_row-plus.new.cells c.shift_row-minus.new.cells
    c.shift_row-plus.result c.shift_row-minus.result c.shift_row-minus.result c.requires.place c.requires.is
    (subst (λ (cells : Cells). RowGiven c.args.n given (2 * c.args.shift.x) (2 * c.args.n) cells c.shift_row-plus.new.cells) c.requires.same c.shift_row-plus.ensures.given)
    c.shift_row-minus.ensures.given c.shift_row-plus.ensures.passes c.shift_row-minus.ensures.passes
    (ap (λ t. t || c.shift_row-minus.result) (sym c.if-plus.false))
