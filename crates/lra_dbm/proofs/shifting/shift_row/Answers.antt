-- Goals of `shift_row`: row `i` and its twins become those that the shift gives; whether a number of them passes
-- the range.
use Rattle.std.proofs.Common.{rules, subst, sym, ap, ◌≡◌, ◌+◌, ◌∙◌}
use Rattle.std.specs.Prelude.{◌||◌}
use Rattle.lra_dbm.specs.{Cells.Cells, Cells.entries, Shifting.shifted_within, Shifting.passes_at, Shifting.RowGiven, Steps.any_below}
use Rattle.lra_dbm.proofs.{Shifts.row_more, Shifts.twins_within, Turns.any_more}
use Rattle.lra_dbm.proofs.shifting.shift_row.Goals as goal

pub loop-j-preserved : goal.loop-j-preserved
loop-j-preserved c =
    let given = shifted_within c.args.shift.flips c.args.shift.x c.args.shift.c (entries c.args.n c.args.old.now) in
    let either : c.if-passes.passes ≡ (c.loop-j.passes || c.shifted_entry-sum.result.passes) = search rules in
    record {
      given = subst (λ (cells : Cells). RowGiven c.args.n given c.args.i (c.loop-j.j + 1) c.args.cells.now cells) (sym c.write.ensures)
          (row_more c.args.n c.args.i c.loop-j.j given c.args.cells.now c.loop-j.cells c.shifted_entry-sum.result.value c.requires.row c.loop-j-test.true
          c.shifted_entry-sum.ensures.value (twins_within c.args.n c.args.shift.flips c.args.shift.x c.args.shift.c c.args.old.now c.requires.is c.args.i c.loop-j.j) c.loop-j.invariant.given);
      passed = either ∙ ap (λ t. t || c.shifted_entry-sum.result.passes) c.loop-j.invariant.passed
          ∙ ap (λ t. any_below (passes_at c.args.shift.flips c.args.shift.x c.args.shift.c (entries c.args.n c.args.old.now) c.args.i) c.loop-j.j || t) c.shifted_entry-sum.ensures.passes
          ∙ sym (any_more (passes_at c.args.shift.flips c.args.shift.x c.args.shift.c (entries c.args.n c.args.old.now) c.args.i) c.loop-j.j);
    }
