-- Goals of `test_refined`: refines the unary bounds by `constant + factors >= 0`, enters them, and closes.
use Rattle.std.proofs.{Common.rules, Common.◌≡◌, Common.sym, Common.ap, Common.◌∙◌, Common.length, Common.true, Common.false, lemmas.Int.to_z-of_z}
use Rattle.std.specs.Int.{w128}
use Rattle.lra_dbm.specs.Cells.{entries}
use Rattle.lra_box.specs.Bounds.{form}
use Rattle.lra_box.proofs.SoundLemmas.{at_sound}
use Rattle.lra_octagon.specs.{Content.matrix_view, StoreBounds.length_intervals, Tables.some_crossed}
use Rattle.lra_octagon.proofs.{OtherLemmas.tested_crossed, OtherLemmas.tested_refuted, OtherLemmas.tested_other, UnaryLemmas.intervals_sound}
use Rattle.lra_octagon.proofs.testing.test_refined.Goals as goal

pub returns-then-some_crossed-clause-tested : goal.returns-then-some_crossed-clause-tested
returns-then-some_crossed-clause-tested c =
    let crossing : some_crossed c.args.unary.now ≡ true = search rules in
    tested_crossed c.args.n (form c.args.constant c.args.factors.now) c.args.matrix.now.cells c.requires.other
    (length_intervals c.args.n (entries c.args.n c.args.matrix.now.cells) ∙ sym c.requires.width) (rw c.requires.unary at crossing)

pub refine_all-refined-requires-clause-width : goal.refine_all-refined-requires-clause-width
refine_all-refined-requires-clause-width c = c.requires.width ∙ sym (length_intervals c.args.n (entries c.args.n c.args.matrix.now.cells)) ∙ ap length (sym c.requires.unary)

pub refine_all-refined-requires-clause-sound : goal.refine_all-refined-requires-clause-sound
refine_all-refined-requires-clause-sound c =
    let crossing : some_crossed c.args.unary.now ≡ false = search rules in
    intervals_sound c.args.n c.args.matrix.now.cells c.args.unary.now c.requires.is c.requires.unary crossing

pub returns-then-refined-clause-tested : goal.returns-then-refined-clause-tested
returns-then-refined-clause-tested c =
    let box = rw (to_z-of_z w128 c.args.constant c.ranges.constant, c.requires.unary, c.if-refined.true) at c.refine_all-refined.ensures.tested in
    tested_refuted c.args.n (form c.args.constant c.args.factors.now) c.args.matrix.now.cells c.refine_all-refined.result.exactness c.requires.other box

pub test_intervals-requires-clause-width : goal.test_intervals-requires-clause-width
test_intervals-requires-clause-width c =
    let box = rw (c.requires.unary, c.if-refined.false) at c.refine_all-refined.ensures.tested in
    box.fit c.args.n (length_intervals c.args.n (entries c.args.n c.args.matrix.now.cells))

pub test_intervals-requires-clause-ends : goal.test_intervals-requires-clause-ends
test_intervals-requires-clause-ends c = λ k.
    let box = rw c.if-refined.false at c.refine_all-refined.ensures.tested in
    (at_sound c.refine_all-refined.new.bounds k box.sound).0

pub returns-clause-tested : goal.returns-clause-tested
returns-clause-tested c =
    let box = rw (to_z-of_z w128 c.args.constant c.ranges.constant, c.requires.unary, c.if-refined.false) at c.refine_all-refined.ensures.tested in
    tested_other c.args.n (form c.args.constant c.args.factors.now) c.refine_all-refined.new.bounds c.args.matrix.now.cells (matrix_view c.in_ok-closed.closed) c.refine_all-refined.result.exactness
    c.in_ok-closed.exactness c.worse.result c.requires.other (box.fit c.args.n (length_intervals c.args.n (entries c.args.n c.args.matrix.now.cells))) box
    c.in_ok-closed.ensures.bounded c.worse.ensures.exact c.worse.ensures.flagged
