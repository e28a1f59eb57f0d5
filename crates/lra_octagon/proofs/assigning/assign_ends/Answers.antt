-- Goals of `assign_ends`: gives `x` the bounds of the form over the unary bounds.
use Rattle.std.proofs.{Common.◌≡◌, Common.◌∙◌, lemmas.Int.to_z-of_z}
use Rattle.std.specs.Int.{w128}
use Rattle.lra_box.specs.Bounds.{form}
use Rattle.lra_dbm.specs.Cells.{entries}
use Rattle.lra_octagon.specs.{Content.matrix_view, Tables.intervals}
use Rattle.lra_octagon.proofs.AssignLemmas.{intervals_width, assigned_bound}
use Rattle.lra_octagon.proofs.assigning.assign_ends.Goals as goal

pub sum_end-low-requires-clause-width : goal.sum_end-low-requires-clause-width
sum_end-low-requires-clause-width c =
    intervals_width c.args.n (entries c.args.n c.args.matrix.now.cells) c.as_slice.result.now c.args.factors.now c.requires.width (c.as_slice.ensures.value ∙ c.in_ok-intervals.ensures)

pub sum_end-high-requires-clause-width : goal.sum_end-high-requires-clause-width
sum_end-high-requires-clause-width c =
    intervals_width c.args.n (entries c.args.n c.args.matrix.now.cells) c.as_slice-2.result.now c.args.factors.now c.requires.width (c.as_slice-2.ensures.value ∙ c.in_ok-intervals.ensures)

pub returns-clause-assigned : goal.returns-clause-assigned
returns-clause-assigned c =
    let one : c.as_slice.result.now ≡ intervals c.args.n (entries c.args.n c.args.matrix.now.cells) = c.as_slice.ensures.value ∙ c.in_ok-intervals.ensures in
    let two : c.as_slice-2.result.now ≡ intervals c.args.n (entries c.args.n c.args.matrix.now.cells) = c.as_slice-2.ensures.value ∙ c.in_ok-intervals.ensures in
    let low = rw (to_z-of_z w128 c.args.constant c.ranges.constant, one) at c.sum_end-low.ensures.bound in
    let high = rw (to_z-of_z w128 c.args.constant c.ranges.constant, two) at c.sum_end-high.ensures.bound in
    assigned_bound c.args.n c.args.x (form c.args.constant c.args.factors.now) c.args.matrix.now.cells c.sum_end-low.result c.sum_end-high.result (matrix_view c.in_ok-confined.confined)
    c.in_ok-confined.exactness c.worse.result c.worse-2.result c.requires.place c.requires.width low high c.in_ok-confined.ensures.confined
    c.worse.ensures.exact c.worse.ensures.flagged c.worse-2.ensures.exact c.worse-2.ensures.flagged
