-- Goals of `assign_bounds`: replaces the interval of a place by the ends of a form.
use Rattle.std.specs.Int.{w128}
use Rattle.std.proofs.lemmas.Int.{to_z-of_z}
use Rattle.lra_domain.specs.declared.Exactness.TheVariants.{Flagged}
use Rattle.lra_box.specs.Bounds.{form}
use Rattle.lra_box.proofs.AssignLemmas.{assigned_to, flagged_first, flagged_second}
use Rattle.lra_box.proofs.intervals.assign_bounds.Goals as goal

pub returns-in-Flagged : goal.returns-in-Flagged
returns-in-Flagged c =
    let low = rw (to_z-of_z w128 c.args.constant c.ranges.constant) at c.sum_end-low.ensures.bound in
    let high = rw (to_z-of_z w128 c.args.constant c.ranges.constant) at c.sum_end-high.ensures.bound in
    assigned_to c.args.bounds.now c.args.x (form c.args.constant c.args.factors.now) c.sum_end-low.result c.sum_end-high.result Flagged c.requires.place c.requires.width c.requires.sound low high
    c.sum_end-low.ensures.range c.sum_end-high.ensures.range (flagged_first _ _ c.in-Flagged.is)

pub returns-in-Exact : goal.returns-in-Exact
returns-in-Exact c =
    let low = rw (to_z-of_z w128 c.args.constant c.ranges.constant) at c.sum_end-low.ensures.bound in
    let high = rw (to_z-of_z w128 c.args.constant c.ranges.constant) at c.sum_end-high.ensures.bound in
    assigned_to c.args.bounds.now c.args.x (form c.args.constant c.args.factors.now) c.sum_end-low.result c.sum_end-high.result _ c.requires.place c.requires.width c.requires.sound low high
    c.sum_end-low.ensures.range c.sum_end-high.ensures.range (flagged_second _ _ c.in-Exact.is)
