-- Goals of `sum_entries`: the sums or differences place by place, if all have 64 bits.
use Rattle.std.proofs.Common.{rules, ◌≡◌, ◌++◌, [], ◌∷◌, Some}
use Rattle.lra_base.specs.declared.number_types.NumberType.TheVariants.{Long}
use Rattle.lra_linearize.specs.Crates.lra_program.Value.{number}
use Rattle.lra_analysis_spec.specs.Linear.{entrywise}
use Rattle.lra_linearize.specs.Forms.{sum_or_difference}
use Rattle.lra_linearize.proofs.FormSteps.{so_far_next}
use Rattle.lra_linearize.proofs.forms.sum_entries.Goals as goal

pub loop-a-preserved : goal.loop-a-preserved
loop-a-preserved c =
    let left : c.loop-a.left.now ≡ c.in-Some.a.now ∷ c.in-Some.left_behind.now = search rules in
    let right : c.loop-a.right.now ≡ c.in-Some-split_first.b.now ∷ c.in-Some-split_first.right_behind.now = search rules in
    let pushed : c.push.new.self.items ≡ c.loop-a.sums.items ++ c.in-Some-sum_entry.sum ∷ [] = search rules in
    let is : Some c.in-Some-sum_entry.sum ≡ number Long (sum_or_difference c.args.minus c.in-Some.a.now c.in-Some-split_first.b.now) = search rules in
    rw pushed (so_far_next (entrywise (sum_or_difference c.args.minus) c.args.ours.now c.args.theirs.now) c.loop-a.sums.items
    (entrywise (sum_or_difference c.args.minus) c.in-Some.left_behind.now c.in-Some-split_first.right_behind.now)
    (sum_or_difference c.args.minus c.in-Some.a.now c.in-Some-split_first.b.now) c.in-Some-sum_entry.sum (rw (left, right) at c.loop-a.invariant) is)
