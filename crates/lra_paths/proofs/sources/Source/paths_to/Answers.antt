-- The goal of `paths_to`: a segment to the goal has no more paths than all have.
use Rattle.std.proofs.Common.{◌≤◌, length, subst, sym}
use Rattle.lra_path_disjuncts.specs.Disjuncts.{greatest_paths}
use Rattle.lra_paths.specs.Sources.{to_goal}
use Rattle.lra_paths.specs.Crates.{lra_path_segments.TreeSegmentViews.goal_view, lra_path_segments.declared.segments.Goal.TheVariants.ComesTo}
use Rattle.lra_paths.proofs.SourceSteps.{few_at}
use Rattle.lra_paths.proofs.sources.Source.paths_to.Goals as goal

pub write_if-requires-clause-few : goal.write_if-requires-clause-few
write_if-requires-clause-few c =
    let few = subst (λ ws. length (to_goal c.args.self.now.entries.items ws (goal_view c.args.goal)) ≤ greatest_paths) (sym c.deref-way-items.ensures.value)
    c.requires.few in
    rw (c.is_same_goal-is.ensures, c.as_slice.ensures.value)
    (few_at c.args.self.now.entries.items (goal_view c.args.goal) c.deref-way-items.result.now c.ways.way-index (record { goal = ComesTo 0; place = 0 })
    c.ways-test.true
    greatest_paths few)
