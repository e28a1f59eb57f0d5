-- Goals of `judge_steps`: the tree fits the iteration, and its values what is judged.
use Rattle.std.proofs.Common.{length, refl, arith, ◌<◌}
use Rattle.lra_tests_analyses.specs.Crates.lra_base.Operators.{plus, minus}
use Rattle.lra_tests_analyses.specs.Steps.{stepped}
use Rattle.lra_tests_analyses.proofs.StepsTree.{tree_fits, steps_numbered, as_many, steps_few, steps_below}
use Rattle.lra_tests_analyses.proofs.fitting.judge_steps.Goals as goal

pub analyse-requires-clause-fits : goal.analyse-requires-clause-fits
analyse-requires-clause-fits g c =
    let place : 0 < 1 = omega arith in
    rw c.in_ok-graph.ensures.tree (tree_fits (stepped plus) (stepped minus) refl refl place place)

pub analyse-requires-clause-numbered : goal.analyse-requires-clause-numbered
analyse-requires-clause-numbered g c = rw (c.in_ok-graph.ensures.tree, c.in_ok-graph.ensures.sites) (steps_numbered (stepped plus) (stepped minus))

pub judge-requires-clause-few : goal.judge-requires-clause-few
judge-requires-clause-few g c =
    let values = c.in_ok-solution.solution.values.items in
    let many = as_many c.in_ok-graph.graph.sites.items values c.in_ok-graph.ensures.sites c.in_ok-solution.ensures.points in
    let wide = rw (c.in_ok-graph.ensures.tree, c.in_ok-graph.ensures.sites) at c.in_ok-solution.ensures.wide in
    rw c.deref.ensures.value (steps_few (stepped plus) (stepped minus) refl refl g.D.Domain.abstraction values many wide)

pub judge-requires-clause-below : goal.judge-requires-clause-below
judge-requires-clause-below g c =
    let values = c.in_ok-solution.solution.values.items in
    let many = as_many c.in_ok-graph.graph.sites.items values c.in_ok-graph.ensures.sites c.in_ok-solution.ensures.points in
    rw (c.deref.ensures.value, c.in_ok-graph.ensures.tree) (steps_below (length values) many)
