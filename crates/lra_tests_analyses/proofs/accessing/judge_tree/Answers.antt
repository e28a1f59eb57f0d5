-- Goals of `judge_tree`: the tree fits the iteration, and its values what is judged.
use Rattle.std.proofs.Common.{length, refl, true}
use Rattle.lra_program.specs.Step.{test}
use Rattle.lra_tests_analyses.specs.Steps.{is_inside, written}
use Rattle.lra_tests_analyses.proofs.StepsTree.{tree_fits, steps_numbered, as_many, steps_few, accesses_below}
use Rattle.lra_tests_analyses.proofs.accessing.judge_tree.Goals as goal

pub analyse-requires-clause-fits : goal.analyse-requires-clause-fits
analyse-requires-clause-fits g c = rw c.in_ok-graph.ensures.tree (tree_fits (test 0 is_inside true) written refl refl tt tt)

pub analyse-requires-clause-numbered : goal.analyse-requires-clause-numbered
analyse-requires-clause-numbered g c =
    rw (c.in_ok-graph.ensures.tree, c.in_ok-graph.ensures.sites) (steps_numbered (test 0 is_inside true) written)

pub judge_accesses-requires-clause-few : goal.judge_accesses-requires-clause-few
judge_accesses-requires-clause-few g c =
    let values = c.in_ok-solution.solution.values.items in
    let many = as_many c.in_ok-graph.graph.sites.items values c.in_ok-graph.ensures.sites c.in_ok-solution.ensures.points in
    let wide = rw (c.in_ok-graph.ensures.tree, c.in_ok-graph.ensures.sites) at c.in_ok-solution.ensures.wide in
    rw c.deref.ensures.value (steps_few (test 0 is_inside true) written refl refl g.D.Domain.abstraction values many wide)

pub judge_accesses-requires-clause-below : goal.judge_accesses-requires-clause-below
judge_accesses-requires-clause-below g c =
    let values = c.in_ok-solution.solution.values.items in
    let many = as_many c.in_ok-graph.graph.sites.items values c.in_ok-graph.ensures.sites c.in_ok-solution.ensures.points in
    rw (c.deref.ensures.value, c.in_ok-graph.ensures.tree) (accesses_below (length values) many)
