use Rattle.std.proofs.Common.{◌≡◌, ◌+◌}
use Rattle.lra_operations.specs.TreeViews.{node_view}
use Rattle.lra_threads_instrument.specs.Crates.lra_analysis_spec.Instrumented.{instrumented}
use Rattle.lra_threads_instrument.specs.{Instrumented.all_around, Instrumented.standing, StepsLeft.all_left, StepsLeft.next_left}
use Rattle.lra_threads_instrument.proofs.trees.instrument_tree.Given as goal

-- what is next, in the places that are open, becomes the whole tree
abbrev pub invariant-steps : goal.invariant-steps
invariant-steps l = all_around l.globals l.places.items (standing l.globals l.next) ≡ instrumented l.globals (node_view l.fn.tree)

abbrev pub decreases-steps : goal.decreases-steps
decreases-steps l = all_left l.places.items + next_left l.next
