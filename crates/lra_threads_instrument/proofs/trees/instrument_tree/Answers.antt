-- Goals of `instrument_tree`: what is next, in the places that are open, becomes the whole tree.
use Rattle.std.proofs.Common.{◌∙◌, ap, subst}
use Rattle.lra_operations.specs.TreeViews.{node_view}
use Rattle.lra_threads_instrument.specs.Crates.lra_analysis_spec.Instrumented.{instrumented}
use Rattle.lra_threads_instrument.specs.{Instrumented.all_around, StepsLeft.InstrumentStepReaches}
use Rattle.lra_threads_instrument.proofs.trees.instrument_tree.Goals as goal

pub steps-init : goal.steps-init
steps-init c = ap (λ ps. all_around c.args.globals ps (instrumented c.args.globals (node_view c.args.tree))) c.new-places.ensures.items

pub steps-preserved : goal.steps-preserved
steps-preserved c =
    (subst (λ s. InstrumentStepReaches c.args.globals c.steps.places.items c.steps.next c.take_step.new.places.items s) c.in-Goes.is
    c.in_ok-whole.ensures).same ∙
    c.steps.invariant

pub steps-smaller : goal.steps-smaller
steps-smaller c =
    (subst (λ s. InstrumentStepReaches c.args.globals c.steps.places.items c.steps.next c.take_step.new.places.items s) c.in-Goes.is
    c.in_ok-whole.ensures).falls

pub returns-in-Ended : goal.returns-in-Ended
returns-in-Ended c =
    subst (λ s. InstrumentStepReaches c.args.globals c.steps.places.items c.steps.next c.take_step.new.places.items s) c.in-Ended.is c.in_ok-whole.ensures ∙
    c.steps.invariant
