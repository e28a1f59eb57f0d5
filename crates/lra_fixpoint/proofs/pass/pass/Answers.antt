-- Goals of `pass`: the pass over a tree, step by step.
use Rattle.std.proofs.Common.{◌^◌, subst}
use Rattle.lra_operations.specs.TreeViews.{node_view}
use Rattle.lra_pass_stack.specs.{Stack.PassTask, Stack.PassStepReaches, StepsLeft.all_left, StepsLeft.TakesFewer}
use Rattle.lra_pass_stack.proofs.OpenFrames.{begins}
use Rattle.lra_fixpoint.proofs.pass.pass.Goals as goal

pub open_tree-requires : goal.open_tree-requires
open_tree-requires g c = record {
  parts = c.requires.parts;
  may = record { few = c.requires.few; fits = c.requires.fits; remembers = c.requires.remembers };
}

pub steps-init : goal.steps-init
steps-init g c = begins (g.F.Interfere.interference c.args.others.now) g.D.Domain.abstraction c.args.plan.now c.none-places.result.open.items (record {
  tree = node_view c.args.tree.node.now;
  value = c.args.tree.value;
  flag = c.args.tree.flag;
  memory = c.args.memory.now;
}) c.in_ok-next.next c.open_tree.new.memory c.none-places.ensures
    (record { few = c.requires.few; fits = c.requires.fits; remembers = c.requires.remembers }) c.in_ok-next.ensures.leads

pub take_step-requires : goal.take_step-requires
take_step-requires g c = record {
  parts = c.requires.parts;
  way = (
    record {
      tree = node_view c.args.tree.node.now;
      value = c.args.tree.value;
      flag = c.args.tree.flag;
      memory = c.args.memory.now;
    },
    c.steps.invariant,
  );
}

-- the whole tree is passed --------------------------------------------------------------------------------------------

pub returns-in-Ended-clause-passed : goal.returns-in-Ended-clause-passed
returns-in-Ended-clause-passed g c =
    let o = g.F.Interfere.interference c.args.others.now in
    let m = g.D.Domain.abstraction in
    let whole : PassTask _ = record {
      tree = node_view c.args.tree.node.now;
      value = c.args.tree.value;
      flag = c.args.tree.flag;
      memory = c.args.memory.now;
    } in
    (subst (λ s. PassStepReaches o m c.args.plan.now c.take_step.new.places.open.items whole s c.take_step.new.memory)
    c.in-Ended.is (c.in_ok-outcome.ensures.leads whole c.steps.invariant)).passed

pub returns-in-Ended-clause-stays : goal.returns-in-Ended-clause-stays
returns-in-Ended-clause-stays g c =
    let o = g.F.Interfere.interference c.args.others.now in
    let m = g.D.Domain.abstraction in
    let whole : PassTask _ = record {
      tree = node_view c.args.tree.node.now;
      value = c.args.tree.value;
      flag = c.args.tree.flag;
      memory = c.args.memory.now;
    } in
    (subst (λ s. PassStepReaches o m c.args.plan.now c.take_step.new.places.open.items whole s c.take_step.new.memory)
    c.in-Ended.is (c.in_ok-outcome.ensures.leads whole c.steps.invariant)).stays

-- it goes on ----------------------------------------------------------------------------------------------------------

pub steps-preserved : goal.steps-preserved
steps-preserved g c =
    let o = g.F.Interfere.interference c.args.others.now in
    let m = g.D.Domain.abstraction in
    let whole : PassTask _ = record {
      tree = node_view c.args.tree.node.now;
      value = c.args.tree.value;
      flag = c.args.tree.flag;
      memory = c.args.memory.now;
    } in
    subst (λ s. PassStepReaches o m c.args.plan.now c.take_step.new.places.open.items whole s c.take_step.new.memory)
    c.in-Goes.is (c.in_ok-outcome.ensures.leads whole c.steps.invariant)

pub steps-smaller : goal.steps-smaller
steps-smaller g c =
    let m = g.D.Domain.abstraction in
    let whole : PassTask _ = record {
      tree = node_view c.args.tree.node.now;
      value = c.args.tree.value;
      flag = c.args.tree.flag;
      memory = c.args.memory.now;
    } in
    subst (λ s. TakesFewer m (2 ^ 64) c.args.plan.now c.take_step.new.places.open.items s
    (all_left m (2 ^ 64) c.args.plan.now c.steps.places.open.items c.steps.next))
    c.in-Goes.is (c.in_ok-outcome.ensures.falls whole c.steps.invariant)
