-- Goals of `next_of_arms`: the labels that come next are entered, then the tree after them is next.
use Rattle.std.proofs.{Common.rules, Common.◌≡◌, Common.◌∷◌, Common.arith, lemmas.List.nil_from_length, lemmas.Result.IfOk-weaker}
use Rattle.lra_pass_results.specs.Outcome.{outcome_view}
use Rattle.lra_pass_stack.specs.{Stack.ComesOutAt, Stack.IsMade, StepsLeft.most_rounds}
use Rattle.lra_pass_stack.proofs.SelectFrames.{arms_ended, label_few, label_other, label_running, label_width, other_running, owes_next, tree_owed}
use Rattle.lra_pass_stack.proofs.SelectSteps.{arms_fewer, entry_less, tree_less}
use Rattle.lra_pass_stack.proofs.selections.next_of_arms.Goals as goal

pub arms-init : goal.arms-init
arms-init g c = record { owes = λ others set whole memory here loop. loop; steps = λ n. omega arith }

-- a label -------------------------------------------------------------------------------------------------------------

pub enter-requires-clause-few : goal.enter-requires-clause-few
enter-requires-clause-few g c =
    let way = c.requires.way in
    label_few (g.F.Interfere.interference way.0) g.D.Domain.abstraction c.args.selecting.selection.plan.now c.args.selecting way.1 way.4 way.3

pub enter-requires-clause-width : goal.enter-requires-clause-width
enter-requires-clause-width g c =
    let way = c.requires.way in
    label_width (g.F.Interfere.interference way.0) g.D.Domain.abstraction c.args.selecting.selection.plan.now c.args.selecting way.1 way.4

pub enter-requires-clause-other : goal.enter-requires-clause-other
enter-requires-clause-other g c =
    let way = c.requires.way in
    label_other (g.F.Interfere.interference way.0) g.D.Domain.abstraction c.args.selecting.selection.plan.now c.args.selecting way.1 way.4 _ _ _ _ _ way.5

pub enter-requires-clause-running : goal.enter-requires-clause-running
enter-requires-clause-running g c =
    let way = c.requires.way in
    let set = c.args.selecting.selection.plan.now in
    label_running (g.F.Interfere.interference way.0) g.D.Domain.abstraction set c.args.selecting way.1 way.4 _ _ _ _ _
    (c.arms.invariant.owes way.0 set way.1 way.2 way.4 way.5)

pub arms-preserved : goal.arms-preserved
arms-preserved g c =
    let first : c.arms.left.now ≡ c.in-Some.arm.now ∷ c.in-Some.behind.now = search rules in
    record {
      owes = λ others set. owes_next (g.F.Interfere.interference others) g.D.Domain.abstraction set c.args.selecting c.args.arms.now c.arms.left.now
          c.args.so_far
          c.arms.running (c.arms.invariant.owes others set) c.in-Some.behind.now c.in-Some.arm.now c.in-Entry.label
          c.in_ok-running-in-Entry.running first c.in-Entry.is c.in_ok-running-in-Entry.ensures;
      steps = λ n. entry_less n _ c.arms.left.now c.in-Some.behind.now c.in-Some.arm.now first (c.arms.invariant.steps n);
    }

-- a tree --------------------------------------------------------------------------------------------------------------

pub open_arm-requires-clause-few : goal.open_arm-requires-clause-few
open_arm-requires-clause-few g c =
    let way = c.requires.way in
    label_few (g.F.Interfere.interference way.0) g.D.Domain.abstraction c.args.selecting.selection.plan.now c.args.selecting way.1 way.4 way.3

pub returns-in-Tree-clause-leads : goal.returns-in-Tree-clause-leads
returns-in-Tree-clause-leads g c others set whole memory plan may here loop =
    let first : c.arms.left.now ≡ c.in-Some.arm.now ∷ c.in-Some.behind.now = search rules in
    c.open_arm.ensures.leads others set whole memory plan may here
    (tree_owed (g.F.Interfere.interference others) g.D.Domain.abstraction set c.args.selecting c.args.arms.now c.arms.left.now c.args.so_far c.arms.running
    (c.arms.invariant.owes others set) whole memory here loop c.in-Some.behind.now c.in-Some.arm.now c.in-Tree.node first c.in-Tree.is)

pub returns-in-Tree-clause-falls : goal.returns-in-Tree-clause-falls
returns-in-Tree-clause-falls g c b set =
    let first : c.arms.left.now ≡ c.in-Some.arm.now ∷ c.in-Some.behind.now = search rules in
    arms_fewer g.D.Domain.abstraction set c.open_arm.result b _ _
    (tree_less (most_rounds b set) _ c.arms.left.now c.in-Some.behind.now c.in-Some.arm.now c.in-Tree.node first c.in-Tree.is
    (c.arms.invariant.steps (most_rounds b set)))
    (c.open_arm.ensures.steps b set)

-- the end -------------------------------------------------------------------------------------------------------------

pub come_out-requires : goal.come_out-requires
come_out-requires g c =
    let way = c.requires.way in
    let set = c.args.selecting.selection.plan.now in
    other_running (g.F.Interfere.interference way.0) g.D.Domain.abstraction set c.args.selecting way.1 way.4 _ _ _ _ _
    (c.arms.invariant.owes way.0 set way.1 way.2 way.4 way.5)

pub returns-clause-leads : goal.returns-clause-leads
returns-clause-leads g c others set whole memory plan may here loop =
    let o = g.F.Interfere.interference others in
    let m = g.D.Domain.abstraction in
    let s = c.args.selecting in
    let none = nil_from_length c.arms.left.now c.in_default.ensures.cases in
    c.passed.ensures.leads others set whole memory (IfOk-weaker c.come_out.result
    (λ r. ComesOutAt m s.selection.point s.has_default s.other c.arms.running r) (λ r. IsMade o m set whole (outcome_view r) memory)
    (λ r. arms_ended o m set s c.args.arms.now c.arms.left.now c.args.so_far c.arms.running (c.arms.invariant.owes others set) whole memory here loop r none)
    c.come_out.ensures)

pub returns-clause-falls : goal.returns-clause-falls
returns-clause-falls g c b set = arms_fewer g.D.Domain.abstraction set c.passed.result b 0 _ (omega arith) (c.passed.ensures.ends b set)
