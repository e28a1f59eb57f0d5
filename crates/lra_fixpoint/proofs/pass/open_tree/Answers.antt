-- Goals of `open_tree`: the first step into a tree.
use Rattle.std.proofs.{Common.◌<◌, Common.◌≤◌, Common.◌^◌, Common.refl, Common.sym, Common.subst, Common.arith, lemmas.Result.IfOk-weaker}
use Rattle.std.specs.Prelude.{IfOk}
use Rattle.lra_operations.specs.Tree.{probe}
use Rattle.lra_fixpoint.specs.Crates.{lra_analysis_spec.Plan.Plan, lra_domain.Interference.no_interference}
use Rattle.lra_pass_results.specs.declared.tree_forms.TreeForm.TheVariants.{Probe, Leaf, Row, Choice, Loop, Catch, Select}
use Rattle.lra_pass_results.specs.{Dimensions.TreeFits, Outcome.outcome_view, Outcome.IsPassed, TreeForms.leaf_view, TreeForms.IsTreeForm, declared.tree_forms.TreeForm.TreeForm}
use Rattle.lra_pass_stack.specs.{Stack.pass_task, Stack.IsMade, Stack.MayBePassed, StepsLeft.most_rounds, StepsLeft.next_left, StepsLeft.tree_steps}
use Rattle.lra_pass_results.proofs.AnyInterference.{leaf_among}
use Rattle.lra_pass_stack.proofs.{OpenFrames.catch_leads, OpenFrames.leaf_made, RowLeaves.row_less, SelectSteps.arms_less}
use Rattle.lra_fixpoint.proofs.RoundSteps.{choice_less, ends_less}
use Rattle.lra_fixpoint.proofs.pass.open_tree.Goals as goal

-- a leaf --------------------------------------------------------------------------------------------------------------

pub pass_leaf-requires : goal.pass_leaf-requires
pass_leaf-requires g c =
    let tree = c.args.tree in
    let shape : IsTreeForm c.args.plan.now tree.node.now (Leaf c.in-Leaf.leaf) =
    subst (λ (x : TreeForm). IsTreeForm c.args.plan.now tree.node.now x) c.in-Leaf.is c.of.ensures in
    let fits : TreeFits (leaf_view c.in-Leaf.leaf) (g.D.Domain.abstraction.dims tree.value) =
    subst (λ x. TreeFits x (g.D.Domain.abstraction.dims tree.value)) shape.0 c.requires.may.fits in
    record { parts = c.requires.parts; few = c.requires.may.few; fits = fits }

pub returns-in-Leaf-clause-leads : goal.returns-in-Leaf-clause-leads
returns-in-Leaf-clause-leads g c =
    let o = g.F.Interfere.interference c.args.others.now in
    let m = g.D.Domain.abstraction in
    let set = c.args.plan.now in
    let tree = c.args.tree in
    let whole = pass_task tree c.args.memory.now in
    let leaf = leaf_view c.in-Leaf.leaf in
    let shape : IsTreeForm set tree.node.now (Leaf c.in-Leaf.leaf) =
    subst (λ (x : TreeForm). IsTreeForm set tree.node.now x) c.in-Leaf.is c.of.ensures in
    c.passed.ensures.leads c.args.others.now set whole c.args.memory.now (IfOk-weaker c.pass_leaf.result
    (λ r. IsPassed no_interference m set leaf tree.flag tree.value (outcome_view r)) (λ r. IsMade o m set whole (outcome_view r) c.args.memory.now)
    (λ r one. leaf_made o m set whole leaf r shape.0 (leaf_among o m set c.in-Leaf.leaf tree.flag tree.value (outcome_view r) one))
    c.pass_leaf.ensures)

pub returns-in-Leaf-clause-falls : goal.returns-in-Leaf-clause-falls
returns-in-Leaf-clause-falls g c =
    let m = g.D.Domain.abstraction in
    let set = c.args.plan.now in
    let tree = c.args.tree in
    let shape : IsTreeForm set tree.node.now (Leaf c.in-Leaf.leaf) =
    subst (λ (x : TreeForm). IsTreeForm set tree.node.now x) c.in-Leaf.is c.of.ensures in
    let one = shape.1 (most_rounds (2 ^ 64) set) in
    ends_less m set c.passed.result (2 ^ 64) (tree_steps m (2 ^ 64) set tree.node.now) (omega (arith, one))
    (c.passed.ensures.ends (2 ^ 64) set)

-- what is done beside the program's operations -------------------------------------------------------------------------

pub returns-in-Probe-clause-leads : goal.returns-in-Probe-clause-leads
returns-in-Probe-clause-leads g c =
    let o = g.F.Interfere.interference c.args.others.now in
    let m = g.D.Domain.abstraction in
    let set = c.args.plan.now in
    let tree = c.args.tree in
    let whole = pass_task tree c.args.memory.now in
    let here = probe c.in-Probe.point c.in-Probe.what in
    let shape : IsTreeForm set tree.node.now (Probe c.in-Probe.point c.in-Probe.what) =
    subst (λ (x : TreeForm). IsTreeForm set tree.node.now x) c.in-Probe.is c.of.ensures in
    c.passed-in-Probe.ensures.leads c.args.others.now set whole c.args.memory.now (IfOk-weaker c.pass_probe.result
    (λ r. IsPassed o m set here tree.flag tree.value (outcome_view r)) (λ r. IsMade o m set whole (outcome_view r) c.args.memory.now)
    (λ r one. leaf_made o m set whole here r shape.0 one) (c.pass_probe.ensures set))

pub returns-in-Probe-clause-falls : goal.returns-in-Probe-clause-falls
returns-in-Probe-clause-falls g c =
    let m = g.D.Domain.abstraction in
    let set = c.args.plan.now in
    let tree = c.args.tree in
    let shape : IsTreeForm set tree.node.now (Probe c.in-Probe.point c.in-Probe.what) =
    subst (λ (x : TreeForm). IsTreeForm set tree.node.now x) c.in-Probe.is c.of.ensures in
    let two = shape.1 (most_rounds (2 ^ 64) set) in
    ends_less m set c.passed-in-Probe.result (2 ^ 64) (tree_steps m (2 ^ 64) set tree.node.now) (omega (arith, two))
    (c.passed-in-Probe.ensures.ends (2 ^ 64) set)

-- trees in a row ------------------------------------------------------------------------------------------------------

pub open_row-requires : goal.open_row-requires
open_row-requires g c =
    let tree = c.args.tree in
    let shape : IsTreeForm c.args.plan.now tree.node.now (Row c.in-Row.row) =
    subst (λ (x : TreeForm). IsTreeForm c.args.plan.now tree.node.now x) c.in-Row.is c.of.ensures in
    record {
      parts = subst (λ (s : Plan). 1 ≤ s.parts) (sym shape.2) c.requires.parts;
      way = (
        c.args.others.now,
        pass_task tree c.args.memory.now,
        subst (λ (s : Plan). MayBePassed (g.F.Interfere.interference c.args.others.now) g.D.Domain.abstraction s (pass_task tree c.args.memory.now))
            (sym shape.2) c.requires.may,
        shape.0,
        refl,
        refl,
      );
    }

pub returns-in-Row-clause-leads : goal.returns-in-Row-clause-leads
returns-in-Row-clause-leads g c =
    let tree = c.args.tree in
    let shape : IsTreeForm c.args.plan.now tree.node.now (Row c.in-Row.row) =
    subst (λ (x : TreeForm). IsTreeForm c.args.plan.now tree.node.now x) c.in-Row.is c.of.ensures in
    c.open_row.ensures.leads c.args.others.now c.args.plan.now (pass_task tree c.args.memory.now) shape.2 shape.0 refl refl c.requires.may

pub returns-in-Row-clause-falls : goal.returns-in-Row-clause-falls
returns-in-Row-clause-falls g c =
    let m = g.D.Domain.abstraction in
    let set = c.args.plan.now in
    let tree = c.args.tree in
    let shape : IsTreeForm set tree.node.now (Row c.in-Row.row) =
    subst (λ (x : TreeForm). IsTreeForm set tree.node.now x) c.in-Row.is c.of.ensures in
    row_less m set c.open_row.result (2 ^ 64) _ (tree_steps m (2 ^ 64) set tree.node.now)
    (shape.1 (most_rounds (2 ^ 64) set)) (c.open_row.ensures.falls (2 ^ 64) set)

-- a choice ------------------------------------------------------------------------------------------------------------

pub returns-in-Choice-clause-leads : goal.returns-in-Choice-clause-leads
returns-in-Choice-clause-leads g c =
    let tree = c.args.tree in
    let shape : IsTreeForm c.args.plan.now tree.node.now (Choice c.in-Choice.choice) =
    subst (λ (x : TreeForm). IsTreeForm c.args.plan.now tree.node.now x) c.in-Choice.is c.of.ensures in
    c.open_choice.ensures.leads c.args.others.now c.args.plan.now (pass_task tree c.args.memory.now) shape.2 shape.0 refl refl c.requires.may

pub returns-in-Choice-clause-falls : goal.returns-in-Choice-clause-falls
returns-in-Choice-clause-falls g c =
    let m = g.D.Domain.abstraction in
    let set = c.args.plan.now in
    let tree = c.args.tree in
    let choice = c.in-Choice.choice in
    let shape : IsTreeForm set tree.node.now (Choice choice) =
    subst (λ (x : TreeForm). IsTreeForm set tree.node.now x) c.in-Choice.is c.of.ensures in
    choice_less m set c.open_choice.result (2 ^ 64) (tree_steps m (2 ^ 64) set choice.yes.now)
    (tree_steps m (2 ^ 64) set choice.no.now) (tree_steps m (2 ^ 64) set tree.node.now)
    (shape.1 (most_rounds (2 ^ 64) set)) (c.open_choice.ensures.steps (2 ^ 64) set)

-- a loop --------------------------------------------------------------------------------------------------------------

pub open_loop-requires : goal.open_loop-requires
open_loop-requires g c =
    let tree = c.args.tree in
    let shape : IsTreeForm c.args.plan.now tree.node.now (Loop c.in-Loop.the_loop) =
    subst (λ (x : TreeForm). IsTreeForm c.args.plan.now tree.node.now x) c.in-Loop.is c.of.ensures in (
      c.args.others.now,
      c.args.plan.now,
      pass_task tree c.args.memory.now,
      record { plan = shape.2; is = shape.0; first_is = refl; flagged = refl; kept = refl; may = c.requires.may },
    )

pub returns-in-Loop-clause-leads : goal.returns-in-Loop-clause-leads
returns-in-Loop-clause-leads g c =
    let tree = c.args.tree in
    let shape : IsTreeForm c.args.plan.now tree.node.now (Loop c.in-Loop.the_loop) =
    subst (λ (x : TreeForm). IsTreeForm c.args.plan.now tree.node.now x) c.in-Loop.is c.of.ensures in
    c.open_loop.ensures.leads c.args.others.now c.args.plan.now (pass_task tree c.args.memory.now) (record {
      plan = shape.2;
      is = shape.0;
      first_is = refl;
      flagged = refl;
      kept = refl;
      may = c.requires.may;
    })

pub returns-in-Loop-clause-falls : goal.returns-in-Loop-clause-falls
returns-in-Loop-clause-falls g c =
    let m = g.D.Domain.abstraction in
    let set = c.args.plan.now in
    let tree = c.args.tree in
    let shape : IsTreeForm set tree.node.now (Loop c.in-Loop.the_loop) =
    subst (λ (x : TreeForm). IsTreeForm set tree.node.now x) c.in-Loop.is c.of.ensures in
    subst (λ n. IfOk c.open_loop.result (λ n'. next_left m (2 ^ 64) set n' < n))
    (sym (shape.1 (most_rounds (2 ^ 64) set))) (c.open_loop.ensures.steps set shape.2)

-- a catch -------------------------------------------------------------------------------------------------------------

pub returns-in-Catch-clause-leads : goal.returns-in-Catch-clause-leads
returns-in-Catch-clause-leads g c =
    let tree = c.args.tree in
    let catch = c.in-Catch.catch in
    let shape : IsTreeForm c.args.plan.now tree.node.now (Catch catch) =
    subst (λ (x : TreeForm). IsTreeForm c.args.plan.now tree.node.now x) c.in-Catch.is c.of.ensures in
    catch_leads (g.F.Interfere.interference c.args.others.now) g.D.Domain.abstraction c.args.plan.now catch.point catch.exit catch.body.now tree.value tree.flag
    (pass_task tree c.args.memory.now) shape.0 refl refl c.requires.may

pub returns-in-Catch-clause-falls : goal.returns-in-Catch-clause-falls
returns-in-Catch-clause-falls g c =
    let tree = c.args.tree in
    let shape : IsTreeForm c.args.plan.now tree.node.now (Catch c.in-Catch.catch) =
    subst (λ (x : TreeForm). IsTreeForm c.args.plan.now tree.node.now x) c.in-Catch.is c.of.ensures in
    let all = shape.1 (most_rounds (2 ^ 64) c.args.plan.now) in
    omega (arith, all)

-- a `switch` ----------------------------------------------------------------------------------------------------------

pub open_selection-requires : goal.open_selection-requires
open_selection-requires g c =
    let tree = c.args.tree in
    let shape : IsTreeForm c.args.plan.now tree.node.now (Select c.in-Select.selection) =
    subst (λ (x : TreeForm). IsTreeForm c.args.plan.now tree.node.now x) c.in-Select.is c.of.ensures in
    record {
      parts = subst (λ (s : Plan). 1 ≤ s.parts) (sym shape.2) c.requires.parts;
      way = (
        c.args.others.now,
        pass_task tree c.args.memory.now,
        subst (λ (s : Plan). MayBePassed (g.F.Interfere.interference c.args.others.now) g.D.Domain.abstraction s (pass_task tree c.args.memory.now))
            (sym shape.2) c.requires.may,
        shape.0,
        refl,
        refl,
      );
    }

pub returns-in-Select-clause-leads : goal.returns-in-Select-clause-leads
returns-in-Select-clause-leads g c =
    let tree = c.args.tree in
    let shape : IsTreeForm c.args.plan.now tree.node.now (Select c.in-Select.selection) =
    subst (λ (x : TreeForm). IsTreeForm c.args.plan.now tree.node.now x) c.in-Select.is c.of.ensures in
    c.open_selection.ensures.leads c.args.others.now c.args.plan.now (pass_task tree c.args.memory.now) shape.2 shape.0 refl refl c.requires.may

pub returns-in-Select-clause-falls : goal.returns-in-Select-clause-falls
returns-in-Select-clause-falls g c =
    let m = g.D.Domain.abstraction in
    let set = c.args.plan.now in
    let tree = c.args.tree in
    let shape : IsTreeForm set tree.node.now (Select c.in-Select.selection) =
    subst (λ (x : TreeForm). IsTreeForm set tree.node.now x) c.in-Select.is c.of.ensures in
    arms_less m set c.open_selection.result (2 ^ 64) _ (tree_steps m (2 ^ 64) set tree.node.now)
    (shape.1 (most_rounds (2 ^ 64) set)) (c.open_selection.ensures.falls (2 ^ 64) set)
