-- Goals of the functions that call each other around `take_tree`: what each kind of tree gives, trees that stand in a row, and a row's trees.
use Rattle.std.proofs.Common.{rules, ◌≡◌, ◌∙◌, ◌++◌, ◌∷◌, ap, arith, map}
use Rattle.lra_linearize.specs.Crates.lra_operations.Tree as graph
use Rattle.lra_linearize.specs.Crates.lra_operations.TreeViews.{exit_view, node_view, op_view, row, arm_view, arms_of}
use Rattle.lra_linearize.specs.Crates.lra_program.ProgramViews.{cond_view, expr_view}
use Rattle.lra_analysis_spec.specs.Thresholds.{condition_rows, round_rows, rows_in}
use Rattle.lra_linearize.proofs.TreeViews.{act_view, catch_view, check_view, choose_view, iterate_view, last_taken, row_ends, select_view, seq_view, taken_as, taken_seen, arms_taken, entry_taken}
use Rattle.lra_linearize.proofs.TreeViews.{none_taken, one_arm_taken, taken_dims, tree_taken, two_rounds}
use Rattle.lra_linearize.proofs.{ThresholdSteps.iterate_rows, ThresholdSteps.trees_taken, TreeSizes.arm_among, TreeSizes.tree_among}
use Rattle.lra_linearize.proofs.thresholds.+tree.Goals as goal

-- names of calls that stand in several arms (`take_condition`, `take_tree`, `deref`) as those of lra_transfer's `leave`: the first without its arm
pub take_tree-returns-in-Act : goal.take_tree-returns-in-Act
take_tree-returns-in-Act t c =
    taken_seen c.take_op.result c.args.rows.now c.take_op.new.rows c.args.rows.now.dims (node_view c.args.node.now) (graph.act c.in-Act.field-0 (op_view c.in-Act.op))
    (ap node_view c.in-Act.is ∙ act_view c.in-Act.field-0 c.in-Act.op) c.take_op.ensures

pub take_tree-returns-in-Check : goal.take_tree-returns-in-Check
take_tree-returns-in-Check t c =
    taken_seen c.take_condition.result c.args.rows.now c.take_condition.new.rows c.args.rows.now.dims (node_view c.args.node.now)
    (graph.check c.in-Check.field-0 c.in-Check.base (cond_view c.in-Check.condition)) (ap node_view c.in-Check.is ∙ check_view c.in-Check.field-0 c.in-Check.base c.in-Check.condition)
    c.take_condition.ensures

pub take_tree-returns-in-Seq : goal.take_tree-returns-in-Seq
take_tree-returns-in-Seq t c =
    let inner = rw (c.deref.ensures, c.as_slice.ensures.value) at c.take_trees.ensures in
    taken_seen c.take_trees.result c.args.rows.now c.take_trees.new.rows c.args.rows.now.dims (node_view c.args.node.now)
    (row (map node_view c.in-Seq.trees.items) (node_view c.in-Seq.last.value)) (ap node_view c.in-Seq.is ∙ seq_view c.in-Seq.trees c.in-Seq.last) inner

pub take_tree-returns-in_ok-take_tree-in-Choose : goal.take_tree-returns-in_ok-take_tree-in-Choose
take_tree-returns-in_ok-take_tree-in-Choose t c =
    let n = c.args.rows.now.dims in
    let yes = rw c.deref-in-Choose.ensures at c.in_ok-take_tree-in-Choose.ensures in
    let no = rw c.deref-in-Choose-2.ensures at c.take_tree-in-Choose.ensures in
    let behind = last_taken c.take_tree-in-Choose.result c.take_condition-in-Choose.new.rows c.take_tree.new.rows c.take_tree-in-Choose.new.rows _
    (λ k. rows_in k (node_view c.in-Choose.no.value)) yes no in
    taken_seen c.take_tree-in-Choose.result c.args.rows.now c.take_tree-in-Choose.new.rows n (node_view c.args.node.now)
    (graph.choose c.in-Choose.field-0 c.in-Choose.base (cond_view c.in-Choose.condition) (node_view c.in-Choose.yes.value) (node_view c.in-Choose.no.value))
    (ap node_view c.in-Choose.is ∙ choose_view c.in-Choose.field-0 c.in-Choose.base c.in-Choose.condition c.in-Choose.yes c.in-Choose.no)
    (last_taken c.take_tree-in-Choose.result c.args.rows.now c.take_condition-in-Choose.new.rows c.take_tree-in-Choose.new.rows (condition_rows n c.in-Choose.base (cond_view c.in-Choose.condition))
    (λ k. rows_in k (node_view c.in-Choose.yes.value) ++ rows_in k (node_view c.in-Choose.no.value)) c.in_ok-take_condition-in-Choose.ensures behind)

pub take_tree-returns-in_ok-take_condition-in-Iterate : goal.take_tree-returns-in_ok-take_condition-in-Iterate
take_tree-returns-in_ok-take_condition-in-Iterate t c =
    let n = c.args.rows.now.dims in
    let body = node_view c.in-Iterate.body.value in
    let round = rw c.deref-in-Iterate.ensures at c.take_round.ensures in
    let both = last_taken c.take_round.result c.args.rows.now c.take_condition-in-Iterate.new.rows c.take_round.new.rows
    (condition_rows n c.in-Iterate.base (cond_view c.in-Iterate.condition)) (λ k. round_rows k body) c.in_ok-take_condition-in-Iterate.ensures round in
    taken_seen c.take_round.result c.args.rows.now c.take_round.new.rows n (node_view c.args.node.now)
    (graph.iterate c.in-Iterate.field-0 c.in-Iterate.base (cond_view c.in-Iterate.condition) body)
    (ap node_view c.in-Iterate.is ∙ iterate_view c.in-Iterate.field-0 c.in-Iterate.base c.in-Iterate.condition c.in-Iterate.body)
    (taken_as c.take_round.result c.args.rows.now c.take_round.new.rows _ _
    (iterate_rows n c.in-Iterate.field-0 c.in-Iterate.base (cond_view c.in-Iterate.condition) body) both)

pub take_tree-returns-in-Catch : goal.take_tree-returns-in-Catch
take_tree-returns-in-Catch t c =
    let inner = rw c.deref-in-Catch.ensures at c.take_tree-in-Catch.ensures in
    taken_seen c.take_tree-in-Catch.result c.args.rows.now c.take_tree-in-Catch.new.rows c.args.rows.now.dims (node_view c.args.node.now)
    (graph.catch c.in-Catch.field-0 (exit_view c.in-Catch.field-1) (node_view c.in-Catch.body.value))
    (ap node_view c.in-Catch.is ∙ catch_view c.in-Catch.field-0 c.in-Catch.field-1 c.in-Catch.body) inner

pub take_trees-take_tree-requires : goal.take_trees-take_tree-requires
take_trees-take_tree-requires t c =
    let smaller = tree_among c.args.trees.now c.args.last.now c.trees.tree-index c.tree-item.result c.trees-test.true c.tree-item.is in
    (omega (arith, c.decreases, smaller), (let same = c.trees.invariant.dims in let few = c.requires in omega (arith, same, few)))

pub take_trees-trees-preserved : goal.take_trees-trees-preserved
take_trees-trees-preserved t c =
    trees_taken c.args.trees.now c.trees.tree-index c.tree-item.result c.args.rows.now c.trees.rows c.take_tree.new.rows
    c.trees-test.true c.tree-item.is c.trees.invariant c.in_ok-take_tree.ensures

-- after the loop: all trees, and the last
pub take_trees-returns : goal.take_trees-returns
take_trees-returns t c =
    row_ends c.take_tree-2.result c.args.trees.now (node_view c.args.last.now) c.trees.tree-index c.args.rows.now c.trees.rows c.take_tree-2.new.rows
    (omega (arith, c.trees-test.false)) c.trees.invariant c.take_tree-2.ensures

-- a round of two: its step comes first
pub take_round-returns-in_ok-take_trees-in-Some : goal.take_round-returns-in_ok-take_trees-in-Some
take_round-returns-in_ok-take_trees-in-Some t c =
    let two : c.in-Seq.trees.items ≡ c.in-Some.inner.now ∷ c.in-Some.step.now = search rules in
    let first = rw c.deref-in-Some.ensures at c.in_ok-take_trees-in-Some.ensures in
    two_rounds c.take_tree.result c.args.rows.now c.take_trees.new.rows c.take_tree.new.rows c.args.body.now c.in-Seq.trees c.in-Seq.last c.in-Some.inner.now c.in-Some.step.now
    c.in-Seq.is two first c.take_tree.ensures

pub take_tree-returns-in-Select : goal.take_tree-returns-in-Select
take_tree-returns-in-Select t c =
    let inner = rw c.as_slice-in-Select.ensures.value at c.take_arms.ensures in
    taken_seen c.take_arms.result c.args.rows.now c.take_arms.new.rows c.args.rows.now.dims (node_view c.args.node.now)
    (graph.select c.in-Select.field-0 c.in-Select.field-1 (expr_view c.in-Select.field-2) (arms_of (map arm_view c.in-Select.arms.items)))
    (ap node_view c.in-Select.is ∙ select_view c.in-Select.field-0 c.in-Select.field-1 c.in-Select.field-2 c.in-Select.arms) inner

pub take_arms-arms-init : goal.take_arms-arms-init
take_arms-arms-init t c = none_taken c.args.rows.now c.args.arms.now

pub take_arms-take_arm-requires : goal.take_arms-take_arm-requires
take_arms-take_arm-requires t c =
    let smaller = arm_among c.args.arms.now c.arms.arm-index c.arm-item.result c.arms-test.true c.arm-item.is in
    (omega (arith, c.decreases, smaller), (let same = c.arms.invariant.dims in let few = c.requires in omega (arith, same, few)))

pub take_arms-arms-preserved : goal.take_arms-arms-preserved
take_arms-arms-preserved t c =
    one_arm_taken c.args.rows.now c.arms.rows c.take_arm.new.rows c.args.arms.now c.arms.arm-index c.arm-item.result c.arms-test.true c.arm-item.is
    c.arms.invariant
    c.in_ok-take_arm.ensures.dims c.in_ok-take_arm.ensures.taken

pub take_arms-returns : goal.take_arms-returns
take_arms-returns t c = arms_taken c.args.rows.now c.arms.rows c.args.arms.now c.arms.arm-index (omega (arith, c.arms-test.false)) c.arms.invariant

pub take_arm-returns-in-Entry-clause-taken : goal.take_arm-returns-in-Entry-clause-taken
take_arm-returns-in-Entry-clause-taken t c behind all taken = entry_taken c.args.rows.now all c.args.arm.now c.in-Entry.field-0 behind c.in-Entry.is taken

pub take_arm-returns-in-Tree-clause-dims : goal.take_arm-returns-in-Tree-clause-dims
take_arm-returns-in-Tree-clause-dims t c = taken_dims c.take_tree.result c.args.rows.now c.take_tree.new.rows _ c.take_tree.ensures

pub take_arm-returns-in-Tree-clause-taken : goal.take_arm-returns-in-Tree-clause-taken
take_arm-returns-in-Tree-clause-taken t c behind all =
    tree_taken c.take_tree.result c.args.rows.now c.take_tree.new.rows all c.args.arm.now c.in-Tree.tree behind c.in-Tree.is c.take_tree.ensures
