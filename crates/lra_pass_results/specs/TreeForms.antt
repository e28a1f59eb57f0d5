-- Trees of operations by what stands in them, and how many steps these take.
use Rattle.std.specs.Prelude.{◌≡◌, ℕ, suc, ◌+◌, ◌*◌, map}
use Rattle.lra_pass_results.specs.Crates.lra_analysis_spec.Plan.{Plan}
use Rattle.lra_pass_results.specs.Crates.lra_program.ProgramViews.{cond_view, expr_view}
use Rattle.lra_operations.specs.TreeViews.{exit_view, op_view, node_view, row, arm_view, arms_of}
use Rattle.lra_operations.specs.declared.tree.Node.{Node}
use Rattle.lra_operations.specs.Tree as graph
use Rattle.lra_pass_results.specs.declared.tree_forms.Leaf as leaf
use Rattle.lra_pass_results.specs.Steps.{arms_steps, node_steps, row_steps}
use Rattle.lra_pass_results.specs.declared.tree_forms.Leaf.TheVariants.{Empty, Point, Act, Check, Leave}
use Rattle.lra_pass_results.specs.declared.tree_forms.TreeForm.{TreeForm}
use Rattle.lra_pass_results.specs.declared.tree_forms.TreeForm.TheVariants.{Leaf, Probe, Row, Choice, Loop, Catch}
use Rattle.lra_pass_results.specs.declared.tree_forms.TreeForm.TheVariants.{Select}

abbrev pub leaf_view : leaf.Leaf → graph.Node
leaf_view Empty = graph.empty
leaf_view (Point q) = graph.point q
leaf_view (Act q op) = graph.act q (op_view op.now)
leaf_view (Check q base c) = graph.check q base (cond_view c.now)
leaf_view (Leave n k) = graph.leave n (exit_view k)

-- the tree is of this shape, a pass of it takes so many steps by those of the trees in it, and it is passed with these
-- plan
abbrev pub IsTreeForm : Plan → Node → TreeForm → Type 0
IsTreeForm set g (Leaf x) = (node_view g ≡ leaf_view x) × ((n : ℕ) → node_steps n g ≡ 1)
IsTreeForm set g (Probe q what) = (node_view g ≡ graph.probe q what) × ((n : ℕ) → node_steps n g ≡ 2)
IsTreeForm set g (Row r) = (node_view g ≡ row (map node_view r.trees.now) (node_view r.last.now))
    × ((n : ℕ) → node_steps n g ≡ 1 + row_steps n r.trees.now r.last.now) × (r.plan.now ≡ set)
IsTreeForm set g (Choice k) = (node_view g ≡ graph.choose k.point k.base (cond_view k.condition.now)
    (node_view k.yes.now) (node_view k.no.now))
    × ((n : ℕ) → node_steps n g ≡ 3 + (node_steps n k.yes.now + node_steps n k.no.now)) × (k.plan.now ≡ set)
IsTreeForm set g (Loop l) =
    (node_view g ≡ graph.iterate l.point l.base (cond_view l.condition.now) (node_view l.body.now))
    × ((n : ℕ) → node_steps n g ≡ 2 + n * suc (node_steps n l.body.now)) × (l.plan.now ≡ set)
IsTreeForm set g (Catch k) = (node_view g ≡ graph.catch k.point (exit_view k.exit) (node_view k.body.now))
    × ((n : ℕ) → node_steps n g ≡ 2 + node_steps n k.body.now)
IsTreeForm set g (Select s) = (node_view g ≡ graph.select s.point s.base (expr_view s.value.now)
    (arms_of (map arm_view s.arms.now))) × ((n : ℕ) → node_steps n g ≡ 2 + arms_steps n s.arms.now)
    × (s.plan.now ≡ set)
