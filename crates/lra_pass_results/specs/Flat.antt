-- Trees that are passed where they stand: what they are, and what was found before them with what their pass finds.
use Rattle.std.specs.Prelude.{◌≡◌, ℕ, List, [], ◌∷◌, map, Option, ⊤}
use Rattle.lra_pass_results.specs.Crates.lra_analysis_spec.Pass.{PassResult, in_turn}
use Rattle.lra_pass_results.specs.Crates.lra_domain.Interference.{Interference}
use Rattle.lra_pass_results.specs.Crates.{lra_analysis_spec.Plan.Plan, lra_domain.Abstraction.Abstraction}
use Rattle.lra_operations.specs.{TreeViews.node_view, TreeViews.row, declared.tree.Node.Node}
use Rattle.lra_operations.specs.Tree as graph
use Rattle.lra_pass_results.specs.declared.flat.Flat as flat
use Rattle.lra_pass_results.specs.Outcome.{ended, outcome_view, IsPassed}
use Rattle.lra_pass_results.specs.declared.flat.Flat.TheVariants.{Leaf, Row}
use Rattle.lra_pass_results.specs.{Steps.node_steps, TreeForms.leaf_view, declared.outcome.PassOutcome.PassOutcome}
use Rattle.lra_pass_results.specs.declared.tree_forms.Leaf as leaf
use Rattle.lra_pass_results.specs.declared.tree_forms.Row as shape

-- no tree stands in it, and others don't act there: its pass is one step, and it is seen as a leaf
abbrev pub IsLeaf : Node → Type 0
IsLeaf g = ((n : ℕ) → node_steps n g ≡ 1) × (x : leaf.Leaf) × (node_view g ≡ leaf_view x)

abbrev pub AllLeaves : List Node → Type 0
AllLeaves [] = ⊤
AllLeaves (g ∷ gs) = IsLeaf g × AllLeaves gs

-- in a row
abbrev pub HasLeaves : shape.Row → Type 0
HasLeaves r = AllLeaves r.trees.now × IsLeaf r.last.now

-- in a flat tree: one row at most lies over them
abbrev pub AreLeaves : flat.Flat → Type 0
AreLeaves (Leaf x) = ⊤
AreLeaves (Row r) = HasLeaves r

abbrev pub flat_view : flat.Flat → graph.Node
flat_view (Leaf x) = leaf_view x
flat_view (Row r) = row (map node_view r.trees.now) (node_view r.last.now)

-- what was found so far, and then by a pass of this tree
abbrev pub Follows : {V H : Type 0} → Interference V → Abstraction V H → Plan → graph.Node → PassOutcome V →
    PassOutcome V → Type 0
Follows {V} o m set g so_far r = (t : PassResult V) × IsPassed o m set g so_far.flag so_far.normal t ×
    ((v : V) (f : Option ℕ) → ended r.found v f ≡ in_turn (outcome_view so_far) t v f) × (r.normal ≡ t.normal) ×
    (r.flag ≡ t.flag)
