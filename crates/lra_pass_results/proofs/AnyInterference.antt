-- Trees in which others don't act: a pass without interference is one under any interference.
use Rattle.std.proofs.Common.{ℕ, List, [], ◌∷◌, map, Option, sym, subst}
use Rattle.lra_pass_results.specs.Crates.lra_domain.Interference.{Interference, no_interference}
use Rattle.lra_pass_results.specs.Crates.{lra_analysis_spec.Pass.PassResult, lra_analysis_spec.Plan.Plan, lra_analysis_spec.UnderInterference.LossyPass, lra_domain.Abstraction.Abstraction}
use Rattle.lra_operations.specs.declared.tree.Node as node
use Rattle.lra_operations.specs.Tree as graph
use Rattle.lra_operations.specs.TreeViews.{node_view, row}
use Rattle.lra_pass_results.specs.declared.flat.Flat as flat
use Rattle.lra_pass_results.specs.Flat.{flat_view, AllLeaves, AreLeaves, Follows, IsLeaf}
use Rattle.lra_pass_results.specs.declared.tree_forms.Leaf.TheVariants.{Empty, Point, Act, Check, Leave}
use Rattle.lra_pass_results.specs.{Outcome.IsPassed, TreeForms.leaf_view, declared.flat.Flat.TheVariants.Leaf, declared.flat.Flat.TheVariants.Row, declared.outcome.PassOutcome.PassOutcome}
use Rattle.lra_pass_results.specs.declared.tree_forms.Leaf as leaf

module _ {V H : Type 0} (o : Interference V) (m : Abstraction V H) (set : Plan) where
  leaf_pass : (x : leaf.Leaf) (f : Option ℕ) (v : V) (r : PassResult V) → LossyPass no_interference m set (leaf_view x) f v r
      → LossyPass o m set (leaf_view x) f v r
  leaf_pass Empty f v r pass = pass
  leaf_pass (Point q) f v r pass = pass
  leaf_pass (Act q op) f v r pass = pass
  leaf_pass (Check q base c) f v r pass = pass
  leaf_pass (Leave n k) f v r pass = pass

  node_pass : (g : node.Node) (f : Option ℕ) (v : V) (r : PassResult V) → IsLeaf g → LossyPass no_interference m set (node_view g) f v r
      → LossyPass o m set (node_view g) f v r
  node_pass g f v r (one, x, is) pass = subst (λ (h : graph.Node). LossyPass o m set h f v r) (sym is)
      (leaf_pass x f v r (subst (λ (h : graph.Node). LossyPass no_interference m set h f v r) is pass))

  row_pass : (gs : List node.Node) (last : node.Node) (f : Option ℕ) (v : V) (r : PassResult V) → AllLeaves gs → IsLeaf last
      → LossyPass no_interference m set (row (map node_view gs) (node_view last)) f v r
      → LossyPass o m set (row (map node_view gs) (node_view last)) f v r
  row_pass [] last f v r leaves end pass = node_pass last f v r end pass
  row_pass (g ∷ gs) last f v r (first, leaves) end (s, t, one, two, is) =
      (s, t, node_pass g f v s first one, row_pass gs last s.flag s.normal t leaves end two, is)

  flat_pass : (x : flat.Flat) (f : Option ℕ) (v : V) (r : PassResult V) → AreLeaves x → LossyPass no_interference m set (flat_view x) f v r
      → LossyPass o m set (flat_view x) f v r
  flat_pass (Leaf x) f v r leaves pass = leaf_pass x f v r pass
  flat_pass (Row x) f v r leaves pass = row_pass x.trees.now x.last.now f v r leaves.0 leaves.1 pass

  pub leaf_among : (x : leaf.Leaf) (f : Option ℕ) (v : V) (r : PassResult V) → IsPassed no_interference m set (leaf_view x) f v r
      → IsPassed o m set (leaf_view x) f v r
  leaf_among x f v r passed = record { pass = leaf_pass x f v r passed.pass; dims = passed.dims; jumps = passed.jumps }

  pub flat_among : (x : flat.Flat) (so_far r : PassOutcome V) → AreLeaves x → Follows no_interference m set (flat_view x) so_far r
      → Follows o m set (flat_view x) so_far r
  flat_among x so_far r leaves (t, passed, turn, normal, flag) = (
    t,
    record {
      pass = flat_pass x so_far.flag so_far.normal t leaves passed.pass;
      dims = passed.dims;
      jumps = passed.jumps;
    },
    turn,
    normal,
    flag,
  )
