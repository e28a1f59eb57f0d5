-- A value of the tree of operations, and what it stands for.
use Rattle.std.proofs.Common.{◌≡◌, ℕ, ◌∷◌, [], map, refl, rules, Box, Vec, Global}
use Rattle.lra_operations.specs.declared.tree.Node.{Node, Seq, Select, the_lemmas as node_lemmas}
use Rattle.lra_operations.specs.{TreeViews.node_view, TreeViews.row, TreeViews.arm_view, TreeViews.arms_of, declared.tree.Arm.Arm}
use Rattle.lra_operations.specs.Tree as graph
use Rattle.lra_program.specs.{ProgramViews.expr_view, declared.program.Expr.Expr}
use Rattle.lra_operations.specs.Crates.lra_base.declared.case_labels.CaseLabel.{CaseLabel}

-- trees one after the other nest to the right
seq_view : (gs : Vec Node Global) (last : Box Node Global) → node_view (Seq gs last) ≡ row (map node_view gs.items) (node_view last.value)
seq_view gs last = search (rules, node_lemmas)

two_in_a_row : (a b last : graph.Node) → row (a ∷ b ∷ []) last ≡ graph.seq a (graph.seq b last)
two_in_a_row a b last = refl

-- arms in the order of their list
select_view : (q base : ℕ) (e : Expr) (arms : Vec Arm Global)
    → node_view (Select q base e arms) ≡ graph.select q base (expr_view e) (arms_of (map arm_view arms.items))
select_view q base e arms = search (rules, node_lemmas)

two_arms : (l : CaseLabel) (g : graph.Node) → arms_of (graph.entry l ∷ graph.arm g ∷ []) ≡ graph.entry l (graph.arm g graph.no_arms)
two_arms l g = refl
