-- Goals of `has_leaves`: one tree more has none in it.
use Rattle.std.proofs.{Common.rules, Common.◌≡◌, Common.◌∷◌, Common.List, Common.true, Common.sym, Common.subst, lemmas.List.nil_from_length}
use Rattle.lra_operations.specs.declared.tree.Node.{Node}
use Rattle.lra_pass_results.specs.Flat.{AllLeaves}
use Rattle.lra_pass_results.proofs.flat.has_leaves.Goals as goal

pub trees-preserved : goal.trees-preserved
trees-preserved c rest =
    let first : c.trees.left.now ≡ c.in-Some.node.now ∷ c.in-Some.behind.now = search rules in
    let leaf : c.is_leaf.result ≡ true = search rules in
    c.trees.invariant (subst (λ (gs : List Node). AllLeaves gs) (sym first) (c.is_leaf.ensures leaf, rest))

pub returns : goal.returns
returns c last =
    let none = nil_from_length c.trees.left.now c.in_default.ensures.cases in
    (c.trees.invariant (subst (λ (gs : List Node). AllLeaves gs) (sym none) tt), c.is_leaf-2.ensures last)
