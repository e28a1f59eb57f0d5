use Rattle.std.proofs.Common.{[], ◌∷◌, ◌++◌, ap, ◌∙◌}
use Rattle.lra_operations.proofs.tree.Node.take_apart.Goals as goal
use Rattle.lra_operations.proofs.SizeLaws.{seq_smaller, choose_smaller, tree_smaller, entry_smaller}

pub returns-in-Seq : goal.returns-in-Seq
returns-in-Seq c =
    rw (c.in-Seq.is, c.replace-tree.ensures.value, c.replace-tree.ensures.after, c.deref_mut.ensures.value)
    (seq_smaller c.in-Seq.trees c.in-Seq.last c.args.rest)

pub returns-in-Choose : goal.returns-in-Choose
returns-in-Choose c =
    rw (c.in-Choose.is, c.replace-tree-in-Choose.ensures.value, c.replace-tree-in-Choose.ensures.after, c.deref_mut-in-Choose.ensures.value)
    (choose_smaller c.in-Choose.point c.in-Choose.base c.in-Choose.condition c.in-Choose.yes c.in-Choose.no c.args.rest)

pub returns-in-Some-into_tree : goal.returns-in-Some-into_tree
returns-in-Some-into_tree c =
    let arms = c.in-Some.ensures.items ∙ ap (λ z. c.pop.new.self.items ++ z ∷ []) c.in-Some-into_tree.ensures in
    rw c.in-Select.is (tree_smaller c.in-Select.point c.in-Select.base c.in-Select.value c.in-Select.arms c.pop.new.self c.push_reserved.new.self
    c.in-Some-into_tree.tree c.args.rest arms c.push_reserved.ensures.items)

pub returns-in-None-into_tree : goal.returns-in-None-into_tree
returns-in-None-into_tree c =
    let label = c.in-None-into_tree.ensures in
    let arms = c.in-Some.ensures.items ∙ ap (λ z. c.pop.new.self.items ++ z ∷ []) label.1 in
    rw c.in-Select.is (entry_smaller c.in-Select.point c.in-Select.base c.in-Select.value c.in-Select.arms c.pop.new.self label.0 c.args.rest arms)
