use Rattle.std.proofs.Common.{[], ◌∷◌, ◌++◌, ap, ◌∙◌}
use Rattle.lra_operations.proofs.tree.Node.take_next.Goals as goal
use Rattle.lra_operations.proofs.SizeLaws.{hung_tree_smaller, hung_entry_smaller}

pub returns-in-Some-into_tree : goal.returns-in-Some-into_tree
returns-in-Some-into_tree c =
    let arms = c.in-Some-pop.ensures.items ∙ ap (λ z. c.pop-in-Select.new.self.items ++ z ∷ []) c.in-Some-into_tree.ensures in
    rw c.in-Select.is (hung_tree_smaller c.in-Select.point c.in-Select.base c.in-Select.value c.in-Select.arms c.pop-in-Select.new.self
    c.in-Some-into_tree.rest arms)

pub returns-in-None-into_tree : goal.returns-in-None-into_tree
returns-in-None-into_tree c =
    let label = c.in-None-into_tree.ensures in
    let arms = c.in-Some-pop.ensures.items ∙ ap (λ z. c.pop-in-Select.new.self.items ++ z ∷ []) label.1 in
    rw c.in-Select.is (hung_entry_smaller c.in-Select.point c.in-Select.base c.in-Select.value c.in-Select.arms c.pop-in-Select.new.self label.0 arms)
