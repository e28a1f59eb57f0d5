-- How large trees are while they are taken apart, so that this ends: a tree that is still to be opened counts two, if
-- it has trees in it, and what those count; a tree with none in it counts one. A tree that hangs open before a rest
-- counts one for itself, and if the rest hangs in place of its last arm two. Each arm counts one more.
use Rattle.std.specs.{List.sum_by, Prelude.ℕ, Prelude.◌+◌, Prelude.List, Prelude.[], Prelude.◌∷◌}
use Rattle.lra_operations.specs.declared.tree.Arm.TheFolds.{fold-Arm, fold-Node}
use Rattle.lra_operations.specs.declared.tree.Arm.TheOpen.{Arm-F, Node-F}
use Rattle.lra_operations.specs.{declared.tree.Arm.Arm, declared.tree.Node.Node}

-- the tree of an arm; an entry counts nothing
abbrev pub arm_size_step : Arm-F (ℕ × ℕ) (ℕ × ℕ) → ℕ × ℕ
arm_size_step (Arm-F.Entry l) = (0, 0)
arm_size_step (Arm-F.Tree g) = g

-- the trees of arms that are still to be opened, and of arms whose last one is the rest
abbrev pub arms_tree_sizes : List (ℕ × ℕ) → ℕ
arms_tree_sizes [] = 0
arms_tree_sizes (a ∷ arms) = (1 + a.0) + arms_tree_sizes arms

abbrev pub hung_arms_size : List (ℕ × ℕ) → ℕ
hung_arms_size [] = 0
hung_arms_size (a ∷ []) = a.1
hung_arms_size (a ∷ b ∷ arms) = (1 + a.0) + hung_arms_size (b ∷ arms)

-- as a whole, and as trees that hang before each other: in a row of trees the last, in a choice the first branch is the
-- rest
abbrev pub size_step : Node-F (ℕ × ℕ) (ℕ × ℕ) → ℕ × ℕ
size_step Node-F.Empty = (1, 0)
size_step (Node-F.Point q) = (1, 0)
size_step (Node-F.Probe q what) = (1, 0)
size_step (Node-F.Act q o) = (1, 0)
size_step (Node-F.Check q base c) = (1, 0)
size_step (Node-F.Seq gs last) =
    let all = sum_by (λ (g : ℕ × ℕ). g.0) gs.items in (2 + (all + last.value.0), 1 + (all + last.value.1))
size_step (Node-F.Choose q base c a b) = (2 + (a.value.0 + b.value.0), 1 + (a.value.1 + b.value.0))
size_step (Node-F.Iterate q base c a) = (2 + a.value.0, 1 + a.value.0)
size_step (Node-F.Catch q k a) = (2 + a.value.0, 1 + a.value.0)
size_step (Node-F.Leave n k) = (1, 0)
size_step (Node-F.Select q base e arms) = (2 + arms_tree_sizes arms.items, 2 + hung_arms_size arms.items)

abbrev pub sizes : Node → ℕ × ℕ
sizes = fold-Node (ℕ × ℕ) (ℕ × ℕ) arm_size_step size_step

abbrev pub arm_sizes : Arm → ℕ × ℕ
arm_sizes = fold-Arm (ℕ × ℕ) (ℕ × ℕ) arm_size_step size_step

abbrev pub whole_size : Node → ℕ
whole_size g = (sizes g).0

abbrev pub hung_size : Node → ℕ
hung_size g = (sizes g).1
