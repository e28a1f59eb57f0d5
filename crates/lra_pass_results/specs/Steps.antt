-- How many steps a pass of a tree takes. A step passes a tree, opens a place, or goes on at one.
use Rattle.std.specs.{List.sum_by, Prelude.ℕ, Prelude.suc, Prelude.◌+◌, Prelude.◌*◌, Prelude.List}
use Rattle.lra_operations.specs.declared.tree.Arm.TheFolds.{fold-Arm, fold-Node}
use Rattle.lra_operations.specs.declared.tree.Arm.TheOpen.{Arm-F, Node-F}
use Rattle.lra_operations.specs.{declared.tree.Arm.Arm, declared.tree.Node.Node}

-- of the tree of an arm; a label is entered on the way
abbrev pub arm_pass_step : Arm-F ℕ ℕ → ℕ
arm_pass_step (Arm-F.Entry l) = 0
arm_pass_step (Arm-F.Tree g) = suc g

-- of a pass of the tree, if no loop is turned more than n times
abbrev pub steps_step : ℕ → Node-F ℕ ℕ → ℕ
steps_step n Node-F.Empty = 1
steps_step n (Node-F.Point q) = 1
steps_step n (Node-F.Probe q what) = 2
steps_step n (Node-F.Act q o) = 1
steps_step n (Node-F.Check q base c) = 1
steps_step n (Node-F.Seq gs last) = 1 + (sum_by suc gs.items + suc last.value)
steps_step n (Node-F.Choose q base c a b) = 3 + (a.value + b.value)
steps_step n (Node-F.Iterate q base c a) = 2 + n * suc a.value
steps_step n (Node-F.Catch q k a) = 2 + a.value
steps_step n (Node-F.Leave m k) = 1
steps_step n (Node-F.Select q base e arms) = 2 + sum_by suc arms.items

abbrev pub node_steps : ℕ → Node → ℕ
node_steps n = fold-Node ℕ ℕ arm_pass_step (steps_step n)

abbrev pub arm_steps : ℕ → Arm → ℕ
arm_steps n = fold-Arm ℕ ℕ arm_pass_step (steps_step n)

-- of the arms of a `switch`
abbrev pub arms_steps : ℕ → List Arm → ℕ
arms_steps n arms = sum_by (λ a. suc (arm_steps n a)) arms

-- of trees one after the other, and then the last
abbrev pub row_steps : ℕ → List Node → Node → ℕ
row_steps n gs last = sum_by (λ g. suc (node_steps n g)) gs + suc (node_steps n last)
