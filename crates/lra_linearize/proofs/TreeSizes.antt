-- The size of a tree of operations while its conditions are gone through: a tree counts one, and what stands in it; a
-- row or arms that are gone through for themselves one less.
use Rattle.std.proofs.Common.{◌≡◌, ℕ, zero, suc, ◌+◌, ◌<◌, List, [], ◌∷◌, length, map, get_or, ap, arith}
use Rattle.lra_linearize.specs.Crates.{lra_operations.declared.tree.Arm.Arm, lra_operations.declared.tree.Arm.TheFolds.fold-Arm, lra_operations.declared.tree.Arm.TheFolds.fold-Node}
use Rattle.lra_linearize.specs.Crates.{lra_operations.declared.tree.Arm.TheOpen.Arm-F, lra_operations.declared.tree.Arm.TheOpen.Node-F, lra_operations.declared.tree.Node.Node}
use Rattle.lra_linearize.proofs.CondSizes.{row_size}

abbrev pub arm_step : Arm-F ℕ ℕ → ℕ
arm_step (Arm-F.Entry l) = 0
arm_step (Arm-F.Tree g) = 1 + g

abbrev pub tree_step : Node-F ℕ ℕ → ℕ
tree_step Node-F.Empty = 0
tree_step (Node-F.Point q) = 0
tree_step (Node-F.Probe q what) = 0
tree_step (Node-F.Act q o) = 0
tree_step (Node-F.Check q base c) = 0
tree_step (Node-F.Seq gs last) = 3 + (row_size gs.items + last.value)
tree_step (Node-F.Choose q base c a b) = 1 + (a.value + b.value)
tree_step (Node-F.Iterate q base c a) = 2 + a.value
tree_step (Node-F.Catch q k a) = 1 + a.value
tree_step (Node-F.Leave n k) = 0
tree_step (Node-F.Select q base e arms) = 2 + row_size arms.items

abbrev pub tree_size : Node → ℕ
tree_size = fold-Node ℕ ℕ arm_step tree_step

abbrev pub arm_size : Arm → ℕ
arm_size = fold-Arm ℕ ℕ arm_step tree_step

-- of the arms of a `switch`
abbrev pub arms_size : List Arm → ℕ
arms_size arms = 1 + row_size (map arm_size arms)

-- of a row of trees and the last
abbrev pub trees_size : List Node → Node → ℕ
trees_size gs last = 2 + (row_size (map tree_size gs) + tree_size last)

-- one of a row is smaller than the row
tree_in : (gs : List Node) (i : ℕ) (d : Node) → i < length gs → tree_size (get_or gs i d) < 1 + row_size (map tree_size gs)
tree_in [] i d h = elim h [ ]
tree_in (g ∷ gs) zero d h = omega arith
tree_in (g ∷ gs) (suc i) d h = let inner = tree_in gs i d (omega (arith, h)) in omega (arith, inner)

pub tree_among : (gs : List Node) (last : Node) (i : ℕ) (x : Node) → i < length gs → x ≡ get_or gs i x → tree_size x < trees_size gs last
tree_among gs last i x h is =
    let inner = tree_in gs i x h in
    let same = ap tree_size is in
    omega (arith, inner, same)

-- one arm is smaller than all of them
arm_in : (arms : List Arm) (i : ℕ) (d : Arm) → i < length arms → arm_size (get_or arms i d) < arms_size arms
arm_in [] i d h = elim h [ ]
arm_in (a ∷ arms) zero d h = omega arith
arm_in (a ∷ arms) (suc i) d h = let inner = arm_in arms i d (omega (arith, h)) in omega (arith, inner)

pub arm_among : (arms : List Arm) (i : ℕ) (x : Arm) → i < length arms → x ≡ get_or arms i x → arm_size x < arms_size arms
arm_among arms i x h is =
    let inner = arm_in arms i x h in
    let same = ap arm_size is in
    omega (arith, inner, same)
