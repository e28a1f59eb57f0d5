-- What is still to be listed while a tree is gone along, and how far that is done.
use Rattle.std.specs.List.{sum_by}
use Rattle.std.specs.Prelude.{◌≡◌, ℕ, ◌+◌, ◌*◌, List, [], ◌∷◌, ◌++◌, map, Option, None, true}
use Rattle.lra_operations_list.specs.Crates.lra_base.declared.number_types.NumberType.{NumberType}
use Rattle.lra_operations_list.specs.Crates.lra_operations.CheckedOperations.{OpAtPoint, fresh_of}
use Rattle.lra_operations_list.specs.Crates.lra_operations.Sizes.{whole_size, arm_sizes, arms_tree_sizes}
use Rattle.lra_operations_list.specs.Crates.lra_operations.Tree.{Node, empty, point, seq, Arms, no_arms, entry, arm}
use Rattle.lra_operations_list.specs.Crates.lra_operations.TreeViews.{node_view, op_view, row, arm_view, arms_of}
use Rattle.lra_operations_list.specs.Crates.lra_operations.declared.tree.Arm.TheFolds.{fold-Node}
use Rattle.lra_operations_list.specs.Crates.lra_operations.declared.tree.Arm.TheOpen.{Arm-F, Node-F}
use Rattle.lra_operations_list.specs.Crates.lra_program.ProgramViews.{cond_view, expr_view}
use Rattle.lra_operations_list.specs.Crates.lra_program.Receivers.{nobody}
use Rattle.lra_operations_list.specs.Crates.lra_program.Step.{store_value, test}
use Rattle.lra_operations_list.specs.declared.trees.Due.TheVariants.{Tree, Row, Arms as ArmsDue, Apart}
use Rattle.lra_operations_list.specs.{TreeOperations.done_in, TreeOperations.done_of, declared.trees.Due.Due}
use Rattle.lra_operations_list.specs.Crates.lra_operations.declared.tree.Node as declared

-- the trees in arms, one after the other
abbrev pub trees_of : Arms → Node
trees_of no_arms = empty
trees_of (entry l arms) = trees_of arms
trees_of (arm a arms) = seq a (trees_of arms)

-- as a tree: after a point no variable is new
abbrev pub due_view : Due → Node
due_view (Tree n) = node_view n.now
due_view (Row trees last) = row (map node_view trees.now) (node_view last.now)
due_view (ArmsDue arms) = trees_of (arms_of (map arm_view arms.now))
due_view Apart = point 0

-- all of them as one tree, the last of the list first, and this tree after them
abbrev pub due_before : Node → List Due → Node
due_before g [] = g
due_before g (d ∷ ds) = due_before (seq (due_view d) g) ds

abbrev pub all_due : List Due → Node
all_due ds = due_before empty ds

-- the one, after which no variable is new, and then the other
abbrev pub apart_before : Node → Node → Node
apart_before g h = seq g (seq (point 0) h)

-- what is done, and the type of the variable that is new then
abbrev pub Own : Type 0
Own = List OpAtPoint × Option NumberType

-- an arm does nothing itself
abbrev pub own_arm : Arm-F Own Own → Own
own_arm a = ([], None)

-- what a tree does itself, and what is new after that: the trees in it come then
abbrev pub own_step : Option NumberType → Node-F Own Own → Own
own_step fresh Node-F.Empty = ([], fresh)
own_step fresh (Node-F.Point q) = ([], None)
own_step fresh (Node-F.Probe q what) = ([], fresh)
own_step fresh (Node-F.Act q o) = (done_of q fresh (op_view o), fresh_of (op_view o))
own_step fresh (Node-F.Check q base c) = (done_of q None (test base (cond_view c) true), None)
own_step fresh (Node-F.Seq gs last) = ([], fresh)
own_step fresh (Node-F.Choose q base c a b) = (done_of q None (test base (cond_view c) true), None)
own_step fresh (Node-F.Iterate q base c a) = (done_of q None (test base (cond_view c) true), None)
own_step fresh (Node-F.Catch q k a) = ([], None)
own_step fresh (Node-F.Leave n k) = ([], None)
own_step fresh (Node-F.Select q base e arms) = (done_of q None (store_value base nobody (expr_view e)), None)

abbrev pub own_of : Option NumberType → declared.Node → Own
own_of fresh = fold-Node Own Own own_arm (own_step fresh)

abbrev pub own_done : Option NumberType → declared.Node → List OpAtPoint
own_done fresh n = (own_of fresh n).0

abbrev pub fresh_at : Option NumberType → declared.Node → Option NumberType
fresh_at fresh n = (own_of fresh n).1

-- after what the tree does itself, these are due in place of those after it
abbrev pub IsOpened : declared.Node → List Due → List Due → Type 0
IsOpened n old new = (fresh : Option NumberType) → done_in fresh (seq (node_view n) (all_due old)) ≡
    own_done fresh n ++ done_in (fresh_at fresh n) (all_due new)

-- how much is left, so that the going along ends
abbrev pub due_size : Due → ℕ
due_size (Tree n) = 2 * whole_size n.now
due_size (Row trees last) = 1 + (2 * sum_by whole_size trees.now + 2 * whole_size last.now)
due_size (ArmsDue arms) = 1 + 2 * arms_tree_sizes (map arm_sizes arms.now)
due_size Apart = 1

abbrev pub all_left : List Due → ℕ
all_left ds = sum_by due_size ds

-- Of a tree, at whose beginning a variable may be new, this is left, with that which is new then: what was done between
-- came after the others.
pub record IsOnWay (fresh : Option NumberType) (g : Node) (later : Option NumberType) (h : Node)
    (old new : List OpAtPoint)
    : Type 0 where
  pub done : List OpAtPoint
  pub is : done_in fresh g ≡ done ++ done_in later h
  pub listed : new ≡ old ++ done
