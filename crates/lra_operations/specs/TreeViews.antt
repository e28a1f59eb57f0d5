-- The tree of operations, and the points, that values of the code's types stand for.
use Rattle.std.specs.Prelude.{List, [], ◌∷◌, map}
use Rattle.lra_operations.specs.declared.tree.Arm.TheFolds.{fold-Arm, fold-Node}
use Rattle.lra_operations.specs.declared.tree.Arm.TheOpen.{Arm-F, Node-F}
use Rattle.lra_operations.specs.{declared.tree.Arm.Arm, declared.tree.Exit.Exit, declared.tree.Node.Node}
use Rattle.lra_operations.specs.{declared.tree.Op.Op, declared.tree.Site.Site}
use Rattle.lra_operations.specs.declared.tree.Exit.TheVariants as exit
use Rattle.lra_operations.specs.declared.tree.Op.TheVariants as op
use Rattle.lra_program.specs.Step as step
use Rattle.lra_operations.specs.Tree as graph
use Rattle.lra_program.specs.Sites as sites
use Rattle.lra_program.specs.ProgramViews.{expr_view, element_view, argument_view, cond_view}

abbrev pub exit_view : Exit → graph.Exit
exit_view exit.Broken = graph.broken
exit_view exit.Continued = graph.continued
exit_view exit.Returned = graph.returned

abbrev pub op_view : Op → step.Op
op_view (op.Append t) = step.append t
op_view (op.Fill a) = step.fill a
op_view (op.StoreValue base x e) = step.store_value base x (expr_view e)
op_view (op.StoreElement base x e) = step.store_element base (element_view x) (expr_view e)
op_view (op.Havoc x) = step.havoc x
op_view (op.Push base given) = step.push base (map argument_view given.items)
op_view (op.PushFor base x given) = step.push_for base (element_view x) (map argument_view given.items)
op_view (op.TruncateTo n) = step.truncate_to n
op_view (op.Test base c wanted) = step.test base (cond_view c) wanted

-- the trees one after the other, and this one after them
abbrev pub row : List graph.Node → graph.Node → graph.Node
row [] h = h
row (g ∷ gs) h = graph.seq g (row gs h)

-- an arm is what it puts before those after it
abbrev pub ArmPart : Type 0
ArmPart = graph.Arms → graph.Arms

-- these, and what comes after them
abbrev pub arms_before : List ArmPart → graph.Arms → graph.Arms
arms_before [] h = h
arms_before (f ∷ fs) h = f (arms_before fs h)

abbrev pub arms_of : List ArmPart → graph.Arms
arms_of fs = arms_before fs graph.no_arms

abbrev pub arm_step : Arm-F ArmPart graph.Node → ArmPart
arm_step (Arm-F.Entry l) = graph.entry l
arm_step (Arm-F.Tree g) = graph.arm g

abbrev pub node_step : Node-F ArmPart graph.Node → graph.Node
node_step Node-F.Empty = graph.empty
node_step (Node-F.Point q) = graph.point q
node_step (Node-F.Probe q what) = graph.probe q what
node_step (Node-F.Act q o) = graph.act q (op_view o)
node_step (Node-F.Check q base c) = graph.check q base (cond_view c)
node_step (Node-F.Seq gs last) = row gs.items last.value
node_step (Node-F.Choose q base c a b) = graph.choose q base (cond_view c) a.value b.value
node_step (Node-F.Iterate q base c a) = graph.iterate q base (cond_view c) a.value
node_step (Node-F.Catch q k a) = graph.catch q (exit_view k) a.value
node_step (Node-F.Leave n k) = graph.leave n (exit_view k)
node_step (Node-F.Select q base e arms) = graph.select q base (expr_view e) (arms_of arms.items)

abbrev pub node_view : Node → graph.Node
node_view = fold-Node ArmPart graph.Node arm_step node_step

abbrev pub arm_view : Arm → ArmPart
arm_view = fold-Arm ArmPart graph.Node arm_step node_step

abbrev pub site_view : Site → sites.Site
site_view s = record { path = s.path; label = s.label; live = s.live; asserts = s.asserts }
