-- The tree, and the arm, that these are the parts of.
use Rattle.lra_operations.specs.declared.tree.ArmParts.{ArmParts}
use Rattle.lra_operations.specs.{declared.tree.Arm.Arm, declared.tree.Node.Node, declared.tree.Parts.Parts}
use Rattle.lra_operations.specs.declared.tree.Arm.TheVariants as arm
use Rattle.lra_operations.specs.declared.tree.ArmParts.TheVariants as arm_parts
use Rattle.lra_operations.specs.declared.tree.Node.TheVariants as tree
use Rattle.lra_operations.specs.declared.tree.Parts.TheVariants as parts

abbrev pub whole_arm_of : ArmParts → Arm
whole_arm_of (arm_parts.Entry l) = arm.Entry l
whole_arm_of (arm_parts.Tree g) = arm.Tree g

abbrev pub whole_of : Parts → Node
whole_of parts.Empty = tree.Empty
whole_of (parts.Point q) = tree.Point q
whole_of (parts.Probe q what) = tree.Probe q what
whole_of (parts.Act q o) = tree.Act q o
whole_of (parts.Check q base c) = tree.Check q base c
whole_of (parts.Seq gs last) = tree.Seq gs last
whole_of (parts.Choose q base c a b) = tree.Choose q base c a b
whole_of (parts.Iterate q base c a) = tree.Iterate q base c a
whole_of (parts.Catch q k a) = tree.Catch q k a
whole_of (parts.Leave n k) = tree.Leave n k
whole_of (parts.Select q base e arms) = tree.Select q base e arms
