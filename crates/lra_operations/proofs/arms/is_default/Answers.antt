-- Goals of `is_default`: whether the arm is the label `default`.
use Rattle.lra_operations.proofs.ArmViews.{entry_default, tree_default}
use Rattle.lra_operations.proofs.arms.is_default.Goals as goal

pub returns-in-Entry : goal.returns-in-Entry
returns-in-Entry c behind = entry_default c.args.arm.now c.in-Entry.label c.names_default.result behind c.in-Entry.is c.names_default.ensures

pub returns-in-Tree : goal.returns-in-Tree
returns-in-Tree c behind = tree_default c.args.arm.now c.in-Tree.field-0 behind c.in-Tree.is
