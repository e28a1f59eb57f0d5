-- The labels among the arms of a `switch`.
use Rattle.std.specs.Prelude.{List, map}
use Rattle.lra_path_segments.specs.Crates.lra_base.declared.case_labels.CaseLabel.{CaseLabel}
use Rattle.lra_operations.specs.Tree.{no_arms, entries_of}
use Rattle.lra_operations.specs.{TreeViews.arm_view, TreeViews.arms_of, declared.tree.Arm.Arm}

-- the labels among the arms
abbrev pub labels_in : List Arm → List CaseLabel
labels_in arms = entries_of (arms_of (map arm_view arms))

-- the label that the arm is, if it is one
abbrev pub label_at : Arm → List CaseLabel
label_at a = entries_of (arm_view a no_arms)
