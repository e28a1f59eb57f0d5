-- What is still to be done while the segments of a tree are made, from its leaves up.
use Rattle.std.specs.Prelude.{ℕ, ◌+◌, List, [], ◌∷◌, map, Vec}
use Rattle.std.specs.{Global.Global, List.sum_by}
use Rattle.lra_path_segments.specs.Crates.lra_base.declared.case_labels.CaseLabel.{CaseLabel}
use Rattle.lra_path_segments.specs.Crates.lra_program.ProgramViews.{cond_view}
use Rattle.lra_operations.specs.TreeViews.{arm_view, arms_of, exit_view, node_view}
use Rattle.lra_operations.specs.declared.tree.Arm.TheFolds.{fold-Arm, fold-Node}
use Rattle.lra_operations.specs.declared.tree.Arm.TheOpen.{Arm-F, Node-F}
use Rattle.lra_operations.specs.{Tree.Node, Tree.Arms, Tree.no_arms, Tree.entry, Tree.arm, declared.tree.Arm.Arm}
use Rattle.lra_operations.specs.declared.tree.Node as declared
use Rattle.lra_path_segments.specs.TreeSegmentViews.{move_view, seen, selection_view}
use Rattle.lra_path_segments.specs.TreeSegments.{TreeSegment, sequenced, chosen_segments, looped, caught, labelled}
use Rattle.lra_path_segments.specs.TreeSegments.{selected, tree_segments}
use Rattle.lra_path_segments.specs.declared.trees.Task.TheVariants.{Tree, Row, Sequence, Choice, Round, Catch}
use Rattle.lra_path_segments.specs.declared.trees.Task.TheVariants.{LabelledArms, Label, Select}
use Rattle.lra_path_segments.specs.{Segments.SegmentStep, declared.trees.Task.Task}
use Rattle.lra_path_segments.specs.declared.segments.TreeSegment as declared_stretch

-- the segments that are there: the last list of them is the first here
abbrev pub stack_on : List (List TreeSegment) → List (Vec declared_stretch.TreeSegment Global) → List (List TreeSegment)
stack_on s [] = s
stack_on s (v ∷ vs) = stack_on (seen v.items ∷ s) vs

abbrev pub stack : List (Vec declared_stretch.TreeSegment Global) → List (List TreeSegment)
stack vs = stack_on [] vs

abbrev pub top : List (List TreeSegment) → List TreeSegment
top [] = []
top (x ∷ xs) = x

abbrev pub below : List (List TreeSegment) → List (List TreeSegment)
below [] = []
below (x ∷ xs) = xs

-- trees before that of the last segments
abbrev pub row_on : List Node → List (List TreeSegment) → List (List TreeSegment)
row_on [] s = s
row_on (g ∷ gs) s = sequenced (tree_segments g) (top (row_on gs s)) ∷ below (row_on gs s)

-- the trees of arms before that of the last segments, and segments from the arms' labels before those from later ones
abbrev pub joined_last : List TreeSegment → List (List TreeSegment) → List (List TreeSegment)
joined_last x s = sequenced x (top s) ∷ below s

abbrev pub labelled_last : SegmentStep → List (List TreeSegment) → List (List TreeSegment)
labelled_last step s = top s ∷ labelled step (top s) (top (below s)) ∷ below (below s)

abbrev pub arms_on : (CaseLabel → SegmentStep) → Arms → List (List TreeSegment) → List (List TreeSegment)
arms_on go no_arms s = s
arms_on go (entry l arms) s = labelled_last (go l) (arms_on go arms s)
arms_on go (arm a arms) s = joined_last (tree_segments a) (arms_on go arms s)

-- what is made of the segments that are there
abbrev pub effect : Task → List (List TreeSegment) → List (List TreeSegment)
effect (Tree n) s = tree_segments (node_view n.now) ∷ s
effect (Row gs) s = row_on (map node_view gs.now) s
effect Sequence s = sequenced (top s) (top (below s)) ∷ below (below s)
effect (Choice base c) s = chosen_segments base (cond_view c.now) (top s) (top (below s)) ∷ below (below s)
effect (Round q base c) s = looped q base (cond_view c.now) (top s) ∷ below s
effect (Catch k) s = caught (exit_view k) (top s) ∷ below s
effect (LabelledArms selection arms) s = arms_on (selection_view selection) (arms_of (map arm_view arms.now)) s
effect (Label move) s = labelled_last (move_view move) s
effect Select s = selected (top s) (top (below s)) ∷ below (below s)

-- all that is due, the last of the list first
abbrev pub run : List Task → List (List TreeSegment) → List (List TreeSegment)
run [] s = s
run (d ∷ ds) s = effect d (run ds s)

-- how many steps are left, so that the going along ends
abbrev pub steps_in_row : List ℕ → ℕ
steps_in_row ns = sum_by (λ n. n + 2) ns

abbrev pub arm_task_step : Arm-F ℕ ℕ → ℕ
arm_task_step (Arm-F.Entry l) = 0
arm_task_step (Arm-F.Tree g) = g

abbrev pub steps_step : Node-F ℕ ℕ → ℕ
steps_step Node-F.Empty = 1
steps_step (Node-F.Point q) = 1
steps_step (Node-F.Probe q what) = 1
steps_step (Node-F.Act q o) = 1
steps_step (Node-F.Check q base c) = 1
steps_step (Node-F.Seq gs last) = 2 + (steps_in_row gs.items + last.value)
steps_step (Node-F.Choose q base c a b) = 2 + (a.value + b.value)
steps_step (Node-F.Iterate q base c a) = 2 + a.value
steps_step (Node-F.Catch q k a) = 2 + a.value
steps_step (Node-F.Leave n k) = 1
steps_step (Node-F.Select q base e arms) = 3 + steps_in_row arms.items

abbrev pub steps_of : declared.Node → ℕ
steps_of = fold-Node ℕ ℕ arm_task_step steps_step

abbrev pub arm_steps : Arm → ℕ
arm_steps = fold-Arm ℕ ℕ arm_task_step steps_step

abbrev pub row_size : List declared.Node → ℕ
row_size gs = 1 + steps_in_row (map steps_of gs)

abbrev pub arms_size : List Arm → ℕ
arms_size arms = 1 + steps_in_row (map arm_steps arms)

abbrev pub task_size : Task → ℕ
task_size (Tree n) = steps_of n.now
task_size (Row gs) = row_size gs.now
task_size Sequence = 1
task_size (Choice base c) = 1
task_size (Round q base c) = 1
task_size (Catch k) = 1
task_size (LabelledArms selection arms) = arms_size arms.now
task_size (Label move) = 1
task_size Select = 1

abbrev pub all_left : List Task → ℕ
all_left ds = sum_by task_size ds
