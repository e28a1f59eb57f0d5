-- All segments of a tree in one list, as they are made from its leaves up: from its start, or from a point in it, to
-- where it is left or a goal is met.
use Rattle.std.specs.Prelude.{◌≡◌, ℕ, List, [], ◌∷◌, ◌++◌, map, Bool, true, false, not, if◌then◌else◌, Option, None}
use Rattle.std.specs.{List.flat_map, List.filter, List.list_any, Prelude.Some}
use Rattle.lra_path_segments.specs.Crates.lra_base.CaseLabels.{is_same_case}
use Rattle.lra_path_segments.specs.Crates.lra_base.declared.case_labels.CaseLabel.{CaseLabel}
use Rattle.lra_path_segments.specs.Crates.lra_base.declared.case_labels.CaseLabel.TheVariants.{Default}
use Rattle.lra_path_segments.specs.Crates.{lra_program.Program.Cond, lra_program.Step.test}
use Rattle.lra_operations.specs.Tree.{Exit, Completion, normal, jump, Node, empty, probe, point, act, check, seq}
use Rattle.lra_operations.specs.Tree.{choose, iterate, catch, leave, select, Arms, no_arms, entry, arm, entries_of}
use Rattle.lra_path_segments.specs.Segments.{SegmentStep, does, Goal, comes_to, violates, GoalSegment, Segment, Suffix}
use Rattle.lra_path_segments.specs.Segments.{same_exit, goes_in, through, enter, exit_suffixes, inside}

-- where a segment ends: the tree is left so, or a goal is met
pub data End : Type 0 where
  exits : Completion → End
  reaches : Goal → End

-- from the tree's start if there is no source, else from this point in it
pub record TreeSegment : Type 0 where
  pub source : Option ℕ
  pub ops : List SegmentStep
  pub end : End

abbrev pub tree_segment : Option ℕ → List SegmentStep → End → TreeSegment
tree_segment p ops e = record { source = p; ops = ops; end = e }

-- kinds ------------------------------------------------------------------------------------------------------------

abbrev pub starts : Option ℕ → Bool
starts None = true
starts (Some p) = false

abbrev pub same_how : Completion → Completion → Bool
same_how normal normal = true
same_how normal (jump k) = false
same_how (jump j) normal = false
same_how (jump j) (jump k) = same_exit j k

abbrev pub exits_as : Completion → End → Bool
exits_as h (exits k) = same_how h k
exits_as h (reaches goal) = false

-- what segments are distinguished by: whether they begin at the tree's start, or whether they leave it so
pub data Kind : Type 0 where
  starting : Kind
  leaving : Completion → Kind

abbrev pub is_of : Kind → TreeSegment → Bool
is_of starting s = starts s.source
is_of (leaving h) s = exits_as h s.end

abbrev pub segments_of_kind : Kind → List TreeSegment → List TreeSegment
segments_of_kind k ss = filter (λ s. is_of k s) ss

abbrev pub segments_not_of_kind : Kind → List TreeSegment → List TreeSegment
segments_not_of_kind k ss = filter (λ s. not (is_of k s)) ss

-- trees ------------------------------------------------------------------------------------------------------------

-- the one, and then the other
abbrev pub joined_segments : TreeSegment → TreeSegment → TreeSegment
joined_segments x y = tree_segment x.source (x.ops ++ y.ops) y.end

abbrev pub all_joined : List TreeSegment → List TreeSegment → List TreeSegment
all_joined xs ys = flat_map (λ y. map (λ x. joined_segments x y) xs) ys

abbrev pub sequenced : List TreeSegment → List TreeSegment → List TreeSegment
sequenced xs ys = segments_not_of_kind (leaving normal) xs ++
    all_joined (segments_of_kind (leaving normal) xs) (segments_of_kind starting ys) ++ segments_not_of_kind starting ys

-- after this, if it begins at the tree's start
abbrev pub prefixed_by : SegmentStep → Option ℕ → List SegmentStep → End → TreeSegment
prefixed_by step None ops e = tree_segment None (step ∷ ops) e
prefixed_by step (Some p) ops e = tree_segment (Some p) ops e

abbrev pub prefixed : SegmentStep → TreeSegment → TreeSegment
prefixed step s = prefixed_by step s.source s.ops s.end

abbrev pub chosen_segments : ℕ → Cond → List TreeSegment → List TreeSegment → List TreeSegment
chosen_segments base c xs ys =
    map (prefixed (does (test base c true))) xs ++ map (prefixed (does (test base c false))) ys

-- in a loop the body is entered from the loop's point, and its end is that point
abbrev pub source_or : ℕ → Option ℕ → ℕ
source_or q None = q
source_or q (Some p) = p

abbrev pub back_to : ℕ → End → End
back_to q (exits normal) = reaches (comes_to q)
back_to q (exits (jump k)) = exits (jump k)
back_to q (reaches goal) = reaches goal

abbrev pub turned : ℕ → SegmentStep → TreeSegment → TreeSegment
turned q step s = tree_segment (Some (source_or q s.source)) (prefixed step s).ops (back_to q s.end)

-- the segments of a loop's body in order: into it, through it, out of it at its end, all others
abbrev pub body_order : List TreeSegment → List TreeSegment
body_order ss = segments_not_of_kind (leaving normal) (segments_of_kind starting ss)
    ++ segments_of_kind (leaving normal) (segments_of_kind starting ss) ++
    segments_of_kind (leaving normal) (segments_not_of_kind starting ss)
    ++ segments_not_of_kind (leaving normal) (segments_not_of_kind starting ss)

-- to the loop's point, and from there past the loop
abbrev pub at_loop : ℕ → ℕ → Cond → List TreeSegment
at_loop q base c =
    tree_segment None [] (reaches (comes_to q)) ∷ tree_segment (Some q) (does (test base c false) ∷ []) (exits normal)
    ∷ []

abbrev pub looped : ℕ → ℕ → Cond → List TreeSegment → List TreeSegment
looped q base c ss = at_loop q base c ++ map (turned q (does (test base c true))) (body_order ss)

-- jumps of this kind come out after the tree
abbrev pub ended : TreeSegment → TreeSegment
ended s = tree_segment s.source s.ops (exits normal)

abbrev pub caught : Exit → List TreeSegment → List TreeSegment
caught k ss = segments_not_of_kind (leaving (jump k)) ss ++ map ended (segments_of_kind (leaving (jump k)) ss)

-- in a tree with nothing to do
abbrev pub nothing_done : List TreeSegment
nothing_done = tree_segment None [] (exits normal) ∷ []

-- past all labels of a `switch`, if none of them is `default`
abbrev pub past_all : (CaseLabel → SegmentStep) → Bool → List TreeSegment
past_all go true = []
past_all go false = tree_segment None (go Default ∷ []) (exits normal) ∷ []

-- from a label those that begin the trees after it, before those from the later ones
abbrev pub labelled : SegmentStep → List TreeSegment → List TreeSegment → List TreeSegment
labelled step row later = map (prefixed step) (segments_of_kind starting row) ++ later

-- the segments from a `switch`'s labels, and those of its trees that don't begin at their start
abbrev pub selected : List TreeSegment → List TreeSegment → List TreeSegment
selected row from_labels = from_labels ++ segments_not_of_kind starting row

abbrev mutual
  pub tree_segments : Node → List TreeSegment
  tree_segments empty = nothing_done
  tree_segments (probe here what) = nothing_done
  tree_segments (point q) = tree_segment None [] (reaches (comes_to q)) ∷ tree_segment (Some q) [] (exits normal) ∷ []
  tree_segments (act q op) = tree_segment None (does op ∷ []) (exits normal) ∷ []
  tree_segments (check q base c) = tree_segment None (does (test base c true) ∷ []) (exits normal)
      ∷ tree_segment None (does (test base c false) ∷ []) (reaches (violates q)) ∷ []
  tree_segments (seq a b) = sequenced (tree_segments a) (tree_segments b)
  tree_segments (choose q base c a b) = chosen_segments base c (tree_segments a) (tree_segments b)
  tree_segments (iterate q base c a) = looped q base c (tree_segments a)
  tree_segments (catch q k a) = caught k (tree_segments a)
  tree_segments (leave n k) = tree_segment None [] (exits (jump k)) ∷ []
  tree_segments (select q base e arms) = selected (arms_segments arms) (from_labels (goes_in base e arms)
      (past_all (goes_in base e arms) (list_any (is_same_case Default) (entries_of arms))) arms)

  -- of the trees of the arms, one after the other
  pub arms_segments : Arms → List TreeSegment
  arms_segments no_arms = nothing_done
  arms_segments (entry l arms) = arms_segments arms
  arms_segments (arm a arms) = sequenced (tree_segments a) (arms_segments arms)

  -- from the labels, and then past all of them
  pub from_labels : (CaseLabel → SegmentStep) → List TreeSegment → Arms → List TreeSegment
  from_labels go past no_arms = past
  from_labels go past (entry l arms) = labelled (go l) (arms_segments arms) (from_labels go past arms)
  from_labels go past (arm a arms) = from_labels go past arms

-- segments ---------------------------------------------------------------------------------------------------------

-- what each end, and each source, gives
abbrev pub goal_segments_at : List SegmentStep → End → List GoalSegment
goal_segments_at ops (exits k) = []
goal_segments_at ops (reaches goal) = record { ops = ops; goal = goal } ∷ []

abbrev pub suffixes_at : Option ℕ → List SegmentStep → List Suffix
suffixes_at None ops = []
suffixes_at (Some p) ops = record { source = p; ops = ops } ∷ []

abbrev pub segments_at : Option ℕ → List SegmentStep → End → List Segment
segments_at None ops e = []
segments_at (Some p) ops (exits k) = []
segments_at (Some p) ops (reaches goal) = record { source = p; to_goal = record { ops = ops; goal = goal } } ∷ []

-- a tree segment as one of each kind of segments
abbrev pub passed : Completion → TreeSegment → List (List SegmentStep)
passed h s = if starts s.source then (if exits_as h s.end then s.ops ∷ [] else []) else []

abbrev pub entered : TreeSegment → List GoalSegment
entered s = if starts s.source then goal_segments_at s.ops s.end else []

abbrev pub gone : Completion → TreeSegment → List Suffix
gone h s = if exits_as h s.end then suffixes_at s.source s.ops else []

abbrev pub met : TreeSegment → List Segment
met s = segments_at s.source s.ops s.end

-- the tree segments are the tree's segments, each kind in its order
pub record AreSegmentsOf (ss : List TreeSegment) (g : Node) : Type 0 where
  pub passes : (h : Completion) → flat_map (passed h) ss ≡ through g h
  pub enters : flat_map entered ss ≡ enter g
  pub goes : (h : Completion) → flat_map (gone h) ss ≡ exit_suffixes g h
  pub reaches : flat_map met ss ≡ inside g

abbrev pub TreeSegmentsAreExact : Type 0
TreeSegmentsAreExact = (g : Node) → AreSegmentsOf (tree_segments g) g
