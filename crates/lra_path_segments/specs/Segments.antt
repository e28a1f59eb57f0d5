-- Segments of a tree of operations: what is done from one point to the next, or to where the assertion at a point is
-- false. A loop isn't passed without its point, so there are finitely many of them.
use Rattle.std.specs.List.{flat_map, list_any}
use Rattle.std.specs.Prelude.{◌≡◌, ℕ, ℤ, List, [], ◌∷◌, ◌++◌, map, Bool, true, false, if◌then◌else◌, Some}
use Rattle.lra_path_segments.specs.Crates.lra_base.CaseLabels.{is_same_case, goal_of}
use Rattle.lra_path_segments.specs.Crates.lra_base.declared.case_labels.CaseLabel.{CaseLabel}
use Rattle.lra_path_segments.specs.Crates.lra_base.declared.case_labels.CaseLabel.TheVariants.{Default}
use Rattle.lra_path_segments.specs.Crates.lra_program.Program.{Expr, Cond}
use Rattle.lra_path_segments.specs.Crates.lra_program.Step.{State, environment_at, Op, run_op, test}
use Rattle.lra_path_segments.specs.Crates.lra_program.Value.{value_of}
use Rattle.lra_operations.specs.Tree.{Exit, broken, continued, returned, Completion, normal, jump, Node, empty, probe}
use Rattle.lra_operations.specs.Tree.{point, act, check, seq, choose, iterate, catch, leave, select, Arms, no_arms}
use Rattle.lra_operations.specs.Tree.{entry, arm, entries_of}

-- what is done on a segment
pub data SegmentStep : Type 0 where
  -- a least change
  does : Op → SegmentStep
  -- a value is computed once, and of these labels this is the one to which it goes
  goes : ℕ → Expr → List CaseLabel → CaseLabel → SegmentStep

-- where a segment leads: to a point, or to where the assertion at a point is false
pub data Goal : Type 0 where
  comes_to : ℕ → Goal
  violates : ℕ → Goal

pub record GoalSegment : Type 0 where
  pub ops : List SegmentStep
  pub goal : Goal

-- from the point of this number
pub record Segment : Type 0 where
  pub source : ℕ
  pub to_goal : GoalSegment

-- from the point of this number out of a tree
pub record Suffix : Type 0 where
  pub source : ℕ
  pub ops : List SegmentStep

abbrev pub same_exit : Exit → Exit → Bool
same_exit broken broken = true
same_exit continued continued = true
same_exit returned returned = true
same_exit j k = false

-- each of the ones, then each of the others: with the first of the others first
abbrev pub each_then : {A : Type 0} → List (List A) → List (List A) → List (List A)
each_then xs ys = flat_map (λ y. map (λ x. x ++ y) xs) ys

-- the operations, and then the segment
abbrev pub then_way : GoalSegment → List SegmentStep → GoalSegment
then_way way x = record way { ops = x ++ way.ops }

abbrev pub then_ways : List (List SegmentStep) → List GoalSegment → List GoalSegment
then_ways xs ways = flat_map (λ way. map (then_way way) xs) ways

-- out of the one tree, and then through another
abbrev pub then_out : List SegmentStep → Suffix → Suffix
then_out y x = record x { ops = x.ops ++ y }

abbrev pub then_outs : List Suffix → List (List SegmentStep) → List Suffix
then_outs xs ys = flat_map (λ y. map (then_out y) xs) ys

-- out of the one tree, and then to a first point of another
abbrev pub segment_by : GoalSegment → Suffix → Segment
segment_by way x = record { source = x.source; to_goal = then_way way x.ops }

abbrev pub segments_by : List Suffix → List GoalSegment → List Segment
segments_by xs ways = flat_map (λ way. map (segment_by way) xs) ways

-- this first
abbrev pub prepend_step : SegmentStep → List SegmentStep → List SegmentStep
prepend_step step x = step ∷ x

abbrev pub prepend_step_to_goal : SegmentStep → GoalSegment → GoalSegment
prepend_step_to_goal step way = record way { ops = prepend_step step way.ops }

-- a test first
abbrev pub with_test : ℕ → Cond → Bool → List SegmentStep → List SegmentStep
with_test base c wanted x = prepend_step (does (test base c wanted)) x

abbrev pub tested_way : ℕ → Cond → Bool → GoalSegment → GoalSegment
tested_way base c wanted way = prepend_step_to_goal (does (test base c wanted)) way

-- from the loop's point into its body: to a first point of that, out of it, or back to the loop's point
abbrev pub into_body : ℕ → ℕ → Cond → GoalSegment → Segment
into_body q base c way = record { source = q; to_goal = tested_way base c true way }

abbrev pub out_of_body : ℕ → ℕ → Cond → List SegmentStep → Suffix
out_of_body q base c x = record { source = q; ops = with_test base c true x }

-- on to a point
abbrev pub segment_to : ℕ → Suffix → Segment
segment_to q x = record { source = x.source; to_goal = record { ops = x.ops; goal = comes_to q } }

-- past all labels, if none of them is `default`
abbrev pub past_labels : (CaseLabel → SegmentStep) → Bool → Completion → List (List SegmentStep)
past_labels go true h = []
past_labels go false normal = (go Default ∷ []) ∷ []
past_labels go false (jump j) = []

-- to the one of the arms' labels to which the value goes
abbrev pub goes_in : ℕ → Expr → Arms → CaseLabel → SegmentStep
goes_in base e arms l = goes base e (entries_of arms) l

abbrev mutual
  -- through the tree past no point, left so
  pub through : Node → Completion → List (List SegmentStep)
  through empty normal = [] ∷ []
  through (probe here what) normal = [] ∷ []
  through empty (jump j) = []
  through (probe here what) (jump j) = []
  through (point q) h = []
  through (act q op) normal = (does op ∷ []) ∷ []
  through (act q op) (jump j) = []
  through (check q base c) normal = (does (test base c true) ∷ []) ∷ []
  through (check q base c) (jump j) = []
  through (seq a b) normal = each_then (through a normal) (through b normal)
  through (seq a b) (jump j) = through a (jump j) ++ each_then (through a normal) (through b (jump j))
  through (choose q base c a b) h = map (with_test base c true) (through a h) ++
      map (with_test base c false) (through b h)
  through (iterate q base c a) h = []
  through (catch q k a) normal = through a normal ++ through a (jump k)
  through (catch q k a) (jump j) = if same_exit j k then [] else through a (jump j)
  through (leave n k) normal = []
  through (leave n k) (jump j) = if same_exit j k then [] ∷ [] else []
  through (select q base e arms) h = through_labels (goes_in base e arms) arms h ++
      past_labels (goes_in base e arms) (list_any (is_same_case Default) (entries_of arms)) h

  -- the trees of the arms, one after the other
  pub through_arms : Arms → Completion → List (List SegmentStep)
  through_arms no_arms normal = [] ∷ []
  through_arms no_arms (jump j) = []
  through_arms (entry l arms) h = through_arms arms h
  through_arms (arm a arms) normal = each_then (through a normal) (through_arms arms normal)
  through_arms (arm a arms) (jump j) = through a (jump j) ++ each_then (through a normal) (through_arms arms (jump j))

  -- from each label those after it, in text order
  pub through_labels : (CaseLabel → SegmentStep) → Arms → Completion → List (List SegmentStep)
  through_labels go no_arms h = []
  through_labels go (entry l arms) h = map (prepend_step (go l)) (through_arms arms h) ++ through_labels go arms h
  through_labels go (arm a arms) h = through_labels go arms h

abbrev mutual
  -- from the tree's start to a first point, or to where an assertion before that is false
  pub enter : Node → List GoalSegment
  enter empty = []
  enter (probe here what) = []
  enter (point q) = record { ops = []; goal = comes_to q } ∷ []
  enter (act q op) = []
  enter (check q base c) = record { ops = does (test base c false) ∷ []; goal = violates q } ∷ []
  enter (seq a b) = enter a ++ then_ways (through a normal) (enter b)
  enter (choose q base c a b) = map (tested_way base c true) (enter a) ++ map (tested_way base c false) (enter b)
  enter (iterate q base c a) = record { ops = []; goal = comes_to q } ∷ []
  enter (catch q k a) = enter a
  enter (leave n k) = []
  enter (select q base e arms) = enter_labels (goes_in base e arms) arms

  pub enter_arms : Arms → List GoalSegment
  enter_arms no_arms = []
  enter_arms (entry l arms) = enter_arms arms
  enter_arms (arm a arms) = enter a ++ then_ways (through a normal) (enter_arms arms)

  pub enter_labels : (CaseLabel → SegmentStep) → Arms → List GoalSegment
  enter_labels go no_arms = []
  enter_labels go (entry l arms) = map (prepend_step_to_goal (go l)) (enter_arms arms) ++ enter_labels go arms
  enter_labels go (arm a arms) = enter_labels go arms

abbrev mutual
  -- from the points of the tree out of it, left so
  pub exit_suffixes : Node → Completion → List Suffix
  exit_suffixes empty h = []
  exit_suffixes (probe here what) h = []
  exit_suffixes (point q) normal = record { source = q; ops = [] } ∷ []
  exit_suffixes (point q) (jump j) = []
  exit_suffixes (act q op) h = []
  exit_suffixes (check q base c) h = []
  exit_suffixes (seq a b) normal = then_outs (exit_suffixes a normal) (through b normal) ++ exit_suffixes b normal
  exit_suffixes (seq a b) (jump j) =
      exit_suffixes a (jump j) ++ then_outs (exit_suffixes a normal) (through b (jump j)) ++ exit_suffixes b (jump j)
  exit_suffixes (choose q base c a b) h = exit_suffixes a h ++ exit_suffixes b h
  exit_suffixes (iterate q base c a) normal = record { source = q; ops = does (test base c false) ∷ [] } ∷ []
  exit_suffixes (iterate q base c a) (jump j) =
      map (out_of_body q base c) (through a (jump j)) ++ exit_suffixes a (jump j)
  exit_suffixes (catch q k a) normal = exit_suffixes a normal ++ exit_suffixes a (jump k)
  exit_suffixes (catch q k a) (jump j) = if same_exit j k then [] else exit_suffixes a (jump j)
  exit_suffixes (leave n k) h = []
  exit_suffixes (select q base e arms) h = arms_exit_suffixes arms h

  pub arms_exit_suffixes : Arms → Completion → List Suffix
  arms_exit_suffixes no_arms h = []
  arms_exit_suffixes (entry l arms) h = arms_exit_suffixes arms h
  arms_exit_suffixes (arm a arms) normal =
      then_outs (exit_suffixes a normal) (through_arms arms normal) ++ arms_exit_suffixes arms normal
  arms_exit_suffixes (arm a arms) (jump j) =
      exit_suffixes a (jump j) ++ then_outs (exit_suffixes a normal) (through_arms arms (jump j))
      ++ arms_exit_suffixes arms (jump j)

abbrev mutual
  -- from the points of the tree to the next ones
  pub inside : Node → List Segment
  inside empty = []
  inside (probe here what) = []
  inside (point q) = []
  inside (act q op) = []
  inside (check q base c) = []
  inside (seq a b) = inside a ++ segments_by (exit_suffixes a normal) (enter b) ++ inside b
  inside (choose q base c a b) = inside a ++ inside b
  inside (iterate q base c a) = map (into_body q base c) (enter a) ++
      map (λ x. segment_to q (out_of_body q base c x)) (through a normal)
      ++ map (segment_to q) (exit_suffixes a normal) ++
      inside a
  inside (catch q k a) = inside a
  inside (leave n k) = []
  inside (select q base e arms) = inside_arms arms

  pub inside_arms : Arms → List Segment
  inside_arms no_arms = []
  inside_arms (entry l arms) = inside_arms arms
  inside_arms (arm a arms) = inside a ++ segments_by (exit_suffixes a normal) (enter_arms arms) ++ inside_arms arms

-- what is done leads from the first state to the second
abbrev pub RunsStep : SegmentStep → State → State → Type 0
RunsStep (does op) s t = run_op op s ≡ Some t
RunsStep (goes base e labels l) s t = (z : ℤ) × (value_of e (environment_at base s) s.draws ≡ Some (z, t.draws)) ×
    (t ≡ record s { draws = t.draws }) × (l ≡ goal_of z labels)

-- all steps, one after the other, lead from the first state to the second
abbrev pub RunsOps : List SegmentStep → State → State → Type 0
RunsOps [] s t = t ≡ s
RunsOps (step ∷ steps) s t = (m : State) × RunsStep step s m × RunsOps steps m t
