-- Paths of a program: from its start or from a point to the next one, or to where an assertion is false, with all that
-- is done between. The start has the number 0, the points those from 1 on.
use Rattle.std.specs.Prelude.{◌≤◌, ◌<◌, ℕ, zero, suc, List, map, length, Bool, false, ◌&&◌, nat_eq, Option, Some, None}
use Rattle.std.specs.{List.flat_map, List.filter, List.range_with_len, Prelude.slice_get}
use Rattle.lra_paths.specs.Crates.lra_path_segments.Segments.{SegmentStep, Goal, comes_to, violates, GoalSegment}
use Rattle.lra_paths.specs.Crates.lra_path_segments.Segments.{Segment, each_then, enter, inside}
use Rattle.lra_paths.specs.Crates.lra_program.declared.program.GlobalVariable.{GlobalVariable}
use Rattle.lra_paths.specs.Crates.{lra_analysis_spec.MovesOf.first_values, lra_domain.Actions.Action}
use Rattle.lra_paths.specs.Crates.{lra_program.Program.Program, lra_program.Sites.Site, lra_program.Sites.sites_of}
use Rattle.lra_operations.specs.Tree.{Node}
use Rattle.lra_path_disjuncts.specs.Disjuncts.{disjuncts, written, greatest_paths}

abbrev pub same_goal : Goal → Goal → Bool
same_goal (comes_to p) (comes_to q) = nat_eq p q
same_goal (violates p) (violates q) = nat_eq p q
same_goal (comes_to p) (violates q) = false
same_goal (violates p) (comes_to q) = false

-- how many variables live at the point
abbrev pub live_of : Option Site → ℕ
live_of None = 0
live_of (Some s) = s.live

abbrev pub live_at : Program → ℕ → ℕ
live_at P q = live_of (slice_get (sites_of P) q)

-- from the start: the globals get their first values, and then what is done between
abbrev pub started : List GlobalVariable → List SegmentStep → List (List Action)
started globals ops = each_then (disjuncts (first_values 0 globals)) (written (length globals) ops)

abbrev pub from_start : Program → List SegmentStep → List (List Action)
from_start P ops = started P.globals ops

-- the segments from the source to the goal
abbrev pub first_segments : Node → Goal → List GoalSegment
first_segments g goal = filter (λ way. same_goal way.goal goal) (enter g)

abbrev pub next_segments : Node → ℕ → Goal → List Segment
next_segments g p goal = filter (λ segment. nat_eq segment.source p && same_goal segment.to_goal.goal goal) (inside g)

-- from the source to the goal, in the order of the segments, and of the disjuncts of each: in a program with these
-- globals and these points
abbrev pub actions_between_in : List GlobalVariable → List Site → Node → ℕ → Goal → List (List Action)
actions_between_in globals sites g zero goal = flat_map (λ way. started globals way.ops) (first_segments g goal)
actions_between_in globals sites g (suc p) goal =
    flat_map (λ segment. written (live_of (slice_get sites p)) segment.to_goal.ops) (next_segments g p goal)

abbrev pub actions_between : Program → Node → ℕ → Goal → List (List Action)
actions_between P g p goal = actions_between_in P.globals (sites_of P) g p goal

pub record Path : Type 0 where
  pub source : ℕ
  pub goal : Goal
  pub actions : List Action

abbrev pub path_by : ℕ → Goal → List Action → Path
path_by p goal actions = record { source = p; goal = goal; actions = actions }

abbrev pub paths_between : Program → Node → ℕ → Goal → List Path
paths_between P g p goal = map (path_by p goal) (actions_between P g p goal)

-- the start and the points
abbrev pub sources_of : Program → List ℕ
sources_of P = range_with_len 0 (suc (length (sites_of P)))

abbrev pub points_of : Program → List ℕ
points_of P = range_with_len 0 (length (sites_of P))

-- by source, then by target
abbrev pub paths_of : Program → Node → List Path
paths_of P g = flat_map (λ p. flat_map (λ q. paths_between P g p (comes_to q)) (points_of P)) (sources_of P)

-- to where the assertion at the point is false
abbrev pub violations_of : Program → Node → ℕ → List Path
violations_of P g q = flat_map (λ p. paths_between P g p (violates q)) (sources_of P)

-- no more of them lead from the source to one goal
abbrev pub AreFewFrom : List GlobalVariable → List Site → Node → ℕ → Type 0
AreFewFrom globals sites g p = (goal : Goal) → length (actions_between_in globals sites g p goal) ≤ greatest_paths

abbrev pub AreFewIn : List GlobalVariable → List Site → Node → Type 0
AreFewIn globals sites g = (p : ℕ) → p ≤ length sites → AreFewFrom globals sites g p

-- more of them lead from this source to one goal, and from no lesser one
pub record HasTooManyIn (globals : List GlobalVariable) (sites : List Site) (g : Node) (p : ℕ) : Type 0 where
  pub source : p ≤ length sites
  pub goal : Goal
  pub many : greatest_paths < length (actions_between_in globals sites g p goal)
  pub first : (earlier : ℕ) → earlier < p → AreFewFrom globals sites g earlier

abbrev pub AreFewPaths : Program → Node → Type 0
AreFewPaths P g = AreFewIn P.globals (sites_of P) g

abbrev pub HasTooManyPaths : Program → Node → ℕ → Type 0
HasTooManyPaths P g p = HasTooManyIn P.globals (sites_of P) g p
