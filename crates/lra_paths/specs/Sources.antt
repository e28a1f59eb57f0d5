-- The segments from one source, with a table of their moves, and the paths that are written out of it.
use Rattle.std.specs.Prelude.{◌≡◌, ◌<◌, ◌≤◌, ℕ, zero, suc, List, [], ◌∷◌, ◌++◌, Bool, true, false, cond, nat_eq, length}
use Rattle.std.specs.{List.flat_map, Prelude.Option, Prelude.Some, Prelude.None, Prelude.slice_get}
use Rattle.lra_paths.specs.Crates.lra_domain.Moves.{Moves, stay, first_then}
use Rattle.lra_paths.specs.Crates.lra_path_segments.Segments.{SegmentStep, Goal}
use Rattle.lra_paths.specs.Crates.lra_path_segments.TreeSegments.{End, exits, reaches, TreeSegment}
use Rattle.lra_paths.specs.Crates.lra_program.declared.program.GlobalVariable.{GlobalVariable}
use Rattle.lra_paths.specs.Crates.{lra_analysis_spec.MovesOf.first_values, lra_domain.Actions.Action}
use Rattle.lra_paths.specs.Crates.{lra_path_segments.TreeSegmentViews.goal_view, lra_program.Sites.Site}
use Rattle.lra_path_disjuncts.specs.Disjuncts.{disjuncts, greatest_paths}
use Rattle.lra_path_disjuncts.specs.Tables.{Has, IsTable, Grows, moves_at}
use Rattle.lra_path_disjuncts.specs.{SegmentMoves.segment_moves, declared.tables.MovesEntry.MovesEntry}
use Rattle.lra_paths.specs.{Paths.live_of, Paths.same_goal, declared.paths.Departure.Departure}
use Rattle.lra_paths.specs.{declared.sources.Source.Source, declared.sources.SourceSegment.SourceSegment}

-- the paths of a segment, if it has this goal
abbrev pub to_goal_by : List MovesEntry → Goal → SourceSegment → List (List Action)
to_goal_by es goal way = cond (same_goal (goal_view way.goal) goal) (disjuncts (moves_at es way.place)) []

-- in the order of the segments
abbrev pub to_goal : List MovesEntry → List SourceSegment → Goal → List (List Action)
to_goal es ways goal = flat_map (to_goal_by es goal) ways

-- no more than may be lead to each goal, or more to one
abbrev pub AreFewTo : List MovesEntry → List SourceSegment → Type 0
AreFewTo es ways = (goal : Goal) → length (to_goal es ways goal) ≤ greatest_paths

abbrev pub AreManyTo : List MovesEntry → List SourceSegment → Type 0
AreManyTo es ways = (goal : Goal) × (greatest_paths < length (to_goal es ways goal))

-- to the goals of these segments
abbrev pub AreFewFor : List MovesEntry → List SourceSegment → List SourceSegment → Type 0
AreFewFor es ways [] = Unit {0}
AreFewFor es ways (w ∷ ws) = (length (to_goal es ways (goal_view w.goal)) ≤ greatest_paths) × AreFewFor es ways ws

-- from a source ----------------------------------------------------------------------------------------------------

abbrev pub same_point : Option ℕ → Option ℕ → Bool
same_point None None = true
same_point None (Some q) = false
same_point (Some p) None = false
same_point (Some p) (Some q) = nat_eq p q

-- what is done first, and then these operations, if a goal is met that is this one
abbrev pub ending : Moves → ℕ → Goal → List SegmentStep → End → List (List Action)
ending before live goal ops (exits h) = []
ending before live goal ops (reaches g) =
    cond (same_goal g goal) (disjuncts (first_then before (segment_moves live ops))) []

-- of a segment, if it is from this point
abbrev pub departing : Moves → ℕ → Option ℕ → Goal → TreeSegment → List (List Action)
departing before live point goal s = cond (same_point s.source point) (ending before live goal s.ops s.end) []

abbrev pub all_departing : Moves → ℕ → Option ℕ → List TreeSegment → Goal → List (List Action)
all_departing before live point ss goal = flat_map (departing before live point goal) ss

-- what is done first from the source of this number, how many variables live after that, and which point it is
abbrev pub first_from : List GlobalVariable → ℕ → Moves
first_from globals zero = first_values 0 globals
first_from globals (suc p) = stay

abbrev pub live_from : List GlobalVariable → List Site → ℕ → ℕ
live_from globals sites zero = length globals
live_from globals sites (suc p) = live_of (slice_get sites p)

abbrev pub point_from : ℕ → Option ℕ
point_from zero = None
point_from (suc p) = Some p

pub record IsDeparture (globals : List GlobalVariable) (sites : List Site) (p : ℕ) (es : List MovesEntry)
    (d : Departure) :
    Type 0 where
  pub first : Has es d.before (first_from globals p)
  pub live : d.live ≡ live_from globals sites p
  pub point : d.point ≡ point_from p

-- tables -----------------------------------------------------------------------------------------------------------

-- the moves of each segment stand in the table
abbrev pub ArePlaced : List MovesEntry → List SourceSegment → Type 0
ArePlaced es [] = Unit {0}
ArePlaced es (w ∷ ws) = (w.place < length es) × ArePlaced es ws

pub record IsSource (s : Source) : Type 0 where
  pub table : IsTable s.entries.items
  pub placed : ArePlaced s.entries.items s.segments.items

-- these paths come after the others
pub record Adds (s t : Source) (paths : Goal → List (List Action)) : Type 0 where
  pub is : IsSource t
  pub grows : Grows s.entries.items t.entries.items
  pub more : (goal : Goal) → to_goal t.entries.items t.segments.items goal ≡
      to_goal s.entries.items s.segments.items goal ++ paths goal
