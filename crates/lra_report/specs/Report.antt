-- A report: what it has, and what it claims of a program.
-- a line and a byte in it, both from 1
use Rattle.std.specs.List.{AllByRecursion}
use Rattle.std.specs.Prelude.{◌⊎◌, ℕ, ℤ, List, [], ◌∷◌, length, Bool, Option, IsTrue}
pub use Rattle.lra_base.specs.declared.refusals.Place.{Place}
use Rattle.lra_options.specs.declared.options.Options.{Options}
use Rattle.lra_report.specs.Crates.{lra_program.Program.Program, lra_program.Run.Point, lra_program.Run.At}
use Rattle.lra_row_text.specs.{Part.Part, Rows.RowHolds}
use Rattle.lra_report.specs.{Parts.HasSamePoints, VerdictKinds.Breaks, declared.verdict_kinds.VerdictKind.VerdictKind}

-- what is known at a point: one of the parts holds; no part says that no run comes here
abbrev pub Invariant : Type 0
Invariant = List Part

-- a point with its number, its path and place as they are printed, the names of its variables, and its state
pub record PointReport : Type 0 where
  pub number : ℕ
  pub point : Point
  pub path : List ℕ
  pub place : Place
  pub names : List (List ℕ)
  pub state : Invariant

-- what is judged, at which point, which of its kind there, counted from 0 in the order of evaluation, if that is
-- printed, and whether no run breaks it
pub record Verdict : Type 0 where
  pub kind : VerdictKind
  pub number : ℕ
  pub point : Point
  pub which : ℕ
  pub path : List ℕ
  pub place : Place
  pub holds : Bool

-- `flagged` is the number of the point to which the first flagged operation belongs
pub record Report : Type 0 where
  pub options : Options
  pub flagged : Option ℕ
  pub points : List PointReport
  pub verdicts : List Verdict

-- what it claims -------------------------------------------------------------

-- all rows of some part hold
abbrev pub InvariantHolds : Invariant → List ℤ → Type 0
InvariantHolds [] store = ⊥
InvariantHolds (part ∷ parts) store = AllByRecursion (λ r. RowHolds r store) part.rows ⊎ InvariantHolds parts store

-- the state holds whenever a run is at the point; a state without parts then says that no run comes there
abbrev pub IsInvariant : Program → PointReport → Type 0
IsInvariant P p = (store : List ℤ) → At P p.point store → InvariantHolds p.state store

-- the rows and the generators of each part of the state have the same points
abbrev pub HasSamePointsAt : PointReport → Type 0
HasSamePointsAt p = AllByRecursion (HasSamePoints (length p.names)) p.state

-- what holds is broken in no run: an assertion that is marked proved doesn't fail, an access that is marked in bounds
-- isn't evaluated outside its array
abbrev pub IsRight : Program → Verdict → Type 0
IsRight P v = IsTrue v.holds → Breaks v.kind P v.point v.which → ⊥

pub record IsSound (P : Program) (r : Report) : Type 0 where
  pub invariants : AllByRecursion (IsInvariant P) r.points
  pub verdicts : AllByRecursion (IsRight P) r.verdicts
