-- How a polyhedron is shown: by its constraints and by its generators, which describe the same points.
use Rattle.std.specs.List.{AllByRecursion}
use Rattle.std.specs.Prelude.{◌≡◌, ℤ, pos, List, [], ◌∷◌, length, map}
use Rattle.lra_report_build.specs.Crates.lra_linear_spec.Descriptions.{LinearRow, Con}
use Rattle.lra_report_build.specs.Crates.lra_linear_spec.Polyhedra.{Polyhedron}
use Rattle.lra_report_build.specs.Crates.lra_linear_spec.declared.ConKind.{ConKind}
use Rattle.lra_report_build.specs.Crates.lra_linear_spec.declared.GenKind.{GenKind}
use Rattle.lra_report_build.specs.Crates.lra_options.declared.options.Domain.TheVariants.{Poly}
use Rattle.lra_report_build.specs.Crates.lra_systems.LinearSystems.{LinearSystem, constraints, generators}
use Rattle.lra_row_text.specs.{Part.Part, ShownDescriptions.shown_constraint, ShownDescriptions.shown_generator}
use Rattle.lra_report.specs.{Listing.HasWidth, Parts.ShowsPart, Report.Invariant, Report.InvariantHolds}

-- no part if there is no generator
abbrev pub part_if_any : List LinearRow → Part → Invariant
part_if_any [] part = []
part_if_any (g ∷ gs) part = part ∷ []

abbrev pub shown_polyhedron : Polyhedron → Invariant
shown_polyhedron p = part_if_any p.generators
    (record { rows = map shown_constraint p.rows; generators = map shown_generator p.generators })

-- the state describes the polyhedron
pub record ShowsPolyhedron (p : Polyhedron) (state : Invariant) : Type 0 where
  pub wide : AllByRecursion (HasWidth p.dims) state
  pub tell : AllByRecursion (ShowsPart Poly p.dims) state
  -- each store in it holds there
  pub holds : (s : List ℤ) → length s ≡ p.dims → Con p.rows (pos 1 ∷ s) → InvariantHolds state s
  -- no other list of that many numbers holds there
  pub only : (s : List ℤ) → length s ≡ p.dims → InvariantHolds state s → Con p.rows (pos 1 ∷ s)

-- what two lists show
abbrev pub polyhedron_of : LinearSystem ConKind → LinearSystem GenKind → Polyhedron
polyhedron_of rows gens = record { dims = rows.dims; rows = constraints rows; generators = generators gens }
