-- What is taken of an analysis into a certificate: the rows of each value, none if it has no point, and the points of
-- the assertions that are proved.
use Rattle.std.specs.List.{filter}
use Rattle.std.specs.Prelude.{ℕ, Bool, List, [], ◌∷◌, map, Option, None, Some, option_map}
use Rattle.lra_certify_source.specs.Crates.lra_certificate_spec.Judged.{RowsAtPoint}
use Rattle.lra_certify_source.specs.Crates.lra_linear_spec.Descriptions.{LinearRow}
use Rattle.lra_certify_source.specs.Crates.lra_linear_spec.Polyhedra.{Polyhedron}
use Rattle.lra_certify_source.specs.Crates.lra_linear_spec.declared.ConKind.{ConKind}
use Rattle.lra_certify_source.specs.Crates.lra_systems.LinearSystems.{LinearSystem}

-- the rows if there is a generator
abbrev pub rows_if_any : List LinearRow → List LinearRow → RowsAtPoint
rows_if_any [] rows = None
rows_if_any (g ∷ gs) rows = Some rows

abbrev pub state_by : Polyhedron → RowsAtPoint
state_by p = rows_if_any p.generators p.rows

-- how many dimensions they have
abbrev pub dims_by : Polyhedron → Option ℕ
dims_by p = option_map (λ rows. p.dims) (state_by p)

abbrev pub dims_in : Option (LinearSystem ConKind) → Option ℕ
dims_in state = option_map (λ rows. rows.dims) state

abbrev pub proved_in : List (ℕ × Bool) → List ℕ
proved_in verdicts = map (λ v. v.0) (filter (λ v. v.1) verdicts)
