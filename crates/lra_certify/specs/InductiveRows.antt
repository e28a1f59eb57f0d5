-- Rows that are inductive along paths: from each rational point of its source's rows a path leads to points of its
-- target's rows alone.
use Rattle.std.specs.Prelude.{◌≤◌, ◌<◌, ℕ, ℤ, ⊤, List, length, None, Some, Contains}
use Rattle.lra_certify.specs.Crates.lra_certificate_spec.Certificates.{state_from, state_to}
use Rattle.lra_certify.specs.Crates.lra_path_segments.Segments.{Goal, comes_to, violates}
use Rattle.lra_certify.specs.Crates.lra_paths.Paths.{Path, path_by, actions_between}
use Rattle.lra_certify.specs.Crates.lra_program.Sites.{Site, sites_of}
use Rattle.lra_certify.specs.Crates.{lra_certificate_spec.Judged.RowsAtPoint, lra_domain.Actions.Action}
use Rattle.lra_certify.specs.Crates.{lra_linear_spec.Descriptions.Con, lra_linear_spec.Points.IsPoint}
use Rattle.lra_certify.specs.Crates.{lra_operations.Tree.Node, lra_program.Program.Program}
use Rattle.lra_verify.specs.EdgeViews.{live_by}
use Rattle.lra_certify.specs.PointMoves.{PointLeadsAll}

-- the point meets the rows; if nothing comes no point does
abbrev pub IsIn : RowsAtPoint → List ℤ → Type 0
IsIn None y = ⊥
IsIn (Some rows) y = Con rows y

-- from rows over so many variables to a target
abbrev pub IsInductiveFrom : ℕ → List Action → RowsAtPoint → RowsAtPoint → Type 0
IsInductiveFrom live actions None target = ⊤
IsInductiveFrom live actions (Some rows) target = (x y : List ℤ) → IsPoint live x → Con rows x →
    PointLeadsAll actions x y → IsIn target y

-- where a listed assertion is false nothing may come
abbrev pub IsInductiveAlong : List Site → List RowsAtPoint → Path → Type 0
IsInductiveAlong sites states path =
    IsInductiveFrom (live_by sites path.source) path.actions (state_from states path.source)
    (state_to states path.goal)

-- it is one of the points, or one of the assertions that are to be listed
abbrev pub MustBeShown : ℕ → List ℕ → Goal → Type 0
MustBeShown points proved (comes_to q) = q < points
MustBeShown points proved (violates q) = Contains proved q

-- so it is along each path to a point, and to where a listed assertion is false
abbrev pub AreInductiveRows : Program → Node → List RowsAtPoint → List ℕ → Type 0
AreInductiveRows P g states proved = (p : ℕ) (goal : Goal) (actions : List Action) → p ≤ length (sites_of P) →
    MustBeShown (length (sites_of P)) proved goal → Contains (actions_between P g p goal) actions →
    IsInductiveAlong (sites_of P) states (path_by p goal actions)
