-- The rational points of polyhedra. Such a point is a row of whole numbers: first its divisor, which is above 0, then a
-- number for each dimension.
use Rattle.std.specs.Prelude.{◌≡◌, ◌-◌, ℕ, suc, ℤ, List, length, take}
use Rattle.lra_inductive_sound.specs.Crates.lra_domain.Actions.{Action, dims_after, assign, forget, test, embed}
use Rattle.lra_inductive_sound.specs.Crates.lra_domain.Actions.{remove_last}
use Rattle.lra_inductive_sound.specs.Crates.lra_linear_spec.Descriptions.{Con, Holds}
use Rattle.lra_inductive_sound.specs.Crates.lra_linear_spec.Points.{IsPoint, SamePoint}
use Rattle.lra_inductive_sound.specs.Crates.lra_linear_spec.Polyhedra.{Polyhedron}
use Rattle.lra_inductive_sound.specs.Crates.lra_linear_spec.SetOperations.{assigned, SameBut}
use Rattle.lra_inductive_sound.specs.Crates.{lra_duality.Rows.test_row, lra_linear_forms.Form.form_row}
use Rattle.lra_poly_domain.specs.Content.{HeadContent}
use Rattle.lra_inductive_sound.specs.Points.{PointsOf}

abbrev pub dimension : List ℤ → ℕ
dimension x = length x - 1

-- where the action leads from the first row, whose dimension x is number x + 1; rows that are multiples of one another
-- are one point
abbrev pub MovesPoint : Action → List ℤ → List ℤ → Type 0
MovesPoint (assign k e) x y = SamePoint y (assigned (suc k) (form_row e) x)
MovesPoint (forget k) x y = SameBut (suc k) y x
MovesPoint (test kind e) x y = (y ≡ x) × Holds (test_row kind e) x
MovesPoint (embed k) x y = take (length x) y ≡ x
MovesPoint (remove_last k) x y = SamePoint y (take (suc (dimension x - k)) x)

-- the action leads from the first row to the second, a point of as many dimensions as there are after the action
abbrev pub LeadsPoint : Action → List ℤ → List ℤ → Type 0
LeadsPoint step x y = IsPoint (dims_after step (dimension x)) y × MovesPoint step x y

abbrev pub IsPointOf : Polyhedron → List ℤ → Type 0
IsPointOf p x = IsPoint p.dims x × Con p.rows x

abbrev pub rational_points : PointsOf Polyhedron HeadContent (List ℤ)
rational_points = record {
  on = IsPointOf;
  head_on = λ h. IsPointOf h.value;
  bare = IsPoint 0;
  leads = LeadsPoint;
}
