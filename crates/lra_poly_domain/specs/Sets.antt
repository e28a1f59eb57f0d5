-- The least changes and joins as operations on sets of points, and when they exceed a limit.
use Rattle.std.specs.Prelude.{◌≡◌, ◌-◌, suc}
use Rattle.lra_domain.specs.Actions.{Action, ActionFits, assign, forget, test, embed, remove_last, dims_after}
use Rattle.lra_linear_spec.specs.OperationStrain.{AddTestStrains, EmbedStrains, ForgetStrains, ImageStrains}
use Rattle.lra_linear_spec.specs.OperationStrain.{RemoveLastStrains}
use Rattle.lra_linear_spec.specs.Polyhedra.{IsPolyhedronOf, Polyhedron}
use Rattle.lra_linear_spec.specs.SetOperations.{Embed, Forget, Hull, Image, Meet, RemoveLast, Union}
use Rattle.lra_linear_spec.specs.{Descriptions.Con, Descriptions.Holds, Points.IsWithin, Points.PointSet, Strain.Loss}
use Rattle.lra_poly_domain.specs.Crates.lra_linear_forms.Form.{form_row}
use Rattle.lra_duality.specs.Rows.{test_row}

-- the points to which the change leads; dimension x is column x + 1
abbrev pub reached : Action → Polyhedron → PointSet
reached (assign x e) p = Image p.dims (suc x) (form_row e) (Con p.rows)
reached (forget x) p = Forget p.dims (suc x) (Con p.rows)
reached (test kind e) p = Meet (Con p.rows) (Holds (test_row kind e))
reached (embed k) p = Embed p.dims (Con p.rows)
reached (remove_last k) p = RemoveLast (p.dims - k) k (Con p.rows)

abbrev pub ChangeStrains : Action → Polyhedron → Loss → Type 0
ChangeStrains (assign x e) p = ImageStrains (suc x) (form_row e) p
ChangeStrains (forget x) p = ForgetStrains (suc x) p
ChangeStrains (test kind e) p = AddTestStrains p (test_row kind e)
ChangeStrains (embed k) p = EmbedStrains k p
ChangeStrains (remove_last k) p = RemoveLastStrains k p

-- R is the polyhedron of these points
abbrev pub IsChanged : Action → Polyhedron → Polyhedron → Type 0
IsChanged step p r = IsPolyhedronOf (dims_after step p.dims) (reached step p) r

-- R has all points to which the change leads from those of P, the rational ones among them; the change is one of P
pub record KeepsPoints (step : Action) (p r : Polyhedron) : Type 0 where
  pub fits : ActionFits step p.dims
  pub dims : r.dims ≡ dims_after step p.dims
  pub within : IsWithin (dims_after step p.dims) (reached step p) (Con r.rows)

-- R has the points of P and of Q
pub record HoldsPoints (p q r : Polyhedron) : Type 0 where
  pub dims : (p.dims ≡ r.dims) × (q.dims ≡ r.dims)
  pub left : IsWithin r.dims (Con p.rows) (Con r.rows)
  pub right : IsWithin r.dims (Con q.rows) (Con r.rows)

-- R is the hull of P and Q
abbrev pub hull_of : Polyhedron → Polyhedron → PointSet
hull_of p q = Hull p.dims (Union (Con p.rows) (Con q.rows))

abbrev pub IsJoin : Polyhedron → Polyhedron → Polyhedron → Type 0
IsJoin p q r = IsPolyhedronOf p.dims (hull_of p q) r
