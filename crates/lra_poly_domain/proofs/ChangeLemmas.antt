-- The least changes and the join: what the operations give keeps the points and covers what is defined.
use Rattle.std.proofs.Common.{◌≡◌, ◌∙◌, ℕ, inl, inr, sym, subst}
use Rattle.lra_domain.specs.{Abstraction.Joins, Abstraction.TransfersTo, Actions.Action, Actions.ActionFits, Actions.dims_after}
use Rattle.lra_linear_spec.specs.{Descriptions.Con, OperationStrain.HullStrains, Points.IsPoint, Points.IsWithin, Polyhedra.IsPolyhedron, Polyhedra.Polyhedron, Representable.IsRepresentable}
use Rattle.lra_poly_domain.specs.Crates.{lra_poly.Outcomes.Becomes, lra_poly.declared.outcome.Outcome.Outcome}
use Rattle.lra_poly_domain.specs.{Abstraction.polyhedron_abstraction, Covering.covered_from, Growth.exactness_of, Sets.ChangeStrains, Sets.IsChanged, Sets.IsJoin, Sets.hull_of, Sets.reached}
use Rattle.lra_poly_domain.proofs.OutcomeLemmas.{of_exact, of_flagged}

-- ---- what the operations give
pub changes : (step : Action) (p r : Polyhedron) (o : Outcome) → ActionFits step p.dims → IsRepresentable r →
    Becomes (dims_after step p.dims) (reached step p) (ChangeStrains step p) r o → TransfersTo polyhedron_abstraction step p (exactness_of o) r
changes step p r o fits fine b = record {
  formed = fine;
  keeps = record { fits = fits; dims = b.dims; within = b.within };
  covers = λ q is. covered_from q r is.canonical (is.dimensions ∙ sym b.dims) (λ x i c.
      let at : IsPoint (dims_after step p.dims) x = subst (λ (n : ℕ). IsPoint n x) is.dimensions i in
      b.within x at (is.points.1 x at c));
  exact = λ e. of_exact (IsChanged step p r) o b.exact e;
  flagged = λ e. of_flagged (ChangeStrains step p) o b.flagged e;
}

-- a point of either is in their hull
pub left_in_hull : (p q : Polyhedron) → IsWithin p.dims (Con p.rows) (hull_of p q)
left_in_hull p q x i c form width valid = valid x i (inl c)

pub right_in_hull : (p q : Polyhedron) → IsWithin p.dims (Con q.rows) (hull_of p q)
right_in_hull p q x i c form width valid = valid x i (inr c)

pub joins : (p q r : Polyhedron) (o : Outcome) → IsPolyhedron p → IsPolyhedron q → IsRepresentable r → q.dims ≡ p.dims →
    Becomes p.dims (hull_of p q) (HullStrains p q) r o → Joins polyhedron_abstraction p q (exactness_of o) r
joins p q r o hp hq fine dq b = record {
  formed = fine;
  left = covered_from p r hp (sym b.dims) (λ x i c. b.within x i (left_in_hull p q x i c));
  right = covered_from q r hq (dq ∙ sym b.dims) (λ x i c.
      let at : IsPoint p.dims x = subst (λ (n : ℕ). IsPoint n x) dq i in
      b.within x at (right_in_hull p q x at c));
  covers = λ j is. covered_from j r is.canonical (is.dimensions ∙ sym b.dims) (λ x i c.
      let at : IsPoint p.dims x = subst (λ (n : ℕ). IsPoint n x) is.dimensions i in
      b.within x at (is.points.1 x at c));
  exact = λ e. of_exact (IsJoin p q r) o b.exact e;
  flagged = λ e. of_flagged (HullStrains p q) o b.flagged e;
}
