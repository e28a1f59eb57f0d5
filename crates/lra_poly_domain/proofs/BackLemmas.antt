-- Going back over an assignment and a test, and the meet.
use Rattle.std.proofs.{Common.◌≡◌, Common.◌∙◌, Common.ℕ, Common.suc, Common.ℤ, Common.pos, Common.List, Common.◌∷◌, Common.length, Common.ap, Common.subst, Common.sym, Math.ListN.length-set}
use Rattle.std.specs.Prelude.{slice_set}
use Rattle.lra_domain.specs.{Actions.Leads, Actions.assign, Actions.test, Backward.TransfersBackTo, Backward.MeetsBoth}
use Rattle.lra_poly_domain.specs.Crates.lra_linear_forms.Form.{Form, form_row, form_value}
use Rattle.lra_poly_domain.specs.Crates.{lra_poly.Outcomes.Becomes, lra_poly.declared.outcome.Outcome.Outcome}
use Rattle.lra_linear_spec.specs.{Descriptions.Con, OperationStrain.AddTestStrains, OperationStrain.MeetStrains, OperationStrain.PreimageStrains, Points.IsPoint, Polyhedra.IsPolyhedronOf}
use Rattle.lra_linear_spec.specs.{Polyhedra.Polyhedron, Representable.IsRepresentable, SetOperations.Meet, SetOperations.Preimage, declared.ConKind.ConKind}
use Rattle.lra_duality.specs.Rows.{test_row}
use Rattle.lra_poly_domain.specs.{Abstraction.polyhedron_abstraction, Backward.IsPre, Backward.PreStrains, Backward.polyhedron_backward, Content.PolyhedronGamma, Covering.covered_from}
use Rattle.lra_poly_domain.specs.{Covering.store_point, Growth.exactness_of, Reach.form_product, Reach.leads_reach, Sets.reached}
use Rattle.lra_poly_domain.proofs.OutcomeLemmas.{of_exact, of_flagged}

-- a store from which the assignment leads into P is a point that it brings there
assigned_back : (x : ℕ) (e : Form) (p : Polyhedron) (s t : List ℤ) → length s ≡ p.dims → PolyhedronGamma p t →
    Leads (assign x e) s t → Preimage (suc x) (form_row e) (Con p.rows) (pos 1 ∷ s)
assigned_back x e p s t long has l = subst (Con p.rows)
    (ap (λ y. pos 1 ∷ y) l ∙ ap (λ z. pos 1 ∷ slice_set s x z) (sym (form_product e s))) has.1

-- so many numbers as after it
as_long : (x : ℕ) (e : Form) (s t : List ℤ) (n : ℕ) → Leads (assign x e) s t → length t ≡ n → length s ≡ n
as_long x e s t n l long = sym (length-set {A = ℤ} s x (form_value e s)) ∙ sym (ap length l) ∙ long

pub undoes_assignment : (x : ℕ) (e : Form) (p r : Polyhedron) (o : Outcome) → IsRepresentable r →
    Becomes p.dims (Preimage (suc x) (form_row e) (Con p.rows)) (PreimageStrains (suc x) (form_row e) p) r o →
    TransfersBackTo polyhedron_abstraction polyhedron_backward (assign x e) p (exactness_of o) r
undoes_assignment x e p r o fine b = record {
  formed = fine;
  stores = λ s t has l.
      let long = as_long x e s t p.dims l has.0 in
      (long ∙ sym b.dims, b.within (pos 1 ∷ s) (store_point p.dims s long) (assigned_back x e p s t long has l));
  covers = λ q is. covered_from q r is.canonical (is.dimensions ∙ sym b.dims) (λ y i c.
      let at : IsPoint p.dims y = subst (λ (n : ℕ). IsPoint n y) is.dimensions i in
      b.within y at (is.points.1 y at c));
  exact = λ f. of_exact (IsPre (assign x e) p r) o b.exact f;
  flagged = λ f. of_flagged (PreStrains (assign x e) p) o b.flagged f;
}

-- a store that passes and is in P after the test was there before it
pub undoes_test : (kind : ConKind) (e : Form) (p r : Polyhedron) (o : Outcome) → length e.coefficients ≡ p.dims → IsRepresentable r →
    Becomes p.dims (reached (test kind e) p) (AddTestStrains p (test_row kind e)) r o →
    TransfersBackTo polyhedron_abstraction polyhedron_backward (test kind e) p (exactness_of o) r
undoes_test kind e p r o width fine b = record {
  formed = fine;
  stores = λ s t has l.
      let same : s ≡ t = sym l.1 in
      let here : PolyhedronGamma p s = subst (PolyhedronGamma p) (sym same) has in
      let i = leads_reach (test kind e) p s t width here l in
      subst (PolyhedronGamma r) (sym same) (i.0 ∙ sym b.dims, b.within (pos 1 ∷ t) (store_point p.dims t i.0) i.1);
  covers = λ q is. covered_from q r is.canonical (is.dimensions ∙ sym b.dims) (λ y i c.
      let at : IsPoint p.dims y = subst (λ (n : ℕ). IsPoint n y) is.dimensions i in
      b.within y at (is.points.1 y at c));
  exact = λ f. of_exact (IsPre (test kind e) p r) o b.exact f;
  flagged = λ f. of_flagged (PreStrains (test kind e) p) o b.flagged f;
}

pub meets_both : (p q r : Polyhedron) (o : Outcome) → IsRepresentable r →
    Becomes p.dims (Meet (Con p.rows) (Con q.rows)) (MeetStrains p q) r o →
    MeetsBoth polyhedron_abstraction polyhedron_backward p q (exactness_of o) r
meets_both p q r o fine b = record {
  formed = fine;
  stores = λ s one two. (one.0 ∙ sym b.dims, b.within (pos 1 ∷ s) (store_point p.dims s one.0) (one.1, two.1));
  covers = λ j is. covered_from j r is.canonical (is.dimensions ∙ sym b.dims) (λ y i c.
      let at : IsPoint p.dims y = subst (λ (n : ℕ). IsPoint n y) is.dimensions i in
      b.within y at (is.points.1 y at c));
  exact = λ f. of_exact (IsPolyhedronOf p.dims (Meet (Con p.rows) (Con q.rows)) r) o b.exact f;
  flagged = λ f. of_flagged (MeetStrains p q) o b.flagged f;
}
