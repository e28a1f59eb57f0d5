-- The laws of polyhedra.
use Rattle.std.proofs.Common.{◌≡◌, ◌∙◌, ◌≤◌, ℕ, suc, ℤ, pos, List, [], ◌∷◌, length, ap, sym, refl, subst, arith}
use Rattle.std.proofs.{Common.replicate, lemmas.List.length-replicate}
use Rattle.lra_domain.specs.Actions.{Action, Leads, Within, assign, dims_after, embed, forget, remove_last, test}
use Rattle.lra_domain.specs.{Backward.SingleBackward, Laws.Laws, Laws.BaseLaws, Laws.SingleLaws, declared.Mode.Mode}
use Rattle.lra_poly_domain.specs.Crates.lra_linear_forms.Form.{form_row}
use Rattle.lra_linear_spec.specs.Polyhedra.{IsPolyhedronOf, Polyhedron}
use Rattle.lra_linear_spec.specs.{Descriptions.Con, Descriptions.LinearRow, Points.IsWithin, Points.PointSet}
use Rattle.lra_linear_spec.specs.{Representable.IsRepresentable, SetOperations.Meet, SetOperations.Preimage}
use Rattle.lra_linear_spec.proofs.{Descriptions.con_none, Polyhedra.polyhedron_unique}
use Rattle.lra_poly_domain.specs.Content.{HeadContent, PolyhedronGamma, polyhedron_parts}
use Rattle.lra_poly_domain.specs.Covering.{covered_has, covered_refl, covered_trans, joined_covered, one_part}
use Rattle.lra_poly_domain.specs.Covering.{parts_empty, same_covered, store_point}
use Rattle.lra_poly_domain.specs.Heads.{IsGrown, thresholds_left, grown_set}
use Rattle.lra_poly_domain.specs.Rounding.{bounded_between, nothing_told, one_told}
use Rattle.lra_poly_domain.specs.{Abstraction.polyhedron_abstraction, Backward.IsPre, Backward.polyhedron_backward}
use Rattle.lra_poly_domain.specs.{Reach.leads_reach, Sets.KeepsPoints, Sets.hull_of, Sets.reached}

partless_has : (p : Polyhedron) → polyhedron_parts p ≡ [] → (s : List ℤ) → ¬ PolyhedronGamma p s
partless_has p e s h = parts_empty p p.dims e (pos 1 ∷ s) (store_point p.dims s h.0) h.1

void_has : (n cap : ℕ) (p : Polyhedron) → polyhedron_abstraction.bottom n cap p → (s : List ℤ) → ¬ PolyhedronGamma p s
void_has n cap p is s h = is.1 (pos 1 ∷ s) (store_point n s (h.0 ∙ is.0)) h.1

universal_has : (n cap : ℕ) (p : Polyhedron) → polyhedron_abstraction.top n cap p → (s : List ℤ) → length s ≡ n →
    PolyhedronGamma p s
universal_has n cap p is s e = (
  e ∙ sym is.dimensions,
  is.points.0 (pos 1 ∷ s) (store_point n s e) (con_none (pos 1 ∷ s)),
)

few_parts : (p : Polyhedron) (c : ℕ) → 1 ≤ c → length (polyhedron_parts p) ≤ c
few_parts p c some = let one = one_part p in omega arith

kept_has : (step : Action) (p r : Polyhedron) → KeepsPoints step p r → (s t : List ℤ) → PolyhedronGamma p s →
    Leads step s t → PolyhedronGamma r t
kept_has step p r k s t has l =
    let i = leads_reach step p s t k.fits has l in
    (i.0 ∙ sym k.dims, k.within (pos 1 ∷ t) (store_point (dims_after step p.dims) t i.0) i.1)

held_has : (p r : Polyhedron) → p.dims ≡ r.dims → IsWithin r.dims (Con p.rows) (Con r.rows) →
    Within (PolyhedronGamma p) (PolyhedronGamma r)
held_has p r d w s has = (has.0 ∙ d, w (pos 1 ∷ s) (store_point r.dims s (has.0 ∙ d)) has.1)

pub polyhedron_laws : Laws polyhedron_abstraction
polyhedron_laws = record {
  sized = λ p s fine h. h.0;
  head_sized = λ h s fine own. own.0;
  top_dims = λ n cap p is. is.dimensions;
  top_stores = λ n cap p fine is s long. universal_has n cap p is s long;
  bottom_dims = λ n cap p is. is.0;
  bottom_stores = λ n cap p fine is s h. void_has n cap p is s h;
  capped_parts = λ p c some. few_parts p c some;
  top_capped = λ n cap p some is. some;
  bottom_capped = λ n cap p some is. some;
  partless = λ p fine e s h. partless_has p e s h;
  bounded_stores = λ p f l h s fine wide is has. bounded_between p f l h s is has;
  one_bounded = λ p f l h j k fine is so. one_told p f l h j k is so;
  bounded_partless = λ p f l h fine e is. nothing_told p f l h e is;
  leq_stores = λ a b fine too c. covered_has a b c;
  head_leq_stores = λ a b fine too c. covered_has a.value b.value c;
  kept_stores = λ step p r fine too k. kept_has step p r k;
  old_stores = λ old next new fine too k. held_has old.value new.value k.dims.0 k.left;
  next_stores = λ old next new fine too k. held_has next new.value k.dims.1 k.right;
  stays_stores = λ h p mode fine too c. covered_has p h.value c;
  answers_yes = λ h p mode c. c;
  answers_no = λ h p mode c. c;
  given_up_stores = λ old mode new fine too is s e. universal_has old.value.dims 1 new.value is.all s e;
  given_up_valued = λ old mode new fine too is. (new.value, refl);
  given_up_value = λ old mode new p fine too is e. (
    1,
    subst (λ (q : Polyhedron). polyhedron_abstraction.top old.value.dims 1
        q) (sym e) is.all,
  );
}

-- two sets that have the same points have one polyhedron
one_of : (n : ℕ) (P : PointSet) (p q : Polyhedron) → IsPolyhedronOf n P p → IsPolyhedronOf n P q → p ≡ q
one_of n P p q is so = polyhedron_unique n P P p q (λ x i k. k, λ x i k. k) is so

one_without : (n : ℕ) (p q : Polyhedron) → polyhedron_abstraction.bottom n 1 p → polyhedron_abstraction.bottom n 1 q →
    p ≡ q
one_without n p q is so = one_of n (λ x. ⊥) p q (empty_of n p is) (empty_of n q so)
  where
    empty_of : (n : ℕ) (p : Polyhedron) → polyhedron_abstraction.bottom n 1 p → IsPolyhedronOf n (λ x. ⊥) p
    empty_of n p is = record {
      dimensions = is.0;
      canonical = is.2;
      points = (λ x i k. absurd k, λ x i k. is.1 x i k);
    }

one_growth : (h : HeadContent) (p : Polyhedron) (mode : Mode) (i j : HeadContent) → IsGrown h p mode i →
    IsGrown h p mode j → i ≡ j
one_growth h p mode i j is so =
    let join : is.join ≡ so.join = one_of h.value.dims (hull_of h.value p) is.join so.join is.is_join so.is_join in
    let value : i.value ≡ j.value = one_of h.value.dims (grown_set mode h.value so.join h.thresholds) i.value j.value
    (subst (λ (q : Polyhedron). IsPolyhedronOf h.value.dims (grown_set mode h.value q h.thresholds) i.value) join
    is.made)
    so.made in
    same_head i j value (is.left ∙ ap (λ (r : Polyhedron). thresholds_left mode h.value r h.thresholds) value
    ∙ sym so.left)
  where
    same_head : (i j : HeadContent) → i.value ≡ j.value → i.thresholds ≡ j.thresholds → i ≡ j
    same_head i j e f =
        ap (λ (v : Polyhedron). let x : HeadContent = record { value = v; thresholds = i.thresholds } in x) e ∙
        ap (λ (g : List LinearRow). let x : HeadContent = record { value = j.value; thresholds = g } in x) f

-- every definition allows one polyhedron, or one head
pub polyhedron_single : SingleLaws polyhedron_abstraction
polyhedron_single = record {
  one_top = λ n cap p q is so. one_of n (Con []) p q is so;
  one_bottom = λ n cap p q is so. one_without n p q is so;
  one_transferred = λ step p q r is so. one_of (dims_after step p.dims) (reached step p) q r is so;
  one_joined = λ a b p q is so. one_of a.dims (hull_of a b) p q is so;
  one_started = λ p given g h e f. e ∙ sym f;
  one_grown = one_growth;
  one_valued = λ h p q e f. e ∙ sym f;
}

-- going back allows one polyhedron, too
pub polyhedron_backward_single : SingleBackward polyhedron_backward
polyhedron_backward_single = record {
  one_pre = one_undone;
  one_met = λ p q r t is so. one_of p.dims (Meet (Con p.rows) (Con q.rows)) r t is so;
}
  where
    one_undone : (step : Action) (p q r : Polyhedron) → IsPre step p q → IsPre step p r → q ≡ r
    one_undone (assign x e) p q r is so = one_of p.dims (Preimage (suc x) (form_row e) (Con p.rows)) q r is so
    one_undone (forget x) p q r is so = absurd is
    one_undone (test kind e) p q r is so =
        one_of (dims_after (test kind e) p.dims) (reached (test kind e) p) q r is so
    one_undone (embed k) p q r is so = absurd is
    one_undone (remove_last k) p q r is so = absurd is

pub polyhedron_base : BaseLaws polyhedron_abstraction
polyhedron_base = record {
  one_part = one_part;
  one_top = λ n c d p q is so. polyhedron_unique n (Con []) (Con []) p q (λ x i k. k, λ x i k. k) is so;
  one_joined = λ a b p q is so. polyhedron_unique a.dims (hull_of a b) (hull_of a b) p q (λ x i k. k, λ x i k. k) is so;
  one_started = λ p given g h e f. e ∙ sym f;
  one_valued = λ h p q e f. e ∙ sym f;
  leq_reflexive = covered_refl;
  leq_transitive = covered_trans;
  included_leq = λ a b. (λ c. c, λ c. c);
  partless_leq = λ a b c e. c.partless e;
  joined_covered = joined_covered;
  stays_covered = λ h a b mode u c. covered_trans a b h.value u c;
  stays_joined = λ h a b j mode is u c. joined_covered a b j h.value is u c;
  stays_value = λ h p mode e. same_covered p h.value e;
  stays_started = λ h p given mode e. same_covered p h.value (sym (ap (λ k. k.value) e));
  started_formed = λ h p given e fine. subst (λ (k : HeadContent). IsRepresentable k.value) e fine.0;
  universal_filled = λ n cap p is e. partless_has p e (replicate n (pos 0))
      (universal_has n cap p is (replicate n (pos 0)) (length-replicate n (pos 0)));
  started_stores = λ h p given e. covered_has h.value p (same_covered h.value p (ap (λ k. k.value) e));
  rank_first = λ h. refl;
}
