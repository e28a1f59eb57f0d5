-- Polyhedra keep rational points.
use Rattle.std.proofs.Common.{◌≡◌, ◌∙◌, ◌+◌, ◌-◌, ◌≤◌, ℕ, suc, ℤ, List, length, take, ap, sym, refl, subst, arith}
use Rattle.lra_inductive_sound.specs.Crates.lra_domain.Actions.{Action, ActionFits, dims_after, assign, forget, test, embed, remove_last}
use Rattle.lra_inductive_sound.specs.Crates.lra_domain.declared.Exactness.TheVariants.{Exact, Flagged}
use Rattle.lra_inductive_sound.specs.Crates.{lra_domain.Abstraction.Values, lra_domain.declared.Exactness.Exactness, lra_duality.Rows.test_row, lra_linear_spec.Descriptions.Con}
use Rattle.lra_inductive_sound.specs.Crates.{lra_linear_spec.Descriptions.Holds, lra_linear_spec.Points.IsPoint, lra_linear_spec.Points.SamePoint, lra_linear_spec.Polyhedra.Polyhedron}
use Rattle.lra_inductive_sound.proofs.Crates.lra_linear_spec.Descriptions.{con_none}
use Rattle.lra_poly_domain.specs.{Abstraction.polyhedron_abstraction, Content.HeadContent, Content.PolyhedronLeq, Covering.parts_empty, Laws.polyhedron_laws, Sets.KeepsPoints, Sets.reached}
use Rattle.lra_inductive_sound.specs.RationalPoints.{IsPointOf, LeadsPoint, MovesPoint, dimension, rational_points}
use Rattle.lra_inductive_sound.specs.{Inductive.ValuesAreInductive, Points.KeepPoints}
use Rattle.lra_inductive_sound.proofs.Programs.{values_closed}

-- where an action leads is where its set of points says
moved_reached : (step : Action) (p : Polyhedron) (x y : List ℤ) → ActionFits step p.dims → IsPoint p.dims x → Con p.rows x → MovesPoint step x y
    → reached step p y
moved_reached (assign k e) p x y fits point inside led = record { from = x; is_point = point; inside = inside; same = led }
moved_reached (forget k) p x y fits point inside led = record { from = x; is_point = point; inside = inside; same = led }
moved_reached (test kind e) p x y fits point inside led =
    subst (λ (z : List ℤ). Con p.rows z × Holds (test_row kind e) z) (sym led.0) (inside, led.1)
moved_reached (embed k) p x y fits point inside led =
    subst (λ (z : List ℤ). Con p.rows z) (sym led ∙ ap (λ (n : ℕ). take n y) point.width) inside
moved_reached (remove_last k) p x y fits point inside led = record {
  from = x;
  is_point = subst (λ (n : ℕ). IsPoint n x) (back p.dims k fits) point;
  inside = inside;
  same = subst (λ (n : ℕ). SamePoint y (take n x)) (shorter (length x) p.dims k point.width) led;
}
  where
    back : (n k : ℕ) → k ≤ n → n ≡ n - k + k
    back n k fits = omega (arith, fits)

    shorter : (l n k : ℕ) → l ≡ suc n → suc (l - 1 - k) ≡ suc (n - k)
    shorter l n k wide = omega (arith, wide)

one_less : (x : List ℤ) (n : ℕ) → length x ≡ suc n → dimension x ≡ n
one_less x n wide = omega (arith, wide)

change_keeps : (step : Action) (p r : Polyhedron) → KeepsPoints step p r → (x y : List ℤ) → IsPointOf p x → LeadsPoint step x y → IsPointOf r y
change_keeps step p r keeps x y (point, inside) (there, led) =
    let to : IsPoint (dims_after step p.dims) y =
    subst (λ (n : ℕ). IsPoint (dims_after step n) y) (one_less x p.dims point.width) there in (
      subst (λ (n : ℕ). IsPoint n y) (sym keeps.dims) to,
      keeps.within y to (moved_reached step p x y keeps.fits point inside led),
    )

covered_keeps : (p q : Polyhedron) → PolyhedronLeq p q → (x : List ℤ) → IsPointOf p x → IsPointOf q x
covered_keeps p q covers x (point, inside) = (subst (λ (n : ℕ). IsPoint n x) covers.dims point, covers.within x point inside)

-- the value of a head is its polyhedron
value_is : (h : HeadContent) (e : Exactness) (p : Polyhedron) → Values polyhedron_abstraction h e p → p ≡ h.value
value_is h Exact p is = is.exact refl
value_is h Flagged p is = absurd (is.flagged refl)

pub keep_rational_points : KeepPoints polyhedron_abstraction rational_points
keep_rational_points = record {
  begun = λ cap p fine is x point. (subst (λ (n : ℕ). IsPoint n x) (sym is.dimensions) point, is.points.0 x point (con_none x));
  changed = λ step p r fine keeps x y h led. change_keeps step p r keeps x y h led;
  covered = λ p q fine covers x h. covered_keeps p q covers x h;
  started = λ p given h is x k. subst (λ (head : HeadContent). IsPointOf head.value x) (sym is.started) k;
  old = λ h p next fine holds x k.
      let point : IsPoint next.value.dims x = subst (λ (n : ℕ). IsPoint n x) holds.dims.0 k.0 in
      (point, holds.left x point k.1);
  stays = λ h p mode fine covers x k. covered_keeps p h.value covers x k;
  valued = λ h e p is x k. subst (λ (q : Polyhedron). IsPointOf q x) (sym (value_is h e p is)) k;
  partless = λ p none x h. parts_empty p p.dims none x h.0 h.1;
}

pub polyhedra_closed : ValuesAreInductive polyhedron_abstraction rational_points
polyhedra_closed = values_closed polyhedron_abstraction rational_points polyhedron_laws keep_rational_points
