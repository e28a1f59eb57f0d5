-- The stores to which a change leads are among the points to which it leads.
use Rattle.std.proofs.Common.{◌≡◌, ◌≢◌, ◌∙◌, ◌++◌, ◌+◌, ◌-◌, ◌≤◌, ℕ, zero, suc, ℤ, pos, ◌+ℤ◌, ◌*ℤ◌, List, [], ◌∷◌}
use Rattle.std.proofs.Common.{length, take, ap, sym, refl, subst, arith}
use Rattle.std.proofs.{Math.ListN.length-set, lemmas.List.length-append}
use Rattle.std.specs.Prelude.{slice_set}
use Rattle.lra_domain.specs.Actions.{ActionFits, Action, Leads, assign, dims_after, embed, forget, remove_last, test}
use Rattle.lra_poly_domain.specs.Crates.lra_linear_forms.Form.{Form, KindHolds, form_value, form_row}
use Rattle.lra_linear_spec.specs.Descriptions.{Con, Holds, HoldsWith}
use Rattle.lra_linear_spec.specs.{Kinds.is_equality, Points.SamePoint, Polyhedra.Polyhedron, SetOperations.assigned}
use Rattle.lra_linear_spec.specs.{Vectors.entry, Vectors.product, declared.ConKind.ConKind}
use Rattle.lra_linear_spec.specs.declared.ConKind.TheVariants as con
use Rattle.lra_linear_spec.proofs.{Products.entry_set_other, Ring.ring, Ring.v, Ring.◌⊗◌}
use Rattle.lra_duality.specs.Rows.{test_row}
use Rattle.lra_poly_domain.specs.{Content.PolyhedronGamma, Covering.store_point, Sets.reached}

-- ---- lists
take_front : (s more : List ℤ) (n : ℕ) → length s ≡ n → take n (s ++ more) ≡ s
take_front [] more zero e = refl
take_front [] more (suc n) e = let wrong : ⊥ = cc in absurd wrong
take_front (x ∷ s) more zero e = let wrong : ⊥ = cc in absurd wrong
take_front (x ∷ s) more (suc n) e = ap (λ l. x ∷ l) (take_front s more n (omega (arith, e)))

take_length : (n : ℕ) (s : List ℤ) → n ≤ length s → length (take n s) ≡ n
take_length zero s h = refl
take_length (suc n) [] h = absurd (omega (arith, h))
take_length (suc n) (x ∷ s) h = ap suc (take_length n s (omega (arith, h)))

-- ---- forms at stores
pub form_product : (e : Form) (s : List ℤ) → product (form_row e) (pos 1 ∷ s) ≡ form_value e s
form_product e s =
    ap (λ z. z +ℤ product e.coefficients s) (ring (v e.constant ⊗ v (pos 1)) (v e.constant) (omega arith))

kind_holds : (kind : ConKind) (z : ℤ) → KindHolds kind z → HoldsWith (is_equality kind) z
kind_holds con.Ge z h = h
kind_holds con.Eq z h = h

same_as : (x y : List ℤ) → x ≡ y → SamePoint x y
same_as x y e j = subst (λ z. entry x j *ℤ entry z 0 ≡ entry z j *ℤ entry x 0) e refl

set_but : (x : ℕ) (s : List ℤ) (k : ℤ) (j : ℕ) → j ≢ suc x → entry (pos 1 ∷ slice_set s x k) j ≡ entry (pos 1 ∷ s) j
set_but x s k zero n = refl
set_but x s k (suc j) n = entry_set_other s x j k (λ e. n (ap suc e))

-- ---- stores that changes lead to
pub leads_reach : (step : Action) (p : Polyhedron) (s t : List ℤ) → ActionFits step p.dims → PolyhedronGamma p s →
    Leads step s t → (length t ≡ dims_after step p.dims) × reached step p (pos 1 ∷ t)
leads_reach (assign x e) p s t cuts h l = (
  ap length l ∙ length-set {A = ℤ} s x (form_value e s) ∙ h.0,
  record {
    from = pos 1 ∷ s;
    is_point = store_point p.dims s h.0;
    inside = h.1;
    same = same_as (pos 1 ∷ t) (assigned (suc x) (form_row e) (pos 1 ∷ s))
        (ap (λ y. pos 1 ∷ y) l ∙ ap (λ z. pos 1 ∷ slice_set s x z) (sym (form_product e s)));
  },
)
leads_reach (forget x) p s t cuts h l = (
  ap length l.1 ∙ length-set {A = ℤ} s x l.0 ∙ h.0,
  record {
    from = pos 1 ∷ s;
    is_point = store_point p.dims s h.0;
    inside = h.1;
    same = λ j n. ap (λ z. z *ℤ pos 1) (ap (λ y. entry (pos 1 ∷ y) j) l.1 ∙ set_but x s l.0 j n);
  },
)
leads_reach (test kind e) p s t cuts h l = (
  ap length l.1 ∙ h.0,
  subst (λ y. Con p.rows (pos 1 ∷ y) × Holds (test_row kind e) (pos 1 ∷ y)) (sym l.1)
      (h.1, subst (HoldsWith (is_equality kind)) (sym (form_product e s)) (kind_holds kind (form_value e s) l.0)),
)
leads_reach (embed k) p s t cuts h l = (
  ap length l.2 ∙ length-append s l.0 ∙ ap (λ (n : ℕ). n + length l.0) h.0 ∙ ap (λ (n : ℕ). p.dims + n) l.1,
  subst (λ y. Con p.rows (pos 1 ∷ take p.dims y)) (sym l.2)
      (subst (λ y. Con p.rows (pos 1 ∷ y)) (sym (take_front s l.0 p.dims h.0)) h.1),
)
leads_reach (remove_last k) p s t cuts h l =
    let same : t ≡ take (p.dims - k) s = l ∙ ap (λ (n : ℕ). take (n - k) s) h.0 in (
      ap length same ∙ take_length (p.dims - k) s (omega (arith, h.0)),
      record {
        from = pos 1 ∷ s;
        is_point = store_point (p.dims - k + k) s (omega (arith, h.0, cuts));
        inside = h.1;
        same = same_as (pos 1 ∷ t) (pos 1 ∷ take (p.dims - k) s) (ap (λ y. pos 1 ∷ y) same);
      },
    )
