-- The positivity row, moved: it stays as it is, and the moved equalities don't change it.
use Rattle.std.proofs.Common.{◌≡◌, ◌≢◌, ℕ, zero, suc, ◌<◌, List, [], ◌∷◌, length, ap, refl, sym, ◌∙◌, subst, ℤ, pos, neg_ℤ, ◌+ℤ◌, ◌*ℤ◌, ◌<ℤ◌, ◌≤ℤ◌, arith, inl, inr}
use Rattle.std.proofs.lemmas.Bool.{cases_eq}
use Rattle.std.specs.List.{Contains}
use Rattle.lra_poly_images.specs.Crates.lra_linear_spec.Echelon.{IsEchelonOf, pivot}
use Rattle.lra_poly_images.specs.Crates.lra_linear_spec.Vectors.{dot, entry, product, substituted}
use Rattle.lra_poly_images.specs.Crates.{lra_canonical.Reduced.IsReducedBy, lra_linear_spec.Cones.AreDual, lra_linear_spec.Cones.all_rows, lra_linear_spec.Polyhedra.positivity}
use Rattle.lra_poly_images.proofs.Crates.lra_linear_spec.Signs.{between_opposites, not_both, times_positive}
use Rattle.lra_poly_images.proofs.Crates.{lra_canonical.Extension.member_leads, lra_linear_spec.CanonicalForms.spanned_in_cone, lra_linear_spec.CanonicalForms.spanned_negative}
use Rattle.lra_poly_images.proofs.Crates.{lra_linear_spec.LinearMaps.generated_nonneg, lra_linear_spec.Lines.entry_zeros, lra_linear_spec.Lines.zeros_length, lra_linear_spec.LowestTerms.primitive_at}
use Rattle.lra_poly_images.proofs.Crates.{lra_linear_spec.Products.dot_minus, lra_linear_spec.Products.product_comm, lra_linear_spec.Products.row_same, lra_linear_spec.Ring.ring}
use Rattle.lra_poly_images.proofs.Crates.{lra_linear_spec.Ring.v, lra_linear_spec.Ring.◌⊕◌, lra_linear_spec.Ring.◌⊗◌, lra_linear_spec.Spans.spanned_row, lra_linear_spec.Spans.spanned_zero}
use Rattle.lra_mapped_systems.proofs.{Assigning.put, TakenBack.put_at, TakenBack.put_other, TakenBack.substituted_entry, TakenBack.substituted_width}

positivity_entry : (n j : ℕ) → 0 < j → entry (positivity n) j ≡ pos 0
positivity_entry n zero h = absurd (omega (arith, h))
positivity_entry n (suc j) h = entry_zeros n j

pub positivity_width : (n : ℕ) → length (positivity n) ≡ suc n
positivity_width n = ap suc (zeros_length n)

pub positivity_stays : (k n : ℕ) (g : List ℤ) → 0 < k → k < suc n → length g ≡ suc n → substituted k g (positivity n) ≡ positivity n
positivity_stays k n g above low l =
    let wide = positivity_width n in
    row_same (substituted k g (positivity n)) (positivity n) (substituted_width k g (positivity n) (wide ∙ sym l))
    (λ j. substituted_entry k g (positivity n) (omega (arith, wide, low)) (wide ∙ sym l) j ∙
    ap (λ (z : ℤ). put k (pos 0) (entry (positivity n)) j +ℤ (z *ℤ entry g j)) (positivity_entry n k above) ∙
    elim (cases_eq j k) [
      | inl e ↦ ap (λ (z : ℤ). z +ℤ (pos 0 *ℤ entry g j)) (subst (λ (i : ℕ). put k (pos 0) (entry (positivity n)) i ≡ pos 0) (sym e) (put_at k (pos 0) (entry (positivity n)))) ∙
          ring (v (pos 0) ⊕ v (pos 0) ⊗ v (entry g j)) (v (pos 0)) (omega arith) ∙ sym (subst (λ (i : ℕ). entry (positivity n) i ≡ pos 0) (sym e) (positivity_entry n k above))
      | inr o ↦ ap (λ (z : ℤ). z +ℤ (pos 0 *ℤ entry g j)) (put_other k (pos 0) (entry (positivity n)) j o) ∙
          ring (v (entry (positivity n) j) ⊕ v (pos 0) ⊗ v (entry g j)) (v (entry (positivity n) j)) (omega arith)
    ])

-- a row whose other columns are 0
product_first : (t r : List ℤ) → ((j : ℕ) → 0 < j → entry r j ≡ pos 0) → product t r ≡ entry t 0 *ℤ entry r 0
product_first [] r h = ring (v (pos 0)) (v (pos 0) ⊗ v (entry r 0)) (omega arith)
product_first (x ∷ t) r h = ap (λ (z : ℤ). (x *ℤ entry r 0) +ℤ z) (none t (λ j. entry r (suc j)) (λ j. h (suc j) (omega arith))) ∙
    ring (v x ⊗ v (entry r 0) ⊕ v (pos 0)) (v x ⊗ v (entry r 0)) (omega arith)
  where
    none : (t : List ℤ) (u : ℕ → ℤ) → ((j : ℕ) → u j ≡ pos 0) → dot t u ≡ pos 0
    none [] u z = refl
    none (y ∷ t) u z = ap (λ (a : ℤ). (y *ℤ a) +ℤ dot t (λ j. u (suc j))) (z 0) ∙ ap (λ (a : ℤ). (y *ℤ pos 0) +ℤ a) (none t (λ j. u (suc j)) (λ j. z (suc j))) ∙
        ring (v y ⊗ v (pos 0) ⊕ v (pos 0)) (v (pos 0)) (omega arith)

-- equalities that hold at a point have no pivot in column 0
pub pivots_above : (w : ℕ) (eqs facets rows form : List (List ℤ)) (t : List ℤ) → AreDual w (all_rows eqs facets) rows → IsEchelonOf form eqs → Contains rows t → pos 0 <ℤ entry t 0 →
    (line : List ℤ) → Contains form line → pivot line ≢ 0
pivots_above w eqs facets rows form t d is k above line m e =
    let leads = member_leads form is.pivots is.echelon line m in
    let rest : (j : ℕ) → 0 < j → entry line j ≡ pos 0 = λ j h. leads.before j (h, inr e) in
    let here : pos 0 <ℤ entry line 0 = subst (λ (i : ℕ). pos 0 <ℤ entry line i) e leads.here in
    let spanned = (is.same (entry line)).0 (spanned_row form line m) in
    let one = generated_nonneg t (all_rows eqs facets) (entry line) (λ c i. subst (λ (z : ℤ). pos 0 ≤ℤ z) (product_comm c t) (d.meets t k c i)) (spanned_in_cone eqs facets (entry line) spanned) in
    let other = generated_nonneg t (all_rows eqs facets) (λ j. neg_ℤ (entry line j)) (λ c i. subst (λ (z : ℤ). pos 0 ≤ℤ z) (product_comm c t) (d.meets t k c i))
    (spanned_in_cone eqs facets (λ j. neg_ℤ (entry line j)) (spanned_negative eqs (entry line) spanned)) in
    never (entry t 0) (entry line 0) above here (sym (product_first t line rest) ∙ between_opposites (product t line) (dot t (λ j. neg_ℤ (entry line j))) (dot_minus t (entry line)) one other)
  where
    never : (a b : ℤ) → pos 0 <ℤ a → pos 0 <ℤ b → a *ℤ b ≡ pos 0 → ⊥
    never a b h k e = not_both (a *ℤ b) (times_positive a b h k) e

pub positivity_reduced : (n : ℕ) (form : List (List ℤ)) → ((line : List ℤ) → Contains form line → pivot line ≢ 0) → IsReducedBy form (positivity n) (positivity n)
positivity_reduced n form above = record {
  same_length = refl;
  along = record {
    times = 1;
    positive = omega arith;
    other = 1;
    other_positive = omega arith;
    line = λ j. pos 0;
    on_line = spanned_zero form;
    is_sum = λ j. ring (v (pos 1) ⊗ v (entry (positivity n) j)) (v (pos 1) ⊗ v (entry (positivity n) j) ⊕ v (pos 0)) (omega arith);
  };
  zeros = λ line k. positivity_entry n (pivot line) (not_zero (pivot line) (above line k));
  lowest = inl (primitive_at (positivity n) 0 refl);
}
  where
    not_zero : (j : ℕ) → j ≢ 0 → 0 < j
    not_zero zero n = absurd (n refl)
    not_zero (suc j) n = omega arith
