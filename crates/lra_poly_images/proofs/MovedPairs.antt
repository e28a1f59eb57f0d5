-- Both descriptions of a cone, moved and made canonical again, are dual.
use Rattle.std.proofs.Common.{◌≡◌, ℕ, List, [], ◌∷◌, ◌++◌, length, map, ◌<◌, ap, refl, sym, ◌∙◌, subst, ℤ, pos, neg_ℤ, ◌+ℤ◌, ◌*ℤ◌, arith, inl, inr}
use Rattle.std.proofs.{lemmas.List.map-append, lemmas.List.Elements.Contains-append_cases, lemmas.List.Elements.Contains-append_left, lemmas.List.Elements.Contains-append_right}
use Rattle.std.specs.{List.Contains, Prelude.slice_set}
use Rattle.lra_poly_images.specs.Crates.lra_linear_spec.Cones.{AreDual, Generated, all_rows, both_ways}
use Rattle.lra_poly_images.specs.Crates.lra_linear_spec.Vectors.{entry, negated, product, substituted}
use Rattle.lra_poly_images.specs.Crates.{lra_description_pair.OwnLists.AreReducedBy, lra_linear_spec.Echelon.IsEchelonOf, lra_linear_spec.Echelon.Spanned, lra_linear_spec.SetOperations.assigned}
use Rattle.lra_poly_images.proofs.Crates.lra_description_pair.TightRows.{reduced_from, reduced_has}
use Rattle.lra_poly_images.proofs.Crates.lra_linear_spec.CanonicalForms.{spanned_in_cone, spanned_negative}
use Rattle.lra_poly_images.proofs.Crates.lra_linear_spec.Combinations.{generated_divided, generated_plus, generated_row, generated_same, generated_times}
use Rattle.lra_poly_images.proofs.Crates.lra_linear_spec.Products.{dot_negated, entry_negated, negated_length, row_same}
use Rattle.lra_poly_images.proofs.Crates.lra_linear_spec.Ring.{ring, v, ⊖, ◌⊕◌, ◌⊗◌}
use Rattle.lra_poly_images.proofs.Crates.{lra_linear_spec.Descriptions.dual_flipped, lra_linear_spec.Lines.in_lines, lra_linear_spec.Lines.signed_from, lra_linear_spec.Membership.contains_head}
use Rattle.lra_poly_images.proofs.Crates.{lra_linear_spec.Membership.contains_tail, lra_linear_spec.OneSpelling.dual_same_cone, lra_linear_spec.Spans.spanned_row, lra_linear_spec.Spans.spanned_same}
use Rattle.lra_mapped_systems.specs.Moving.{IsInverse}
use Rattle.lra_mapped_systems.proofs.TakenBack.{dual_moved, substituted_entry, substituted_width, substituting, substituting_linear}
use Rattle.lra_mapped_systems.proofs.{Assigning.set_negated, MovedForms.linear_minus}

-- a line in either direction is in the span
signed_spanned : (lines : List (List ℤ)) (t : List ℤ) → Contains (both_ways lines) t → Spanned lines (entry t)
signed_spanned lines t k =
    let l = signed_from lines t k in
    elim l.sign [
      | inl e ↦ subst (λ (y : List ℤ). Spanned lines (entry y)) (sym e) (spanned_row lines l.line l.has)
      | inr e ↦ subst (λ (y : List ℤ). Spanned lines (entry y)) (sym e) (spanned_same lines (λ j. neg_ℤ (entry l.line j)) (entry (negated l.line)) (λ j. sym (entry_negated l.line j))
          (spanned_negative lines (entry l.line) (spanned_row lines l.line l.has)))
    ]

-- the form and the reduced rows generate what the lines and the rows do
pub to_form : (lines rays form ts : List (List ℤ)) → IsEchelonOf form lines → AreReducedBy form rays ts → (t : List ℤ) → Contains (all_rows lines rays) t → Generated (all_rows form ts) (entry t)
to_form lines rays form ts is are t k = elim (Contains-append_cases rays (both_ways lines) t k) [
  | inl a ↦
      let i = reduced_has form rays ts are t a in
      let x = i.2.along in
      let all = all_rows form ts in
      generated_divided all x.other (entry t) x.other_positive
      (generated_same all (λ j. (pos x.times *ℤ entry i.0 j) +ℤ neg_ℤ (x.line j)) (λ j. pos x.other *ℤ entry t j)
      (λ j. ap (λ (z : ℤ). z +ℤ neg_ℤ (x.line j)) (x.is_sum j) ∙ ring (v (pos x.other) ⊗ v (entry t j) ⊕ v (x.line j) ⊕ ⊖ (v (x.line j))) (v (pos x.other) ⊗ v (entry t j)) (omega arith))
      (generated_plus all (λ j. pos x.times *ℤ entry i.0 j) (λ j. neg_ℤ (x.line j))
      (generated_times all x.times (entry i.0) (generated_row all i.0 (Contains-append_left ts (both_ways form) i.0 i.1)))
      (spanned_in_cone form ts (λ j. neg_ℤ (x.line j)) (spanned_negative form x.line x.on_line))))
  | inr a ↦ spanned_in_cone form ts (entry t) ((is.same (entry t)).1 (signed_spanned lines t a))
]

pub from_form : (lines rays form ts : List (List ℤ)) → IsEchelonOf form lines → AreReducedBy form rays ts → (t : List ℤ) → Contains (all_rows form ts) t → Generated (all_rows lines rays) (entry t)
from_form lines rays form ts is are t k = elim (Contains-append_cases ts (both_ways form) t k) [
  | inl a ↦
      let i = reduced_from form rays ts are t a in
      let x = i.2.along in
      let all = all_rows lines rays in
      generated_divided all x.times (entry t) x.positive
      (generated_same all (λ j. (pos x.other *ℤ entry i.0 j) +ℤ x.line j) (λ j. pos x.times *ℤ entry t j) (λ j. sym (x.is_sum j))
      (generated_plus all (λ j. pos x.other *ℤ entry i.0 j) x.line
      (generated_times all x.other (entry i.0) (generated_row all i.0 (Contains-append_left rays (both_ways lines) i.0 i.1)))
      (spanned_in_cone lines rays x.line ((is.same x.line).0 x.on_line))))
  | inr a ↦ spanned_in_cone lines rays (entry t) ((is.same (entry t)).0 (signed_spanned form t a))
]

-- rows made canonical again
pub record IsRemade (w : ℕ) (lines rays form ts : List (List ℤ)) : Type 0 where
  pub is_form : IsEchelonOf form lines
  pub are_reduced : AreReducedBy form rays ts
  pub widths : (t : List ℤ) → Contains (all_rows form ts) t → length t ≡ w

pub remade_dual : (w : ℕ) (system lines rays form ts : List (List ℤ)) → IsRemade w lines rays form ts → AreDual w system (all_rows lines rays) → AreDual w system (all_rows form ts)
remade_dual w system lines rays form ts h d =
    dual_same_cone w system (all_rows lines rays) (all_rows form ts) d h.widths (to_form lines rays form ts h.is_form h.are_reduced) (from_form lines rays form ts h.is_form h.are_reduced)

-- ---- mapped descriptions
map_both_ways : (m : List ℤ → List ℤ) (lines : List (List ℤ)) → ((r : List ℤ) → Contains lines r → m (negated r) ≡ negated (m r)) → map m (both_ways lines) ≡ both_ways (map m lines)
map_both_ways m [] n = refl
map_both_ways m (l ∷ lines) n =
    ap (λ (y : List ℤ). m l ∷ y ∷ map m (both_ways lines)) (n l (contains_head l lines)) ∙
    ap (λ (x : List (List ℤ)). m l ∷ negated (m l) ∷ x) (map_both_ways m lines (λ r k. n r (contains_tail l r lines k)))

pub map_all_rows : (m : List ℤ → List ℤ) (lines rays : List (List ℤ)) → ((r : List ℤ) → Contains lines r → m (negated r) ≡ negated (m r)) →
    map m (all_rows lines rays) ≡ all_rows (map m lines) (map m rays)
map_all_rows m lines rays n = map-append m rays (both_ways lines) ∙ ap (λ (x : List (List ℤ)). map m rays ++ x) (map_both_ways m lines n)

pub assigned_negated : (k : ℕ) (f r : List ℤ) → assigned k f (negated r) ≡ negated (assigned k f r)
assigned_negated k f r = ap (slice_set (negated r) k) (dot_negated f r) ∙ set_negated k (product f r) r

substituted_negated : (k w : ℕ) (f g r : List ℤ) → IsInverse k w f g → length r ≡ w → substituted k g (negated r) ≡ negated (substituted k g r)
substituted_negated k w f g r t l =
    row_same (substituted k g (negated r)) (negated (substituted k g r))
    (substituted_width k g (negated r) (negated_length r ∙ l ∙ sym t.back_width) ∙ negated_length r ∙ sym (substituted_width k g r (l ∙ sym t.back_width)) ∙ sym (negated_length (substituted k g r)))
    (λ j. substituted_entry k g (negated r) (low (negated r) (negated_length r ∙ l)) (negated_length r ∙ l ∙ sym t.back_width) j ∙
    (substituting_linear k g).same (entry (negated r)) (λ i. neg_ℤ (entry r i)) (entry_negated r) j ∙
    linear_minus (substituting k g) (substituting_linear k g) (entry r) j ∙
    ap neg_ℤ (sym (substituted_entry k g r (low r l) (l ∙ sym t.back_width) j)) ∙ sym (entry_negated (substituted k g r) j))
  where
    low : (r : List ℤ) → length r ≡ w → k < length r
    low r l = let a = t.column in omega (arith, l, a)

pub mapped_dual : (k w : ℕ) (f g : List ℤ) (eqs facets lines rays : List (List ℤ)) → IsInverse k w f g → AreDual w (all_rows eqs facets) (all_rows lines rays) →
    AreDual w (all_rows (map (substituted k g) eqs) (map (substituted k g) facets)) (all_rows (map (assigned k f) lines) (map (assigned k f) rays))
mapped_dual k w f g eqs facets lines rays t d =
    let wide : (t : List ℤ) → Contains eqs t → length t ≡ w = λ x m. d.system_widths x (Contains-append_right facets (both_ways eqs) x (in_lines eqs x m)) in
    subst (λ (l : List (List ℤ)). AreDual w l (all_rows (map (assigned k f) lines) (map (assigned k f) rays)))
    (map_all_rows (substituted k g) eqs facets (λ x m. substituted_negated k w f g x t (wide x m)))
    (subst (λ (l : List (List ℤ)). AreDual w (map (substituted k g) (all_rows eqs facets)) l) (map_all_rows (assigned k f) lines rays (λ x m. assigned_negated k f x))
    (dual_moved k w f g (all_rows eqs facets) (all_rows lines rays) t d))

pub moved_dual : (k w : ℕ) (f g : List ℤ) (eqs facets lines rays eqs' facets' lines' rays' : List (List ℤ)) → IsInverse k w f g → AreDual w (all_rows eqs facets) (all_rows lines rays) →
    IsRemade w (map (substituted k g) eqs) (map (substituted k g) facets) eqs' facets' → IsRemade w (map (assigned k f) lines) (map (assigned k f) rays) lines' rays' →
    AreDual w (all_rows eqs' facets') (all_rows lines' rays')
moved_dual k w f g eqs facets lines rays eqs' facets' lines' rays' t d c r =
    let system = all_rows (map (substituted k g) eqs) (map (substituted k g) facets) in
    let new = all_rows lines' rays' in
    dual_flipped w new (all_rows eqs' facets') (remade_dual w new (map (substituted k g) eqs) (map (substituted k g) facets) eqs' facets' c
    (dual_flipped w system new (remade_dual w system (map (assigned k f) lines) (map (assigned k f) rays) lines' rays' r
    (mapped_dual k w f g eqs facets lines rays t d))))
