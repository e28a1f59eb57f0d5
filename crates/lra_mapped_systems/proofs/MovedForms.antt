-- A canonical description under a linear map that can be inverted, made canonical again: an echelon form of the mapped
-- lines, and the mapped rays reduced by it.
use Rattle.std.proofs.Common.{◌≡◌, ℕ, List, [], ◌∷◌, ◌++◌, length, map, drop, get_or, ap, refl, sym, ◌∙◌, subst, ℤ, pos, neg_ℤ, ◌+ℤ◌, ◌*ℤ◌, arith, inl, inr}
use Rattle.std.proofs.{lemmas.List.map-append, lemmas.List.Elements.Contains-append_cases, lemmas.List.Elements.Contains-append_left}
use Rattle.std.specs.List.{Contains}
use Rattle.lra_mapped_systems.specs.Crates.lra_linear_spec.Cones.{Generated, all_rows, both_ways}
use Rattle.lra_mapped_systems.specs.Crates.lra_linear_spec.Echelon.{IsEchelon, IsEchelonOf, Spanned, pivot}
use Rattle.lra_mapped_systems.specs.Crates.lra_linear_spec.Vectors.{entry, negated, signed_sum}
use Rattle.lra_mapped_systems.specs.Crates.{lra_canonical.Reduced.IsAlong, lra_canonical.Reduced.IsReducedBy, lra_linear_spec.Canonical.IsCanonical}
use Rattle.lra_mapped_systems.proofs.Crates.lra_linear_spec.Combinations.{generated_divided, generated_plus, generated_row, generated_same, generated_times, generated_zero}
use Rattle.lra_mapped_systems.proofs.Crates.lra_linear_spec.Membership.{contains_cases, contains_head, contains_middle, contains_none, contains_split, contains_tail, map_from}
use Rattle.lra_mapped_systems.proofs.Crates.lra_linear_spec.Ring.{ring, v, ⊖, ◌⊕◌, ◌⊗◌}
use Rattle.lra_mapped_systems.proofs.Crates.{lra_linear_spec.CanonicalForms.spanned_in_cone, lra_linear_spec.CanonicalForms.spanned_negative, lra_linear_spec.Lines.signed_from}
use Rattle.lra_mapped_systems.proofs.Crates.{lra_linear_spec.Pivots.pivot_is, lra_linear_spec.Products.entry_negated, lra_linear_spec.Spans.spanned_row, lra_linear_spec.Spans.spanned_same}
use Rattle.lra_description_pair.specs.OwnLists.{AreReducedBy}
use Rattle.lra_description_pair.proofs.TightRows.{reduced_from}
use Rattle.lra_mapped_systems.proofs.Sums.{IsLinear, generated_linear, linear_times}

-- the rows m r are those of a linear map f, and g takes its vectors back
pub record IsReversible (f g : (ℕ → ℤ) → ℕ → ℤ) (m : List ℤ → List ℤ) (width : ℕ) : Type 0 where
  pub linear : IsLinear f
  pub back_linear : IsLinear g
  pub entries : (r : List ℤ) → length r ≡ width → (j : ℕ) → entry (m r) j ≡ f (entry r) j
  pub back : (u : ℕ → ℤ) (j : ℕ) → g (f u) j ≡ u j

-- ---- rows row by row
-- what stands beside a split
pub record Beside (form : List (List ℤ)) (rows front : List (List ℤ)) (t : List ℤ) (back : List (List ℤ)) : Type 0 where
  pub earlier : List (List ℤ)
  pub row : List ℤ
  pub later : List (List ℤ)
  pub is : rows ≡ earlier ++ row ∷ later
  pub front_reduced : AreReducedBy form earlier front
  pub reduced : IsReducedBy form row t
  pub back_reduced : AreReducedBy form later back

beside : (form rows front : List (List ℤ)) (t : List ℤ) (back : List (List ℤ)) → AreReducedBy form rows (front ++ t ∷ back) → Beside form rows front t back
beside form [] [] t back a = absurd a
beside form [] (x ∷ front) t back a = absurd a
beside form (r ∷ rows) [] t back a = record { earlier = []; row = r; later = rows; is = refl; front_reduced = tt; reduced = a.0; back_reduced = a.1 }
beside form (r ∷ rows) (x ∷ front) t back a =
    let i = beside form rows front t back a.1 in
    record {
      earlier = r ∷ i.earlier;
      row = i.row;
      later = i.later;
      is = ap (λ (l : List (List ℤ)). r ∷ l) i.is;
      front_reduced = (a.0, i.front_reduced);
      reduced = i.reduced;
      back_reduced = i.back_reduced;
    }

-- ---- mapped back
signed_mapped : (f : (ℕ → ℤ) → ℕ → ℤ) → IsLinear f → (m : List ℤ → List ℤ) (zs : List ℤ) (rows : List (List ℤ)) →
    ((r : List ℤ) → Contains rows r → (j : ℕ) → entry (m r) j ≡ f (entry r) j) → (j : ℕ) → signed_sum zs (map m rows) j ≡ f (signed_sum zs rows) j
signed_mapped f l m [] rows is j = sym (l.nothing j)
signed_mapped f l m (a ∷ zs) [] is j = sym (l.nothing j)
signed_mapped f l m (a ∷ zs) (r ∷ rows) is j =
    ap (λ (z : ℤ). (a *ℤ z) +ℤ signed_sum zs (map m rows) j) (is r (contains_head r rows) j)
    ∙ ap (λ (z : ℤ). (a *ℤ f (entry r) j) +ℤ z) (signed_mapped f l m zs rows (λ t k. is t (contains_tail r t rows k)) j)
    ∙ sym (l.plus a (entry r) (signed_sum zs rows) j)

spanned_back : (f g : (ℕ → ℤ) → ℕ → ℤ) (m : List ℤ → List ℤ) (w : ℕ) (lines : List (List ℤ)) (u : ℕ → ℤ) → IsReversible f g m w → ((t : List ℤ) → Contains lines t → length t ≡ w) →
    Spanned (map m lines) u → Spanned lines (g u)
spanned_back f g m w lines u h widths s = record {
  multiple = s.multiple;
  positive = s.positive;
  factors = s.factors;
  is_sum = λ j. sym (linear_times g h.back_linear (pos s.multiple) u j) ∙
      h.back_linear.same (λ i. pos s.multiple *ℤ u i) (f (signed_sum s.factors lines))
      (λ i. s.is_sum i ∙ signed_mapped f h.linear m s.factors lines (λ r k. h.entries r (widths r k)) i) j ∙
      h.back (signed_sum s.factors lines) j;
}

-- the span of the lines, mapped back into a cone that holds them in both directions
line_back : (f g : (ℕ → ℤ) → ℕ → ℤ) (m : List ℤ → List ℤ) (w : ℕ) (lines form target : List (List ℤ)) → IsReversible f g m w → ((t : List ℤ) → Contains lines t → length t ≡ w) →
    IsEchelonOf form (map m lines) → (u : ℕ → ℤ) → Spanned form u → Generated (all_rows lines target) (g u)
line_back f g m w lines form target h widths is u s = spanned_in_cone lines target (g u) (spanned_back f g m w lines u h widths ((is.same u).0 s))

-- a reduced row mapped back is a multiple of the row it came from, and of the lines
along_back : (f g : (ℕ → ℤ) → ℕ → ℤ) (m : List ℤ → List ℤ) (w : ℕ) (form : List (List ℤ)) (r t : List ℤ) → IsReversible f g m w → length r ≡ w → (a : IsAlong form (m r) t) → (j : ℕ) →
    pos a.times *ℤ g (entry t) j ≡ (pos a.other *ℤ entry r j) +ℤ g a.line j
along_back f g m w form r t h width a j =
    sym (linear_times g h.back_linear (pos a.times) (entry t) j)
    ∙ h.back_linear.same (λ i. pos a.times *ℤ entry t i) (λ i. (pos a.other *ℤ f (entry r) i) +ℤ a.line i)
    (λ i. a.is_sum i ∙ ap (λ (z : ℤ). (pos a.other *ℤ z) +ℤ a.line i) (h.entries r width i)) j
    ∙ h.back_linear.plus (pos a.other) (f (entry r)) a.line j
    ∙ ap (λ (z : ℤ). (pos a.other *ℤ z) +ℤ g a.line j) (h.back (entry r) j)

-- what a description is moved by
pub record IsMoved (f g : (ℕ → ℤ) → ℕ → ℤ) (m : List ℤ → List ℤ) (w : ℕ) (lines form : List (List ℤ)) : Type 0 where
  pub reversible : IsReversible f g m w
  pub widths : (t : List ℤ) → Contains lines t → length t ≡ w
  pub is_form : IsEchelonOf form (map m lines)

row_back : (f g : (ℕ → ℤ) → ℕ → ℤ) (m : List ℤ → List ℤ) (w : ℕ) (lines form target : List (List ℤ)) (r t : List ℤ) → IsMoved f g m w lines form → length r ≡ w → Contains target r →
    IsReducedBy form (m r) t → Generated (all_rows lines target) (g (entry t))
row_back f g m w lines form target r t h width k x =
    let a = x.along in
    let all = all_rows lines target in
    generated_divided all a.times (g (entry t)) a.positive
    (generated_same all (λ j. (pos a.other *ℤ entry r j) +ℤ g a.line j) (λ j. pos a.times *ℤ g (entry t) j)
    (λ j. sym (along_back f g m w form r t h.reversible width a j))
    (generated_plus all (λ j. pos a.other *ℤ entry r j) (g a.line)
    (generated_times all a.other (entry r) (generated_row all r (Contains-append_left target (both_ways lines) r k)))
    (line_back f g m w lines form target h.reversible h.widths h.is_form a.line a.on_line)))

pub linear_minus : (g : (ℕ → ℤ) → ℕ → ℤ) → IsLinear g → (u : ℕ → ℤ) (j : ℕ) → g (λ i. neg_ℤ (u i)) j ≡ neg_ℤ (g u j)
linear_minus g l u j = l.same (λ i. neg_ℤ (u i)) (λ i. neg_ℤ (pos 1) *ℤ u i) (λ i. ring (⊖ (v (u i))) (⊖ (v (pos 1)) ⊗ v (u i)) (omega arith)) j ∙
    linear_times g l (neg_ℤ (pos 1)) u j ∙ ring (⊖ (v (pos 1)) ⊗ v (g u j)) (⊖ (v (g u j))) (omega arith)

-- and back again
from_back : (f g : (ℕ → ℤ) → ℕ → ℤ) (m : List ℤ → List ℤ) (w : ℕ) (lines form target : List (List ℤ)) (r t : List ℤ) → IsMoved f g m w lines form → length r ≡ w →
    IsReducedBy form (m r) t → Generated (all_rows lines target) (g (entry t)) → Generated (all_rows lines target) (entry r)
from_back f g m w lines form target r t h width x given =
    let a = x.along in
    let all = all_rows lines target in
    generated_divided all a.other (entry r) a.other_positive
    (generated_same all (λ j. (pos a.times *ℤ g (entry t) j) +ℤ g (λ i. neg_ℤ (a.line i)) j) (λ j. pos a.other *ℤ entry r j)
    (λ j. ap (λ (z : ℤ). z +ℤ g (λ i. neg_ℤ (a.line i)) j) (along_back f g m w form r t h.reversible width a j) ∙
    ap (λ (z : ℤ). ((pos a.other *ℤ entry r j) +ℤ g a.line j) +ℤ z) (linear_minus g h.reversible.back_linear a.line j) ∙
    ring (v (pos a.other) ⊗ v (entry r j) ⊕ v (g a.line j) ⊕ ⊖ (v (g a.line j))) (v (pos a.other) ⊗ v (entry r j)) (omega arith))
    (generated_plus all (λ j. pos a.times *ℤ g (entry t) j) (g (λ i. neg_ℤ (a.line i)))
    (generated_times all a.times (g (entry t)) given)
    (line_back f g m w lines form target h.reversible h.widths h.is_form (λ i. neg_ℤ (a.line i)) (spanned_negative form a.line a.on_line))))

opposite_back : (f g : (ℕ → ℤ) → ℕ → ℤ) (m : List ℤ → List ℤ) (w : ℕ) (lines form target : List (List ℤ)) (r t : List ℤ) → IsMoved f g m w lines form → length r ≡ w →
    IsReducedBy form (m r) t → Generated (all_rows lines target) (g (λ j. neg_ℤ (entry t j))) → Generated (all_rows lines target) (λ j. neg_ℤ (entry r j))
opposite_back f g m w lines form target r t h width x given =
    let a = x.along in
    let all = all_rows lines target in
    generated_divided all a.other (λ j. neg_ℤ (entry r j)) a.other_positive
    (generated_same all (λ j. (pos a.times *ℤ g (λ i. neg_ℤ (entry t i)) j) +ℤ g a.line j) (λ j. pos a.other *ℤ neg_ℤ (entry r j))
    (λ j. ap (λ (z : ℤ). (pos a.times *ℤ z) +ℤ g a.line j) (linear_minus g h.reversible.back_linear (entry t) j) ∙
    ring (v (pos a.times) ⊗ ⊖ (v (g (entry t) j)) ⊕ v (g a.line j)) (⊖ (v (pos a.times) ⊗ v (g (entry t) j)) ⊕ v (g a.line j)) (omega arith) ∙
    ap (λ (z : ℤ). neg_ℤ z +ℤ g a.line j) (along_back f g m w form r t h.reversible width a j) ∙
    ring (⊖ (v (pos a.other) ⊗ v (entry r j) ⊕ v (g a.line j)) ⊕ v (g a.line j)) (v (pos a.other) ⊗ ⊖ (v (entry r j))) (omega arith))
    (generated_plus all (λ j. pos a.times *ℤ g (λ i. neg_ℤ (entry t i)) j) (g a.line)
    (generated_times all a.times (g (λ i. neg_ℤ (entry t i))) given)
    (line_back f g m w lines form target h.reversible h.widths h.is_form a.line a.on_line)))

-- the cone of the new description, mapped back, is that of the old one
cone_back : (f g : (ℕ → ℤ) → ℕ → ℤ) (m : List ℤ → List ℤ) (w : ℕ) (lines form rays ts : List (List ℤ)) (u : ℕ → ℤ) → IsMoved f g m w lines form → ((t : List ℤ) → Contains rays t → length t ≡ w) →
    AreReducedBy form (map m rays) ts → Generated (all_rows form ts) u → Generated (all_rows lines rays) (g u)
cone_back f g m w lines form rays ts u h widths are x = generated_linear g h.reversible.back_linear (all_rows form ts) (all_rows lines rays) u
    (λ t k. elim (Contains-append_cases ts (both_ways form) t k) [
      | inl a ↦ let i = reduced_from form (map m rays) ts are t a in let j = map_from m rays i.0 i.1 in
          row_back f g m w lines form rays j.0 t h (widths j.0 j.1) j.1 (subst (λ (y : List ℤ). IsReducedBy form y t) (sym j.2) i.2)
      | inr a ↦ let l = signed_from form t a in
          line_back f g m w lines form rays h.reversible h.widths h.is_form (entry t) (elim l.sign [
            | inl e ↦ subst (λ (y : List ℤ). Spanned form (entry y)) (sym e) (spanned_row form l.line l.has)
            | inr e ↦ subst (λ (y : List ℤ). Spanned form (entry y)) (sym e) (spanned_same form (λ j. neg_ℤ (entry l.line j)) (entry (negated l.line)) (λ j. sym (entry_negated l.line j))
                (spanned_negative form (entry l.line) (spanned_row form l.line l.has)))
          ])
    ]) x

-- ---- canonical again
pivot_line : (form : List (List ℤ)) (ps : List ℕ) (q : ℕ) → IsEchelon form ps → Contains ps q → (line : List ℤ) × Contains form line × (pivot line ≡ q)
pivot_line [] [] q e k = absurd (contains_none q k)
pivot_line [] (p ∷ ps) q e k = absurd e
pivot_line (r ∷ form) [] q e k = absurd e
pivot_line (r ∷ form) (p ∷ ps) q e k = elim (contains_cases p q ps k) [
  | inl i ↦ (r, contains_head r form, pivot_is r p e.0 ∙ i)
  | inr n ↦ let i = pivot_line form ps q e.4 n in (i.0, contains_tail r i.0 form i.1, i.2)
]

head_same : (x y : List ℤ) (xs ys : List (List ℤ)) → x ∷ xs ≡ y ∷ ys → x ≡ y
head_same x y xs ys e = ap (λ (l : List (List ℤ)). get_or l 0 []) e

tail_same : (x y : List ℤ) (xs ys : List (List ℤ)) → x ∷ xs ≡ y ∷ ys → xs ≡ ys
tail_same x y xs ys e = ap (λ (l : List (List ℤ)). drop 1 l) e

split_map : (m : List ℤ → List ℤ) (rows earlier : List (List ℤ)) (t : List ℤ) (later : List (List ℤ)) → map m rows ≡ earlier ++ t ∷ later →
    (front : List (List ℤ)) × (r : List ℤ) × (back : List (List ℤ)) × (rows ≡ front ++ r ∷ back) × (map m front ≡ earlier) × (m r ≡ t) × (map m back ≡ later)
split_map m [] [] t later e = cc
split_map m [] (x ∷ earlier) t later e = cc
split_map m (r ∷ rows) [] t later e = ([], r, rows, refl, refl, head_same (m r) t (map m rows) later e, tail_same (m r) t (map m rows) later e)
split_map m (r ∷ rows) (x ∷ earlier) t later e =
    let i = split_map m rows earlier t later (tail_same (m r) x (map m rows) (earlier ++ t ∷ later) e) in (
      r ∷ i.0,
      i.1,
      i.2,
      ap (λ (l : List (List ℤ)). r ∷ l) i.3,
      ap (λ (l : List (List ℤ)). m r ∷ l) i.4 ∙
          ap (λ (y : List ℤ). y ∷ earlier) (head_same (m r) x (map m rows) (earlier ++ t ∷ later) e),
      i.5,
      i.6,
    )

reduced_joined : (form rows xs more ys : List (List ℤ)) → AreReducedBy form rows xs → AreReducedBy form more ys → AreReducedBy form (rows ++ more) (xs ++ ys)
reduced_joined form [] [] more ys a b = b
reduced_joined form [] (x ∷ xs) more ys a b = absurd a
reduced_joined form (r ∷ rows) [] more ys a b = absurd a
reduced_joined form (r ∷ rows) (x ∷ xs) more ys a b = (a.0, reduced_joined form rows xs more ys a.1 b)

-- the new description is canonical
pub canonical_moved : (f g : (ℕ → ℤ) → ℕ → ℤ) (m : List ℤ → List ℤ) (w : ℕ) (lines rays form ts : List (List ℤ)) → IsMoved f g m w lines form →
    ((t : List ℤ) → Contains rays t → length t ≡ w) → IsCanonical lines rays → AreReducedBy form (map m rays) ts → IsCanonical form ts
canonical_moved f g m w lines rays form ts h widths c are = record {
  pivots = h.is_form.pivots;
  echelon = h.is_form.echelon;
  reduced = λ t k q n. let i = reduced_from form (map m rays) ts are t k in let l = pivot_line form h.is_form.pivots q h.is_form.echelon n in
      ap (entry t) (sym l.2) ∙ i.2.zeros l.0 l.1;
  lowest = λ t k. let i = reduced_from form (map m rays) ts are t k in elim i.2.lowest [ inl p ↦ p | inr z ↦ absurd (not_zero t k z) ];
  needed = needed;
  pointed = λ t k x. let i = reduced_from form (map m rays) ts are t k in let j = map_from m rays i.0 i.1 in
      c.pointed j.0 j.1 (opposite_back f g m w lines form rays j.0 t h (widths j.0 j.1) (subst (λ (y : List ℤ). IsReducedBy form y t) (sym j.2) i.2)
      (cone_back f g m w lines form rays ts (λ j. neg_ℤ (entry t j)) h widths are x));
}
  where
    -- mapped back, a ray that the others hold would be held by the others
    held : (front : List (List ℤ)) (t : List ℤ) (back : List (List ℤ)) → ts ≡ front ++ t ∷ back →
        ((others : List (List ℤ)) → ((r : List ℤ) → Contains others r → length r ≡ w) → AreReducedBy form (map m others) (front ++ back) → Generated (all_rows lines others) (g (entry t))) → ⊥
    held front t back e x =
        let b = beside form (map m rays) front t back (subst (AreReducedBy form (map m rays)) e are) in
        let i = split_map m rays b.earlier b.row b.later b.is in
        let others = i.0 ++ i.2 in
        let wide : (r : List ℤ) → Contains others r → length r ≡ w = λ r k. widths r (subst (λ (l : List (List ℤ)). Contains l r) (sym i.3)
        (contains_middle i.0 i.1 i.2 r (contains_tail i.1 r others k))) in
        let width : length i.1 ≡ w = widths i.1 (subst (λ (l : List (List ℤ)). Contains l i.1) (sym i.3) (contains_middle i.0 i.1 i.2 i.1 (contains_head i.1 others))) in
        let joined : AreReducedBy form (map m others) (front ++ back) = subst (λ (l : List (List ℤ)). AreReducedBy form l (front ++ back)) (sym (map-append m i.0 i.2))
        (reduced_joined form (map m i.0) front (map m i.2) back (subst (λ (l : List (List ℤ)). AreReducedBy form l front) (sym i.4) b.front_reduced)
        (subst (λ (l : List (List ℤ)). AreReducedBy form l back) (sym i.6) b.back_reduced)) in
        c.needed i.0 i.1 i.2 i.3 (from_back f g m w lines form others i.1 t h width (subst (λ (y : List ℤ). IsReducedBy form y t) (sym i.5) b.reduced) (x others wide joined))

    needed : (front : List (List ℤ)) (t : List ℤ) (back : List (List ℤ)) → ts ≡ front ++ t ∷ back → ¬ (Generated (all_rows form (front ++ back)) (entry t))
    needed front t back e x = held front t back e (λ others wide joined. cone_back f g m w lines form others (front ++ back) (entry t) h wide joined x)

    not_zero : (t : List ℤ) → Contains ts t → ((j : ℕ) → entry t j ≡ pos 0) → ⊥
    not_zero t k z =
        let s = contains_split ts t k in
        held s.front t s.back s.is (λ others wide joined.
        generated_same (all_rows lines others) (λ j. pos 0) (g (entry t))
        (λ j. sym (h.reversible.back_linear.same (entry t) (λ i. pos 0) z j ∙ h.reversible.back_linear.nothing j)) (generated_zero (all_rows lines others)))
