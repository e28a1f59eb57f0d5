-- A row is added last: the system, the matrix, and the case of a line as the code makes it.
use Rattle.std.proofs.Common.{◌≡◌, ℕ, zero, suc, ◌+◌, ◌<◌, ◌≤◌, Bool, true, false, List, [], ◌∷◌, ◌++◌, length, get_or, map, take, drop, replicate, refl, ap, sym, ◌∙◌, subst, arith, pos, ℤ, ◌+ℤ◌}
use Rattle.std.proofs.Common.{◌*ℤ◌, neg_ℤ, ◌<ℤ◌, inl, inr, ◌⊎◌}
use Rattle.std.proofs.{lemmas.Bool.Decides.Decides-int_eq, lemmas.List.take-map, lemmas.List.get_or_default, lemmas.List.Elements.Contains-append_cases, lemmas.List.Elements.Contains-append_left}
use Rattle.std.specs.{List.Contains, Ordering.int_eq}
use Rattle.lra_cone.specs.Crates.lra_linear_spec.Vectors.{entry, product, negated}
use Rattle.lra_cone.specs.Crates.{lra_linear_spec.Cones.with_row, lra_linear_spec.Descriptions.LinearRow, lra_linear_spec.Descriptions.system_of, lra_linear_spec.LowestTerms.IsPrimitive}
use Rattle.lra_cone.proofs.Crates.lra_linear_spec.DoubleDescription.{Flat, Flats, LineCase}
use Rattle.lra_cone.proofs.Crates.lra_linear_spec.Membership.{contains_none, contains_cases, contains_head, contains_tail}
use Rattle.lra_cone.proofs.Crates.lra_linear_spec.Products.{dot_negated, dot_linear, dot_same, dot_scale}
use Rattle.lra_cone.proofs.Crates.lra_linear_spec.Signs.{as_nat, positive_nat, no_product, no_factor, positive_is_nonnegative}
use Rattle.lra_cone.proofs.Crates.{lra_linear_spec.FlatRows.flat_dot, lra_linear_spec.Ring.ring, lra_linear_spec.Ring.v, lra_linear_spec.Ring.⊖, lra_linear_spec.Ring.◌⊕◌, lra_linear_spec.Ring.◌⊗◌}
use Rattle.lra_double_description.specs.{Steps.IsTurned, Steps.IsFlattened, Steps.AreFlattened, Steps.AreFlatLines, Steps.AreFlatRays, Steps.lengthened_rows, declared.line_step.Across.Across}
use Rattle.lra_cone.specs.Cones.{tight_values, saturation_rows}
use Rattle.lra_cone.proofs.TightRows.{with_has, with_later, values_end}

-- ---- the system with the row at its end
pub to_end : (taken : List LinearRow) (g : LinearRow) (s : List ℤ) → Contains (with_row g.equal g.row (system_of taken)) s →
    Contains (system_of (taken ++ g ∷ [])) s
to_end [] g s m = m
to_end (x ∷ taken) g s m = elim (split g.equal g.row (system_of (x ∷ taken)) s m) [
  | inl i ↦ with_later x.equal x.row (system_of (taken ++ g ∷ [])) s (to_end taken g s (more g.equal g.row (system_of taken) s i))
  | inr i ↦ elim (split x.equal x.row (system_of taken) s i) [
    | inl j ↦ more x.equal x.row (system_of (taken ++ g ∷ [])) s j
    | inr j ↦ with_later x.equal x.row (system_of (taken ++ g ∷ [])) s (to_end taken g s (with_later g.equal g.row (system_of taken) s j))
  ]
]
  where
    split : (b : Bool) (r : List ℤ) (system : List (List ℤ)) (s : List ℤ) → Contains (with_row b r system) s → Contains (with_row b r []) s ⊎ Contains system s
    split true r system s m = Contains-append_cases (r ∷ negated r ∷ []) system s m
    split false r system s m = Contains-append_cases (r ∷ []) system s m

    more : (b : Bool) (r : List ℤ) (system : List (List ℤ)) (s : List ℤ) → Contains (with_row b r []) s → Contains (with_row b r system) s
    more true r system s m = Contains-append_left (r ∷ negated r ∷ []) system s m
    more false r system s m = Contains-append_left (r ∷ []) system s m

pub from_end : (taken : List LinearRow) (g : LinearRow) (s : List ℤ) → Contains (system_of (taken ++ g ∷ [])) s →
    Contains (with_row g.equal g.row (system_of taken)) s
from_end [] g s m = m
from_end (x ∷ taken) g s m = elim (split x.equal x.row (system_of (taken ++ g ∷ [])) s m) [
  | inl i ↦ with_later g.equal g.row (system_of (x ∷ taken)) s (more x.equal x.row (system_of taken) s i)
  | inr i ↦ elim (split g.equal g.row (system_of taken) s (from_end taken g s i)) [
    | inl j ↦ more g.equal g.row (system_of (x ∷ taken)) s j
    | inr j ↦ with_later g.equal g.row (system_of (x ∷ taken)) s (with_later x.equal x.row (system_of taken) s j)
  ]
]
  where
    split : (b : Bool) (r : List ℤ) (system : List (List ℤ)) (s : List ℤ) → Contains (with_row b r system) s → Contains (with_row b r []) s ⊎ Contains system s
    split true r system s m = Contains-append_cases (r ∷ negated r ∷ []) system s m
    split false r system s m = Contains-append_cases (r ∷ []) system s m

    more : (b : Bool) (r : List ℤ) (system : List (List ℤ)) (s : List ℤ) → Contains (with_row b r []) s → Contains (with_row b r system) s
    more true r system s m = Contains-append_left (r ∷ negated r ∷ []) system s m
    more false r system s m = Contains-append_left (r ∷ []) system s m

-- ---- the case of a line
turned_product : (c line : List ℤ) (place : ℕ) (across : Across) → IsTurned line place (product c line) across → across.product ≡ product c across.up
turned_product c line place across t = elim t.sign [
  | inl s ↦ s.2 ∙ sym (ap (product c) s.0)
  | inr s ↦ s.2 ∙ sym (ap (product c) s.0 ∙ dot_negated c line)
]

flat_of : (c : List ℤ) (line : Across) → pos 0 <ℤ line.product → line.product ≡ product c line.up → (r t : List ℤ) → IsPrimitive r → IsFlattened line (product c r) r t → Flat c line.up r t
flat_of c line above is r t p (inl x) =
    let n = as_nat line.product (positive_is_nonnegative line.product above) in
    subst (Flat c line.up r) (sym x.1)
    (record {
      times = n.0;
      positive = positive_nat line.product n.0 above n.1;
      is = λ j. ap (λ z. z *ℤ entry r j) (sym n.1 ∙ is) ∙ ring (v (product c line.up) ⊗ v (entry r j)) (v (product c line.up) ⊗ v (entry r j) ⊕ ⊖ (v (pos 0)) ⊗ v (entry line.up j)) (omega arith) ∙
          ap (λ z. (product c line.up *ℤ entry r j) +ℤ (neg_ℤ z *ℤ entry line.up j)) (sym x.0);
      lowest = inl p;
      same_length = refl;
    })
flat_of c line above is r t p (inr x) = record {
  times = x.times;
  positive = x.positive;
  is = λ j. x.is j ∙ ap (λ z. (z *ℤ entry r j) +ℤ (neg_ℤ (product c r) *ℤ entry line.up j)) is;
  lowest = x.lowest;
  same_length = x.same_length;
}

pub flats_of : (c : List ℤ) (line : Across) → pos 0 <ℤ line.product → line.product ≡ product c line.up → (rs ts : List (List ℤ)) → ((r : List ℤ) → Contains rs r → IsPrimitive r) →
    AreFlattened line (map (product c) rs) rs ts → Flats c line.up rs ts
flats_of c line above is [] [] p a = tt
flats_of c line above is [] (t ∷ ts) p a = absurd a
flats_of c line above is (r ∷ rs) [] p a = absurd a
flats_of c line above is (r ∷ rs) (t ∷ ts) p a = (flat_of c line above is r t (p r (contains_head r rs)) a.0, flats_of c line above is rs ts (λ q m. p q (contains_tail r q rs m)) a.1)

at_place : (lines : List (List ℤ)) (at : ℕ) → at < length lines → lines ≡ take at lines ++ get_or lines at [] ∷ drop (suc at) lines
at_place [] at h = absurd (omega (arith, h))
at_place (l ∷ lines) zero h = refl
at_place (l ∷ lines) (suc at) h = ap (λ (x : List (List ℤ)). l ∷ x) (at_place lines at (omega (arith, h)))

at_middle : (lines : List (List ℤ)) (at : ℕ) → at < length lines → lines ≡ take at lines ++ get_or lines at [] ∷ drop (at + 1) lines
at_middle lines at h = at_place lines at h ∙ ap (λ (n : ℕ). take at lines ++ get_or lines at [] ∷ drop n lines) (plus_one at)
  where
    plus_one : (n : ℕ) → suc n ≡ n + 1
    plus_one n = omega arith

in_front : (at : ℕ) (lines : List (List ℤ)) (r : List ℤ) → Contains (take at lines) r → Contains lines r
in_front zero lines r m = absurd (contains_none r m)
in_front (suc at) [] r m = absurd (contains_none r m)
in_front (suc at) (l ∷ lines) r m = elim (contains_cases l r (take at lines) m) [
  | inl e ↦ subst (Contains (l ∷ lines)) e (contains_head l lines)
  | inr n ↦ contains_tail l r lines
      (in_front at lines r n)
]

-- where the elements after a place stand
behind : (n : ℕ) (lines : List (List ℤ)) (r : List ℤ) → Contains (drop n lines) r → (k : ℕ) × (n ≤ k) × (k < length lines) × (get_or lines k [] ≡ r)
behind zero lines r m = (m.0, omega arith, m.1, get_or_default lines m.0 [] r m.1 ∙ m.2)
behind (suc n) [] r m = absurd (contains_none r m)
behind (suc n) (l ∷ lines) r m = let i = behind n lines r m in (suc i.0, omega (arith, i.1), omega (arith, i.2), i.3)

pub line_case : (equal : Bool) (c : List ℤ) (lines rays new_lines new_rays : List (List ℤ)) (at : ℕ) (line : Across) → at < length lines →
    IsTurned (get_or lines at []) at (product c (get_or lines at [])) line →
    ((k : ℕ) → at < k → k < length lines → product c (get_or lines k []) ≡ pos 0) → ((r : List ℤ) → Contains lines r → IsPrimitive r) → ((r : List ℤ) → Contains rays r → IsPrimitive r) →
    AreFlatLines line (map (product c) lines) lines new_lines → AreFlatRays equal line (map (product c) rays) rays new_rays → LineCase equal c lines rays new_lines new_rays
line_case equal c lines rays new_lines new_rays at line h t later pl pr fl fr =
    let is = turned_product c (get_or lines at []) at line t in
    let here : line.place ≡ at = t.is_place in
    let front : AreFlattened line (map (product c) (take at lines)) (take at lines) fl.0 =
    subst (λ (ps : List ℤ). AreFlattened line ps (take at lines) fl.0) (take-map (product c) at lines)
    (subst (λ (n : ℕ). AreFlattened line (take n (map (product c) lines)) (take n lines) fl.0) here fl.2) in
    record {
      before = take at lines;
      line = get_or lines at [];
      after = drop (at + 1) lines;
      is_lines = at_middle lines at h;
      signed = line.up;
      sign = elim t.sign [ inl s ↦ inl s.0 | inr s ↦ inr s.0 ];
      above = subst (λ z. pos 0 <ℤ z) is t.above;
      flat_after = λ k m. let i = behind (at + 1) lines k m in ap (product c) (sym i.3) ∙ later i.0 (omega (arith, i.1)) i.2;
      new_before = fl.0;
      lines_flat = flats_of c line t.above is (take at lines) fl.0 (λ r m. pl r (in_front at lines r m)) front;
      are_lines = fl.1 ∙ ap (λ (n : ℕ). fl.0 ++ drop (n + 1) lines) here;
      flat_rays = fr.0;
      rays_flat = flats_of c line t.above is rays fr.0 pr fr.2;
      are_rays = fr.1;
    }

-- ---- the matrix
pub same_test : (x y : ℤ) → (x ≡ pos 0 → y ≡ pos 0) → (y ≡ pos 0 → x ≡ pos 0) → int_eq x (pos 0) ≡ int_eq y (pos 0)
same_test x y h k = go (int_eq x (pos 0)) (int_eq y (pos 0)) refl refl
  where
    go : (a b : Bool) → int_eq x (pos 0) ≡ a → int_eq y (pos 0) ≡ b → a ≡ b
    go true true e f = refl
    go false false e f = refl
    go true false e f = absurd (let q : true ≡ false = sym ((Decides-int_eq y (pos 0)).1 (h ((Decides-int_eq x (pos 0)).0 e))) ∙ f in cc)
    go false true e f = absurd (let q : true ≡ false = sym ((Decides-int_eq x (pos 0)).1 (k ((Decides-int_eq y (pos 0)).0 f))) ∙ e in cc)

pub values_same : (taken : List LinearRow) (t r : List ℤ) → ((s : List ℤ) → Contains (system_of taken) s → (product s t ≡ pos 0 → product s r ≡ pos 0) × (product s r ≡ pos 0 → product s t ≡ pos 0)) →
    tight_values taken t ≡ tight_values taken r
values_same [] t r h = refl
values_same (g ∷ taken) t r h =
    let here = h g.row (with_has g.equal g.row (system_of taken)) in
    let first = same_test (product g.row t) (product g.row r) here.0 here.1 in
    let rest = values_same taken t r (λ s m. h s (with_later g.equal g.row (system_of taken) s m)) in
    ap (λ (b : Bool). b ∷ tight_values taken t) first ∙ ap (λ (x : List Bool). int_eq (product g.row r) (pos 0) ∷ x) rest

-- at a line all are tight
pub values_line : (taken : List LinearRow) (l : List ℤ) → ((s : List ℤ) → Contains (system_of taken) s → product s l ≡ pos 0) → tight_values taken l ≡ replicate (length taken) true
values_line [] l h = refl
values_line (g ∷ taken) l h =
    ap (λ (b : Bool). b ∷ tight_values taken l) ((Decides-int_eq (product g.row l) (pos 0)).1 (h g.row (with_has g.equal g.row (system_of taken)))) ∙
    ap (λ (x : List Bool). true ∷ x) (values_line taken l (λ s m. h s (with_later g.equal g.row (system_of taken) s m)))

flat_tight : (c l r t s : List ℤ) → Flat c l r t → pos 0 <ℤ product c l → product s l ≡ pos 0 → (product s t ≡ pos 0 → product s r ≡ pos 0) × (product s r ≡ pos 0 → product s t ≡ pos 0)
flat_tight c l r t s f above on =
    let a = product c l in
    let b = neg_ℤ (product c r) in
    let whole : pos f.times *ℤ product s t ≡ a *ℤ product s r =
    sym (dot_scale s (pos f.times) (entry t)) ∙ dot_same s (λ j. pos f.times *ℤ entry t j) (λ j. (a *ℤ entry r j) +ℤ (b *ℤ entry l j)) f.is ∙ dot_linear s a b (entry r) (entry l) ∙
    ap (λ z. (a *ℤ product s r) +ℤ (b *ℤ z)) on ∙
    ring (v a ⊗ v (product s r) ⊕ v b ⊗ v (pos 0)) (v a ⊗ v (product s r)) (omega arith) in (
      λ z. no_factor (product s r) a above (ring (v (product s r) ⊗ v a) (v a ⊗ v (product s r)) (omega arith) ∙ sym whole ∙ ap (λ y. pos f.times *ℤ y) z ∙
          ring (v (pos f.times) ⊗ v (pos 0)) (v (pos 0)) (omega arith)),
      λ z. no_product f.times (product s t) f.positive (whole ∙ ap (λ y. a *ℤ y) z ∙ ring (v a ⊗ v (pos 0)) (v (pos 0)) (omega arith)),
    )

pub flat_rows : (taken : List LinearRow) (g : LinearRow) (l : List ℤ) (rs ts : List (List ℤ)) → pos 0 <ℤ product g.row l → ((s : List ℤ) → Contains (system_of taken) s → product s l ≡ pos 0) →
    Flats g.row l rs ts →
    saturation_rows (taken ++ g ∷ []) ts ≡ lengthened_rows (saturation_rows taken rs) (replicate (length (saturation_rows taken rs)) true)
flat_rows taken g l [] [] above on f = refl
flat_rows taken g l [] (t ∷ ts) above on f = absurd f
flat_rows taken g l (r ∷ rs) [] above on f = absurd f
flat_rows taken g l (r ∷ rs) (t ∷ ts) above on f =
    let here : tight_values (taken ++ g ∷ []) t ≡ tight_values taken r ++ true ∷ [] =
    values_end taken g t ∙ ap (λ (x : List Bool). x ++ int_eq (product g.row t) (pos 0) ∷ []) (values_same taken t r (λ s m. flat_tight g.row l r t s f.0 above (on s m))) ∙
    ap (λ (b : Bool). tight_values taken r ++ b ∷ []) ((Decides-int_eq (product g.row t) (pos 0)).1 (flat_dot g.row l r t f.0)) in
    ap (λ (x : List Bool). x ∷ saturation_rows (taken ++ g ∷ []) ts) here ∙ ap (λ (x : List (List Bool)). (tight_values taken r ++ true ∷ []) ∷ x) (flat_rows taken g l rs ts above on f.1)

-- without a line across: the rays as they are
pub kept_rows : (taken : List LinearRow) (g : LinearRow) (rays : List (List ℤ)) → saturation_rows (taken ++ g ∷ []) rays ≡
    lengthened_rows (saturation_rows taken rays) (map (λ p. int_eq p (pos 0)) (map (product g.row) rays))
kept_rows taken g [] = refl
kept_rows taken g (r ∷ rays) = ap (λ (x : List Bool). x ∷ saturation_rows (taken ++ g ∷ []) rays) (values_end taken g r) ∙
    ap (λ (x : List (List Bool)). (tight_values taken r ++ int_eq (product g.row r) (pos 0) ∷ []) ∷ x) (kept_rows taken g rays)
