-- Assignments of forms that can be inverted: with 1 or -1 at the coordinate. The generators of a polyhedron are mapped
-- by the form, its constraints by the form that takes it back, and both stay dual.
use Rattle.std.proofs.Common.{◌≡◌, ◌≢◌, ℕ, zero, suc, ◌<◌, List, [], ◌∷◌, length, map, ap, refl, sym, ◌∙◌, subst, ℤ, pos, negsuc, neg_ℤ, ◌+ℤ◌, ◌*ℤ◌, ◌≤ℤ◌, arith, inl, inr}
use Rattle.std.proofs.{lemmas.Bool.cases_eq, lemmas.List.length-set}
use Rattle.std.specs.Prelude.{slice_set}
use Rattle.lra_mapped_systems.specs.Crates.lra_linear_spec.Vectors.{cleared, dot, entry, negated, product, substituted}
use Rattle.lra_mapped_systems.specs.Crates.{lra_linear_spec.Cones.AreDual, lra_linear_spec.SetOperations.assigned}
use Rattle.lra_mapped_systems.proofs.Crates.lra_linear_spec.Products.{blend_length, dot_same, entry_blend, entry_negated, entry_set_other, entry_set_same, negated_length, product_comm, row_same}
use Rattle.lra_mapped_systems.proofs.Crates.{lra_linear_spec.Combinations.generated_same, lra_linear_spec.Membership.map_from, lra_linear_spec.Membership.map_has, lra_linear_spec.Ring.ring}
use Rattle.lra_mapped_systems.proofs.Crates.{lra_linear_spec.Ring.v, lra_linear_spec.Ring.⊖, lra_linear_spec.Ring.◌⊕◌, lra_linear_spec.Ring.◌⊗◌, lra_linear_spec.SetOperations.substituted_product}
use Rattle.lra_mapped_systems.specs.Moving.{IsInverse}
use Rattle.lra_mapped_systems.proofs.Assigning.{assigning, assigning_linear, put, put_nothing, put_plus, put_same, set_entry}
use Rattle.lra_mapped_systems.proofs.{MovedForms.IsReversible, Sums.IsLinear, Sums.generated_mapped}

pub put_at : (k : ℕ) (z : ℤ) (u : ℕ → ℤ) → put k z u k ≡ z
put_at zero z u = refl
put_at (suc k) z u = put_at k z (λ i. u (suc i))

pub put_other : (k : ℕ) (z : ℤ) (u : ℕ → ℤ) (j : ℕ) → j ≢ k → put k z u j ≡ u j
put_other zero z u zero n = absurd (n refl)
put_other zero z u (suc j) n = refl
put_other (suc k) z u zero n = refl
put_other (suc k) z u (suc j) n = put_other k z (λ i. u (suc i)) j (λ e. n (ap suc e))

-- the product with a vector one entry of which is put in
dot_put : (r : List ℤ) (k : ℕ) (z : ℤ) (u : ℕ → ℤ) → dot r (put k z u) ≡ dot (cleared k r) u +ℤ (entry r k *ℤ z)
dot_put [] k z u = ring (v (pos 0)) (v (pos 0) ⊕ v (pos 0) ⊗ v z) (omega arith)
dot_put (c ∷ cs) zero z u = ring (v c ⊗ v z ⊕ v (dot cs (λ j. u (suc j)))) ((v (pos 0) ⊗ v (u 0) ⊕ v (dot cs (λ j. u (suc j)))) ⊕ v c ⊗ v z) (omega arith)
dot_put (c ∷ cs) (suc k) z u =
    ap (λ (a : ℤ). (c *ℤ u 0) +ℤ a) (dot_put cs k z (λ j. u (suc j))) ∙
    ring (v c ⊗ v (u 0) ⊕ (v (dot (cleared k cs) (λ j. u (suc j))) ⊕ v (entry cs k) ⊗ v z)) ((v c ⊗ v (u 0) ⊕ v (dot (cleared k cs) (λ j. u (suc j)))) ⊕ v (entry cs k) ⊗ v z) (omega arith)

scaled_dot : (c : ℤ) (a b : List ℤ) (u : ℕ → ℤ) → length a ≡ length b → ((j : ℕ) → entry a j ≡ c *ℤ entry b j) → dot a u ≡ c *ℤ dot b u
scaled_dot c [] [] u l e = ring (v (pos 0)) (v c ⊗ v (pos 0)) (omega arith)
scaled_dot c [] (y ∷ b) u l e = absurd (omega (arith, l))
scaled_dot c (x ∷ a) [] u l e = absurd (omega (arith, l))
scaled_dot c (x ∷ a) (y ∷ b) u l e =
    ap (λ (z : ℤ). (z *ℤ u 0) +ℤ dot a (λ j. u (suc j))) (e 0) ∙ ap (λ (z : ℤ). ((c *ℤ y) *ℤ u 0) +ℤ z) (scaled_dot c a b (λ j. u (suc j)) (omega (arith, l)) (λ j. e (suc j))) ∙
    ring ((v c ⊗ v y) ⊗ v (u 0) ⊕ v c ⊗ v (dot b (λ j. u (suc j)))) (v c ⊗ (v y ⊗ v (u 0) ⊕ v (dot b (λ j. u (suc j))))) (omega arith)

pub taken_forth : (k w : ℕ) (f g : List ℤ) → IsInverse k w f g → IsInverse k w g f
taken_forth k w f g t = record {
  column = t.column;
  width = t.back_width;
  back_width = t.width;
  unit = ap (λ (z : ℤ). z *ℤ entry g k) t.same ∙ ap (λ (z : ℤ). entry f k *ℤ z) t.same ∙ t.unit;
  same = sym t.same;
  others = λ j n. ring (v (entry f j)) (v (pos 1) ⊗ v (entry f j)) (omega arith) ∙ ap (λ (z : ℤ). z *ℤ entry f j) (sym t.unit) ∙
      ring (v (entry f k) ⊗ v (entry f k) ⊗ v (entry f j)) (⊖ (v (entry f k) ⊗ ⊖ (v (entry f k) ⊗ v (entry f j)))) (omega arith) ∙
      ap (λ (z : ℤ). neg_ℤ (z *ℤ neg_ℤ (entry f k *ℤ entry f j))) (sym t.same) ∙ ap (λ (z : ℤ). neg_ℤ (entry g k *ℤ z)) (sym (t.others j n));
}

cleared_back : (k w : ℕ) (f g : List ℤ) → IsInverse k w f g → (j : ℕ) → entry (cleared k g) j ≡ neg_ℤ (entry f k) *ℤ entry (cleared k f) j
cleared_back k w f g t j = elim (cases_eq j k) [
  | inl e ↦ subst (λ (i : ℕ). entry (cleared k g) i ≡ neg_ℤ (entry f k) *ℤ entry (cleared k f) i) (sym e)
      (entry_set_same g k (pos 0) (let a = t.column in let b = t.back_width in omega (arith, a, b)) ∙ ring (v (pos 0)) (⊖ (v (entry f k)) ⊗ v (pos 0)) (omega arith) ∙
      ap (λ (z : ℤ). neg_ℤ (entry f k) *ℤ z) (sym (entry_set_same f k (pos 0) (let a = t.column in let b = t.width in omega (arith, a, b)))))
  | inr n ↦ entry_set_other g k j (pos 0) n ∙ t.others j n ∙ ring (⊖ (v (entry f k) ⊗ v (entry f j))) (⊖ (v (entry f k)) ⊗ v (entry f j)) (omega arith) ∙
      ap (λ (z : ℤ). neg_ℤ (entry f k) *ℤ z) (sym (entry_set_other f k j (pos 0) n))
]

-- the form's value, and the value of the other form there
value_back : (k w : ℕ) (f g : List ℤ) → IsInverse k w f g → (u : ℕ → ℤ) → dot g (assigning k f u) ≡ u k
value_back k w f g t u =
    let s = entry f k in
    let rest = dot (cleared k f) u in
    dot_put g k (dot f u) u ∙
    ap (λ (z : ℤ). z +ℤ (entry g k *ℤ dot f u)) (scaled_dot (neg_ℤ s) (cleared k g) (cleared k f) u
    (length-set g k (pos 0) ∙ t.back_width ∙ sym t.width ∙ sym (length-set f k (pos 0))) (cleared_back k w f g t)) ∙
    ap (λ (z : ℤ). (neg_ℤ s *ℤ rest) +ℤ (z *ℤ dot f u)) t.same ∙
    ap (λ (z : ℤ). (neg_ℤ s *ℤ rest) +ℤ (s *ℤ z)) (dot_same f u (put k (u k) u) (λ j. sym (put_itself k u j)) ∙ dot_put f k (u k) u) ∙
    ring (⊖ (v s) ⊗ v rest ⊕ v s ⊗ (v rest ⊕ v s ⊗ v (u k))) ((v s ⊗ v s) ⊗ v (u k)) (omega arith) ∙
    ap (λ (z : ℤ). z *ℤ u k) t.unit ∙ ring (v (pos 1) ⊗ v (u k)) (v (u k)) (omega arith)
  where
    put_itself : (k : ℕ) (u : ℕ → ℤ) (j : ℕ) → put k (u k) u j ≡ u j
    put_itself zero u zero = refl
    put_itself zero u (suc j) = refl
    put_itself (suc k) u zero = refl
    put_itself (suc k) u (suc j) = put_itself k (λ i. u (suc i)) j

assigned_back : (k w : ℕ) (f g : List ℤ) → IsInverse k w f g → (u : ℕ → ℤ) (j : ℕ) → assigning k g (assigning k f u) j ≡ u j
assigned_back k w f g t u j = elim (cases_eq j k) [
  | inl e ↦ subst (λ (i : ℕ). put k (dot g (assigning k f u)) (assigning k f u) i ≡ u i) (sym e) (put_at k (dot g (assigning k f u)) (assigning k f u) ∙ value_back k w f g t u)
  | inr n ↦ put_other k (dot g (assigning k f u)) (assigning k f u) j n ∙ put_other k (dot f u) u j n
]

-- the row itself
pub assigned_twice : (k w : ℕ) (f g : List ℤ) → IsInverse k w f g → (r : List ℤ) → length r ≡ w → assigned k g (assigned k f r) ≡ r
assigned_twice k w f g t r l =
    let a = t.column in
    let wide : length (assigned k f r) ≡ length r = length-set r k (product f r) in
    row_same (assigned k g (assigned k f r)) r (length-set (assigned k f r) k (product g (assigned k f r)) ∙ wide) (λ j.
    set_entry k (product g (assigned k f r)) (assigned k f r) (omega (arith, l, a, wide)) j ∙
    (assigning_linear k g).same (entry (assigned k f r)) (assigning k f (entry r)) (λ i. set_entry k (product f r) r (omega (arith, l, a)) i) j ∙ assigned_back k w f g t (entry r) j)

pub assigned_reversible : (k w : ℕ) (f g : List ℤ) → IsInverse k w f g → IsReversible (assigning k f) (assigning k g) (assigned k f) w
assigned_reversible k w f g t = record {
  linear = assigning_linear k f;
  back_linear = assigning_linear k g;
  entries = λ r l j. set_entry k (product f r) r (let a = t.column in omega (arith, l, a)) j;
  back = assigned_back k w f g t;
}

-- ---- substitution
abbrev pub substituting : ℕ → List ℤ → (ℕ → ℤ) → ℕ → ℤ
substituting k g u j = put k (pos 0) u j +ℤ (u k *ℤ entry g j)

pub substituting_linear : (k : ℕ) (g : List ℤ) → IsLinear (substituting k g)
substituting_linear k g = record {
  nothing = λ j. ap (λ (z : ℤ). z +ℤ (pos 0 *ℤ entry g j)) (put_nothing k j) ∙ ring (v (pos 0) ⊕ v (pos 0) ⊗ v (entry g j)) (v (pos 0)) (omega arith);
  plus = λ a x s j. ap (λ (z : ℤ). z +ℤ (((a *ℤ x k) +ℤ s k) *ℤ entry g j))
      (put_same k (pos 0) ((a *ℤ pos 0) +ℤ pos 0) (λ i. (a *ℤ x i) +ℤ s i) (λ i. (a *ℤ x i) +ℤ s i) (ring (v (pos 0)) (v a ⊗ v (pos 0) ⊕ v (pos 0)) (omega arith)) (λ i. refl) j ∙
      put_plus k a (pos 0) (pos 0) x s j) ∙
      ring ((v a ⊗ v (put k (pos 0) x j) ⊕ v (put k (pos 0) s j)) ⊕ (v a ⊗ v (x k) ⊕ v (s k)) ⊗ v (entry g j))
      (v a ⊗ (v (put k (pos 0) x j) ⊕ v (x k) ⊗ v (entry g j)) ⊕ (v (put k (pos 0) s j) ⊕ v (s k) ⊗ v (entry g j))) (omega arith);
  same = λ x y e j. ap (λ (z : ℤ). z +ℤ (x k *ℤ entry g j)) (put_same k (pos 0) (pos 0) x y refl e j) ∙ ap (λ (z : ℤ). put k (pos 0) y j +ℤ (z *ℤ entry g j)) (e k);
}

pub substituted_entry : (k : ℕ) (g r : List ℤ) → k < length r → length r ≡ length g → (j : ℕ) → entry (substituted k g r) j ≡ substituting k g (entry r) j
substituted_entry k g r h l j =
    entry_blend (pos 1) (entry r k) (cleared k r) g (length-set r k (pos 0) ∙ l) j ∙
    ap (λ (z : ℤ). (pos 1 *ℤ z) +ℤ (entry r k *ℤ entry g j)) (set_entry k (pos 0) r h j) ∙
    ring (v (pos 1) ⊗ v (put k (pos 0) (entry r) j) ⊕ v (entry r k) ⊗ v (entry g j)) (v (put k (pos 0) (entry r) j) ⊕ v (entry r k) ⊗ v (entry g j)) (omega arith)

-- f is substituted, and then g
substituted_back : (k w : ℕ) (f g : List ℤ) → IsInverse k w f g → (u : ℕ → ℤ) (j : ℕ) → substituting k g (substituting k f u) j ≡ u j
substituted_back k w f g t u j =
    let s = entry f k in
    let here : substituting k f u k ≡ u k *ℤ s = ap (λ (z : ℤ). z +ℤ (u k *ℤ s)) (put_at k (pos 0) u) ∙ ring (v (pos 0) ⊕ v (u k) ⊗ v s) (v (u k) ⊗ v s) (omega arith) in
    ap (λ (z : ℤ). put k (pos 0) (substituting k f u) j +ℤ (z *ℤ entry g j)) here ∙
    elim (cases_eq j k) [
      | inl e ↦ subst (λ (i : ℕ). put k (pos 0) (substituting k f u) i +ℤ ((u k *ℤ s) *ℤ entry g i) ≡ u i) (sym e)
          (ap (λ (z : ℤ). z +ℤ ((u k *ℤ s) *ℤ entry g k)) (put_at k (pos 0) (substituting k f u)) ∙ ap (λ (z : ℤ). pos 0 +ℤ ((u k *ℤ s) *ℤ z)) t.same ∙
          ring (v (pos 0) ⊕ (v (u k) ⊗ v s) ⊗ v s) (v (u k) ⊗ (v s ⊗ v s)) (omega arith) ∙ ap (λ (z : ℤ). u k *ℤ z) t.unit ∙ ring (v (u k) ⊗ v (pos 1)) (v (u k)) (omega arith))
      | inr n ↦ ap (λ (z : ℤ). z +ℤ ((u k *ℤ s) *ℤ entry g j)) (put_other k (pos 0) (substituting k f u) j n) ∙
          ap (λ (z : ℤ). (z +ℤ (u k *ℤ entry f j)) +ℤ ((u k *ℤ s) *ℤ entry g j)) (put_other k (pos 0) u j n) ∙
          ap (λ (z : ℤ). (u j +ℤ (u k *ℤ entry f j)) +ℤ ((u k *ℤ s) *ℤ z)) (t.others j n) ∙
          ring ((v (u j) ⊕ v (u k) ⊗ v (entry f j)) ⊕ (v (u k) ⊗ v s) ⊗ ⊖ (v s ⊗ v (entry f j)))
          (v (u j) ⊕ v (u k) ⊗ v (entry f j) ⊕ ⊖ ((v s ⊗ v s) ⊗ (v (u k) ⊗ v (entry f j)))) (omega arith) ∙
          ap (λ (z : ℤ). (u j +ℤ (u k *ℤ entry f j)) +ℤ neg_ℤ (z *ℤ (u k *ℤ entry f j))) t.unit ∙
          ring (v (u j) ⊕ v (u k) ⊗ v (entry f j) ⊕ ⊖ (v (pos 1) ⊗ (v (u k) ⊗ v (entry f j)))) (v (u j)) (omega arith)
    ]

-- the constraints go by the form that takes back
pub substituted_reversible : (k w : ℕ) (f g : List ℤ) → IsInverse k w f g → IsReversible (substituting k g) (substituting k f) (substituted k g) w
substituted_reversible k w f g t = record {
  linear = substituting_linear k g;
  back_linear = substituting_linear k f;
  entries = λ r l j. substituted_entry k g r (let a = t.column in omega (arith, l, a)) (l ∙ sym t.back_width) j;
  back = substituted_back k w g f (taken_forth k w f g t);
}

-- ---- both lists
-- an assignment leaves column 0 as it is
pub first_stays : (k : ℕ) (f r : List ℤ) → 0 < k → entry (assigned k f r) 0 ≡ entry r 0
first_stays k f r above = entry_set_other r k 0 (product f r) (λ e. omega (arith, e, above))

pub assigned_width : (k : ℕ) (f r : List ℤ) → length (assigned k f r) ≡ length r
assigned_width k f r = length-set r k (product f r)

pub substituted_width : (k : ℕ) (g r : List ℤ) → length r ≡ length g → length (substituted k g r) ≡ length r
substituted_width k g r l = blend_length (pos 1) (entry r k) (cleared k r) g (length-set r k (pos 0) ∙ l) ∙ length-set r k (pos 0)

-- the mapped system and the mapped rows are dual again
pub dual_moved : (k w : ℕ) (f g : List ℤ) (system rows : List (List ℤ)) → IsInverse k w f g → AreDual w system rows → AreDual w (map (substituted k g) system) (map (assigned k f) rows)
dual_moved k w f g system rows t d = record {
  system_widths = λ c m. let i = map_from (substituted k g) system c m in
      ap length (sym i.2) ∙ substituted_width k g i.0 (d.system_widths i.0 i.1 ∙ sym t.back_width) ∙ d.system_widths i.0 i.1;
  row_widths = λ r m. let i = map_from (assigned k f) rows r m in ap length (sym i.2) ∙ assigned_width k f i.0 ∙ d.row_widths i.0 i.1;
  solutions = λ u l s.
      let y = assigned k g u in
      let wide : length y ≡ w = assigned_width k g u ∙ l in
      generated_same (map (assigned k f) rows) (assigning k f (entry y)) (entry u)
      (λ j. (assigning_linear k f).same (entry y) (assigning k g (entry u)) (λ i. set_entry k (product g u) u (low u l) i) j ∙ assigned_back k w g f (taken_forth k w f g t) (entry u) j)
      (generated_mapped (assigning k f) (assigning_linear k f) (assigned k f) rows (entry y) (λ r m j. set_entry k (product f r) r (low r (d.row_widths r m)) j)
      (d.solutions y wide (λ c m. subst (λ (z : ℤ). pos 0 ≤ℤ z) (substituted_product k g c u (d.system_widths c m ∙ sym t.back_width) (low u l))
      (s (substituted k g c) (map_has (substituted k g) system c m)))));
  consequences = λ c l s.
      let y = substituted k f c in
      let wide : length y ≡ w = substituted_width k f c (l ∙ sym t.width) ∙ l in
      generated_same (map (substituted k g) system) (substituting k g (entry y)) (entry c)
      (λ j. (substituting_linear k g).same (entry y) (substituting k f (entry c)) (λ i. substituted_entry k f c (low c l) (l ∙ sym t.width) i) j ∙ substituted_back k w f g t (entry c) j)
      (generated_mapped (substituting k g) (substituting_linear k g) (substituted k g) system (entry y)
      (λ r m j. substituted_entry k g r (low r (d.system_widths r m)) (d.system_widths r m ∙ sym t.back_width) j)
      (d.consequences y wide (λ r m. subst (λ (z : ℤ). pos 0 ≤ℤ z)
      (product_comm (assigned k f r) c ∙ sym (substituted_product k f c r (l ∙ sym t.width) (low r (d.row_widths r m))) ∙ product_comm (substituted k f c) r)
      (s (assigned k f r) (map_has (assigned k f) rows r m)))));
  meets = λ r m c n.
      let i = map_from (assigned k f) rows r m in
      let o = map_from (substituted k g) system c n in
      subst (λ (y : List ℤ). pos 0 ≤ℤ product c y) i.2 (subst (λ (y : List ℤ). pos 0 ≤ℤ product y (assigned k f i.0)) o.2
      (subst (λ (z : ℤ). pos 0 ≤ℤ z) (sym (met o.0 i.0 (d.system_widths o.0 o.1) (d.row_widths i.0 i.1))) (d.meets i.0 i.1 o.0 o.1)));
}
  where
    low : (r : List ℤ) → length r ≡ w → k < length r
    low r l = let a = t.column in omega (arith, l, a)

    met : (c r : List ℤ) → length c ≡ w → length r ≡ w → product (substituted k g c) (assigned k f r) ≡ product c r
    met c r lc lr =
        substituted_product k g c (assigned k f r) (lc ∙ sym t.back_width) (low (assigned k f r) (assigned_width k f r ∙ lr)) ∙
        dot_same c (entry (assigned k g (assigned k f r))) (entry r) (λ j.
        set_entry k (product g (assigned k f r)) (assigned k f r) (low (assigned k f r) (assigned_width k f r ∙ lr)) j ∙
        (assigning_linear k g).same (entry (assigned k f r)) (assigning k f (entry r)) (λ i. set_entry k (product f r) r (low r lr) i) j ∙
        assigned_back k w f g t (entry r) j)

-- ---- forms with 1 or -1 at the column
pub minus_one_back : (k w : ℕ) (f : List ℤ) → k < w → length f ≡ w → entry f k ≡ negsuc 0 → IsInverse k w f f
minus_one_back k w f h l e = record {
  column = h;
  width = l;
  back_width = l;
  unit = ap (λ (z : ℤ). z *ℤ z) e;
  same = refl;
  others = λ j n. ring (v (entry f j)) (⊖ (⊖ (v (pos 1)) ⊗ v (entry f j))) (omega arith) ∙ ap (λ (z : ℤ). neg_ℤ (z *ℤ entry f j)) (sym e);
}

pub one_back : (k w : ℕ) (f : List ℤ) → k < w → length f ≡ w → entry f k ≡ pos 1 → IsInverse k w f (slice_set (negated f) k (pos 1))
one_back k w f h l e = record {
  column = h;
  width = l;
  back_width = length-set (negated f) k (pos 1) ∙ negated_length f ∙ l;
  unit = ap (λ (z : ℤ). z *ℤ z) e;
  same = entry_set_same (negated f) k (pos 1) (let n = negated_length f in omega (arith, n, l, h)) ∙ sym e;
  others = λ j n. entry_set_other (negated f) k j (pos 1) n ∙ entry_negated f j ∙ ap neg_ℤ (ring (v (entry f j)) (v (pos 1) ⊗ v (entry f j)) (omega arith)) ∙
      ap (λ (z : ℤ). neg_ℤ (z *ℤ entry f j)) (sym e);
}
