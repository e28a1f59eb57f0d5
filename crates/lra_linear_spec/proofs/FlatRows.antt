-- Rows combined with a line so that their product with c is 0: what they keep of the rows before, and the lines without that line are
-- again in echelon form.
use Rattle.std.proofs.Common.{List, [], ap, arith, inl, inr, neg_ℤ, negsuc, pos, refl, subst, sym, unsigned_abs, ℕ, ℤ, ◌*ℤ◌, ◌++◌, ◌+ℤ◌, ◌<ℤ◌, ◌∙◌, ◌∷◌, ◌≡◌, ◌≤ℤ◌, ◌⊎◌}
use Rattle.std.proofs.{lemmas.Int.ints, lemmas.List.Elements.Contains-append_cases, lemmas.List.Elements.Contains-append_left, lemmas.List.Elements.Contains-append_right}
use Rattle.std.specs.{Int.◌∣◌, List.Contains}
use Rattle.lra_linear_spec.specs.{Cones.Generated, Cones.both_ways, Echelon.Before, Echelon.IsEchelon, LowestTerms.IsPrimitive, Vectors.dot, Vectors.entry, Vectors.negated}
use Rattle.lra_linear_spec.proofs.Combinations.{generated_divided, generated_plus, generated_same, generated_times, generated_zero}
use Rattle.lra_linear_spec.proofs.Products.{negated_dot}
use Rattle.lra_linear_spec.proofs.{DoubleDescription.Flat, DoubleDescription.Flats, LinearMaps.generated_nonneg, Lines.line_multiple, Lines.signed_from, Lines.signed_multiple}
use Rattle.lra_linear_spec.proofs.{Membership.contains_cases, Membership.contains_head, Membership.contains_tail, Products.dot_linear, Products.dot_same, Products.dot_scale, Products.entry_negated}
use Rattle.lra_linear_spec.proofs.{Ring.ring, Ring.v, Ring.⊖, Ring.◌⊕◌, Ring.◌⊗◌, Signs.as_nat, Signs.no_product, Signs.not_both, Signs.positive_nat, Signs.positive_part, Signs.times_positive}

Rows : Type 0
Rows = List (List ℤ)

-- ---- rows that are flat
pub flat_zero : (c l r t : List ℤ) → Flat c l r t → (j : ℕ) → entry r j ≡ pos 0 → entry l j ≡ pos 0 → entry t j ≡ pos 0
flat_zero c l r t f j h k =
    let a = dot c (entry l) in
    let b = dot c (entry r) in
    no_product f.times (entry t j) f.positive
    (f.is j ∙ ap (λ z. (a *ℤ z) +ℤ (neg_ℤ b *ℤ entry l j)) h ∙ ap (λ z. (a *ℤ pos 0) +ℤ (neg_ℤ b *ℤ z)) k ∙ ring (v a ⊗ v (pos 0) ⊕ ⊖ (v b) ⊗ v (pos 0)) (v (pos 0)) (omega arith))

-- which row a flat one comes from
pub record FlatOf (c l : List ℤ) (rs : List (List ℤ)) (t : List ℤ) : Type 0 where
  pub row : List ℤ
  pub has : Contains rs row
  pub flat : Flat c l row t

pub flats_from : (c l : List ℤ) (rs ts : List (List ℤ)) → Flats c l rs ts → (t : List ℤ) → Contains ts t → FlatOf c l rs t
flats_from c l [] [] f t k = absurd (omega (arith, k.1))
flats_from c l [] (x ∷ ts) f t k = absurd f
flats_from c l (r ∷ rs) [] f t k = absurd f
flats_from c l (r ∷ rs) (x ∷ ts) f t k = elim (contains_cases x t ts k) [
  | inl e ↦ record { row = r; has = contains_head r rs; flat = subst (λ (y : List ℤ). Flat c l r y) e f.0 }
  | inr d ↦ let i = flats_from c l rs ts f.1 t d in record { row = i.row; has = contains_tail r i.row rs i.has; flat = i.flat }
]

-- what a row becomes
pub record IsFlatIn (c l : List ℤ) (ts : List (List ℤ)) (r : List ℤ) : Type 0 where
  pub image : List ℤ
  pub has : Contains ts image
  pub flat : Flat c l r image

pub flats_to : (c l : List ℤ) (rs ts : List (List ℤ)) → Flats c l rs ts → (r : List ℤ) → Contains rs r → IsFlatIn c l ts r
flats_to c l [] ts f r k = absurd (omega (arith, k.1))
flats_to c l (x ∷ rs) [] f r k = absurd f
flats_to c l (x ∷ rs) (t ∷ ts) f r k = elim (contains_cases x r rs k) [
  | inl e ↦ record { image = t; has = contains_head t ts; flat = subst (λ (y : List ℤ). Flat c l y t) e f.0 }
  | inr d ↦ let i = flats_to c l rs ts f.1 r d in record { image = i.image; has = contains_tail t i.image ts i.has; flat = i.flat }
]

-- a split of the flat rows is one of the rows
pub record FlatSplit (c l : List ℤ) (rs front : List (List ℤ)) (t : List ℤ) (back : List (List ℤ)) : Type 0 where
  pub first : List (List ℤ)
  pub row : List ℤ
  pub last : List (List ℤ)
  pub is : rs ≡ first ++ row ∷ last
  pub front_flat : Flats c l first front
  pub flat : Flat c l row t
  pub back_flat : Flats c l last back

-- by recursion
pub flat_split : (c l : List ℤ) (rs front : List (List ℤ)) (t : List ℤ) (back : List (List ℤ)) → Flats c l rs (front ++ t ∷ back) → FlatSplit c l rs front t back
flat_split c l [] [] t back f = absurd f
flat_split c l [] (x ∷ front) t back f = absurd f
flat_split c l (r ∷ rs) [] t back f = record { first = []; row = r; last = rs; is = refl; front_flat = tt; flat = f.0; back_flat = f.1 }
flat_split c l (r ∷ rs) (x ∷ front) t back f =
    let i = flat_split c l rs front t back f.1 in
    record { first = r ∷ i.first; row = i.row; last = i.last; is = ap (λ (y : List (List ℤ)). r ∷ y) i.is; front_flat = (f.0, i.front_flat); flat = i.flat; back_flat = i.back_flat }

-- ---- the lines without l
-- the form without the line
pub record Dropped (l : List ℤ) (rows : List (List ℤ)) (ps : List ℕ) : Type 0 where
  pub pivots : List ℕ
  pub echelon : IsEchelon rows pivots
  pub sub : (q : ℕ) → Contains pivots q → Contains ps q
  pub zero_at : (q : ℕ) → Contains pivots q → entry l q ≡ pos 0

-- the rows before the line, made flat, and the rows after it are an echelon form
pub echelon_drop : (c l line : List ℤ) (before after new : List (List ℤ)) (ps : List ℕ) → ((j : ℕ) → entry line j ≡ pos 0 → entry l j ≡ pos 0) → pos 0 <ℤ dot c (entry l) → Flats c l before new →
    IsEchelon (before ++ line ∷ after) ps → Dropped l (new ++ after) ps
echelon_drop c l line [] after [] [] z p f ech = absurd ech
echelon_drop c l line [] after [] (q ∷ ps) z p f ech = record { pivots = ps; echelon = ech.4; sub = λ r k. contains_tail q r ps k; zero_at = λ r k. z r (ech.3 r k) }
echelon_drop c l line [] after (t ∷ new) ps z p f ech = absurd f
echelon_drop c l line (k ∷ before) after [] ps z p f ech = absurd f
echelon_drop c l line (k ∷ before) after (t ∷ new) [] z p f ech = absurd ech
echelon_drop c l line (k ∷ before) after (t ∷ new) (q ∷ ps) z p f ech =
    let old = before ++ line ∷ after in
    let i = echelon_drop c l line before after new ps z p f.1 ech.4 in
    let has : Contains old line = Contains-append_right before (line ∷ after) line (contains_head line after) in
    let l_early : (j : ℕ) → Before j q ⊎ (j ≡ q) → entry l j ≡ pos 0 = λ j h. z j (ech.2 line has j h) in
    let a = dot c (entry l) in
    let b = dot c (entry k) in
    let here : pos 0 <ℤ entry t q =
    positive_part f.0.times (entry t q) (a *ℤ entry k q) f.0.positive
    (f.0.is q ∙ ap (λ y. (a *ℤ entry k q) +ℤ (neg_ℤ b *ℤ y)) (l_early q (inr refl)) ∙ ring (v a ⊗ v (entry k q) ⊕ ⊖ (v b) ⊗ v (pos 0)) (v a ⊗ v (entry k q)) (omega arith))
    (times_positive a (entry k q) p ech.0.here) in
    record {
      pivots = q ∷ i.pivots;
      echelon = (
        record { before = λ j h. flat_zero c l k t f.0 j (ech.0.before j h) (l_early j (inl h)); here = here },
        elim f.0.lowest [ inl y ↦ y | inr y ↦ absurd (not_both (entry t q) here (y q)) ],
        λ s m j h. elim (Contains-append_cases new after s m) [
          | inl n ↦ let o = flats_from c l before new f.1 s n in flat_zero c l o.row s o.flat j (ech.2 o.row (Contains-append_left before (line ∷ after) o.row o.has) j h) (l_early j h)
          | inr n ↦ ech.2 s (Contains-append_right before (line ∷ after) s (contains_tail line s after n)) j h
        ],
        λ r m. flat_zero c l k t f.0 r (ech.3 r (i.sub r m)) (i.zero_at r m),
        i.echelon,
      );
      sub = λ r m. elim (contains_cases q r i.pivots m) [ inl e ↦ subst (λ (y : ℕ). Contains (q ∷ ps) y) e (0, omega arith, refl) | inr n ↦ contains_tail q r ps (i.sub r n) ];
      zero_at = λ r m. elim (contains_cases q r i.pivots m) [ inl e ↦ l_early r (inr (sym e)) | inr n ↦ i.zero_at r n ];
    }

-- ---- a flat row lies in the cone of its row and the line, and the other way round
pub flat_dot : (c l r t : List ℤ) → Flat c l r t → dot c (entry t) ≡ pos 0
flat_dot c l r t f =
    let a = dot c (entry l) in
    let b = dot c (entry r) in
    no_product f.times (dot c (entry t)) f.positive
    (sym (dot_scale c (pos f.times) (entry t)) ∙ dot_same c (λ j. pos f.times *ℤ entry t j) (λ j. (a *ℤ entry r j) +ℤ (neg_ℤ b *ℤ entry l j)) f.is ∙ dot_linear c a (neg_ℤ b) (entry r) (entry l) ∙
    ring (v a ⊗ v b ⊕ ⊖ (v b) ⊗ v a) (v (pos 0)) (omega arith))

-- a flat row lies in a cone that has its row and the line in both directions
pub flat_inside : (c l r t : List ℤ) (cone : List (List ℤ)) → pos 0 <ℤ dot c (entry l) → ((z : ℤ) → Generated cone (λ j. z *ℤ entry l j)) → Flat c l r t → Generated cone (entry r) →
    Generated cone (entry t)
flat_inside c l r t cone p line f g =
    let a = dot c (entry l) in
    let b = dot c (entry r) in
    let n = as_nat a (omega (arith, ints, p)) in
    generated_divided cone f.times (entry t) f.positive
    (generated_same cone (λ j. (pos n.0 *ℤ entry r j) +ℤ (neg_ℤ b *ℤ entry l j)) (λ j. pos f.times *ℤ entry t j) (λ j. ap (λ y. (y *ℤ entry r j) +ℤ (neg_ℤ b *ℤ entry l j)) (sym n.1) ∙ sym (f.is j))
    (generated_plus cone (λ j. pos n.0 *ℤ entry r j) (λ j. neg_ℤ b *ℤ entry l j) (generated_times cone n.0 (entry r) g) (line (neg_ℤ b))))

-- and its row lies in one that has the flat row and the line
pub flat_back : (c l r t : List ℤ) (cone : List (List ℤ)) → pos 0 <ℤ dot c (entry l) → ((z : ℤ) → Generated cone (λ j. z *ℤ entry l j)) → Flat c l r t → Generated cone (entry t) →
    Generated cone (entry r)
flat_back c l r t cone p line f g =
    let a = dot c (entry l) in
    let b = dot c (entry r) in
    let n = as_nat a (omega (arith, ints, p)) in
    generated_divided cone n.0 (entry r) (positive_nat a n.0 p n.1)
    (generated_same cone (λ j. (pos f.times *ℤ entry t j) +ℤ (b *ℤ entry l j)) (λ j. pos n.0 *ℤ entry r j)
    (λ j. ap (λ y. y +ℤ (b *ℤ entry l j)) (f.is j) ∙ ring ((v a ⊗ v (entry r j) ⊕ ⊖ (v b) ⊗ v (entry l j)) ⊕ v b ⊗ v (entry l j)) (v a ⊗ v (entry r j)) (omega arith) ∙ ap (λ y. y *ℤ entry r j) n.1)
    (generated_plus cone (λ j. pos f.times *ℤ entry t j) (λ j. b *ℤ entry l j) (generated_times cone f.times (entry t) g) (line b)))

-- the same of their negatives
pub flat_back_negative : (c l r t : List ℤ) (cone : List (List ℤ)) → pos 0 <ℤ dot c (entry l) → ((z : ℤ) → Generated cone (λ j. z *ℤ entry l j)) → Flat c l r t →
    Generated cone (λ j. neg_ℤ (entry t j)) → Generated cone (λ j. neg_ℤ (entry r j))
flat_back_negative c l r t cone p line f g =
    let a = dot c (entry l) in
    let b = dot c (entry r) in
    let n = as_nat a (omega (arith, ints, p)) in
    generated_divided cone n.0 (λ j. neg_ℤ (entry r j)) (positive_nat a n.0 p n.1)
    (generated_same cone (λ j. (pos f.times *ℤ neg_ℤ (entry t j)) +ℤ (neg_ℤ b *ℤ entry l j)) (λ j. pos n.0 *ℤ neg_ℤ (entry r j))
    (λ j. ring (v (pos f.times) ⊗ ⊖ (v (entry t j)) ⊕ ⊖ (v b) ⊗ v (entry l j)) (⊖ (v (pos f.times) ⊗ v (entry t j)) ⊕ ⊖ (v b) ⊗ v (entry l j)) (omega arith) ∙
    ap (λ y. neg_ℤ y +ℤ (neg_ℤ b *ℤ entry l j)) (f.is j) ∙
    ring (⊖ (v a ⊗ v (entry r j) ⊕ ⊖ (v b) ⊗ v (entry l j)) ⊕ ⊖ (v b) ⊗ v (entry l j)) (v a ⊗ ⊖ (v (entry r j))) (omega arith) ∙ ap (λ y. y *ℤ neg_ℤ (entry r j)) n.1)
    (generated_plus cone (λ j. pos f.times *ℤ neg_ℤ (entry t j)) (λ j. neg_ℤ b *ℤ entry l j) (generated_times cone f.times (λ j. neg_ℤ (entry t j)) g) (line (neg_ℤ b))))

-- also if the flat row is 0
pub flat_back_zero : (c l r t : List ℤ) (cone : List (List ℤ)) → pos 0 <ℤ dot c (entry l) → ((z : ℤ) → Generated cone (λ j. z *ℤ entry l j)) → Flat c l r t → ((j : ℕ) → entry t j ≡ pos 0) →
    Generated cone (entry r)
flat_back_zero c l r t cone p line f h = flat_back c l r t cone p line f (generated_same cone (λ j. pos 0) (entry t) (λ j. sym (h j)) (generated_zero cone))

-- if all rows are flat, what they generate is
pub generated_flat : (c : List ℤ) (rows : List (List ℤ)) (u : ℕ → ℤ) → ((r : List ℤ) → Contains rows r → dot c (entry r) ≡ pos 0) → Generated rows u → dot c u ≡ pos 0
generated_flat c rows u h g =
    let up : pos 0 ≤ℤ dot c u = generated_nonneg c rows u (λ r k. subst (λ z. pos 0 ≤ℤ z) (sym (h r k)) (omega (arith, ints))) g in
    let down : pos 0 ≤ℤ dot (negated c) u = generated_nonneg (negated c) rows u (λ r k. subst (λ z. pos 0 ≤ℤ z) (sym (negated_dot c (entry r) ∙ ap neg_ℤ (h r k))) (omega (arith, ints))) g in
    both (dot c u) up (subst (λ z. pos 0 ≤ℤ z) (negated_dot c u) down)
  where
    both : (z : ℤ) → pos 0 ≤ℤ z → pos 0 ≤ℤ neg_ℤ z → z ≡ pos 0
    both z h k = omega (arith, ints, h, k)

-- ---- the whole case
pub member_primitive : (rows : List (List ℤ)) (ps : List ℕ) (r : List ℤ) → IsEchelon rows ps → Contains rows r → IsPrimitive r
member_primitive [] ps r e k = absurd (omega (arith, k.1))
member_primitive (x ∷ rows) [] r e k = absurd e
member_primitive (x ∷ rows) (p ∷ ps) r e k = elim (contains_cases x r rows k) [ inl f ↦ subst IsPrimitive f e.1 | inr d ↦ member_primitive rows ps r e.4 d ]

-- a line in either direction is in lowest terms
pub signed_primitive : (l s : List ℤ) → (s ≡ l) ⊎ (s ≡ negated l) → IsPrimitive l → IsPrimitive s
signed_primitive l s (inl e) p = subst IsPrimitive (sym e) p
signed_primitive l s (inr e) p = λ d h. p d (λ j. subst (λ (n : ℕ). d ∣ n) (ap (λ (y : List ℤ). unsigned_abs (entry y j)) e ∙ ap unsigned_abs (entry_negated l j) ∙ abs_neg (entry l j)) (h j))
  where
    abs_neg : (z : ℤ) → unsigned_abs (neg_ℤ z) ≡ unsigned_abs z
    abs_neg z = omega (arith, ints)

-- each line of the new list is on the old lines, with either sign
pub lines_inside : (c l line : List ℤ) (before after new : List (List ℤ)) → (l ≡ line) ⊎ (l ≡ negated line) → pos 0 <ℤ dot c (entry l) → Flats c l before new → (t : List ℤ) →
    Contains (both_ways (new ++ after)) t → Generated (both_ways (before ++ line ∷ after)) (entry t)
lines_inside c l line before after new s p f t k =
    let lines = before ++ line ∷ after in
    let x = signed_from (new ++ after) t k in
    let has : Contains lines line = Contains-append_right before (line ∷ after) line (contains_head line after) in
    let mult : (z : ℤ) → Generated (both_ways lines) (λ j. z *ℤ entry l j) = λ z. signed_multiple lines line l z has s in
    let plain : (k : List ℤ) → Contains lines k → Generated (both_ways lines) (entry k) = λ k m. one (both_ways lines) k (line_multiple lines k (pos 1) m) in
    let minus : (k : List ℤ) → Contains lines k → Generated (both_ways lines) (λ j. neg_ℤ (entry k j)) = λ k m. other (both_ways lines) k (line_multiple lines k (negsuc 0) m) in
    elim (Contains-append_cases new after x.line x.has) [
      | inl n ↦
          let o = flats_from c l before new f x.line n in
          let m : Contains lines o.row = Contains-append_left before (line ∷ after) o.row o.has in
          elim x.sign [
            | inl e ↦ subst (λ (y : List ℤ). Generated (both_ways lines) (entry y)) (sym e) (flat_inside c l o.row x.line (both_ways lines) p mult o.flat (plain o.row m))
            | inr e ↦ subst (λ (y : List ℤ). Generated (both_ways lines) (entry y)) (sym e)
                (generated_same (both_ways lines) (λ j. neg_ℤ (entry x.line j)) (entry (negated x.line)) (λ j. sym (entry_negated x.line j))
                (flat_inside_negative c l o.row x.line (both_ways lines) p mult o.flat (minus o.row m)))
          ]
      | inr n ↦
          let m : Contains lines x.line = Contains-append_right before (line ∷ after) x.line (contains_tail line x.line after n) in
          elim x.sign [
            | inl e ↦ subst (λ (y : List ℤ). Generated (both_ways lines) (entry y)) (sym e) (plain x.line m)
            | inr e ↦ subst (λ (y : List ℤ). Generated (both_ways lines) (entry y)) (sym e)
                (generated_same (both_ways lines) (λ j. neg_ℤ (entry x.line j)) (entry (negated x.line)) (λ j. sym (entry_negated x.line j)) (minus x.line m))
          ]
    ]
  where
    one : (rows : List (List ℤ)) (k : List ℤ) → Generated rows (λ j. pos 1 *ℤ entry k j) → Generated rows (entry k)
    one rows k g = generated_same rows (λ j. pos 1 *ℤ entry k j) (entry k) (λ j. ring (v (pos 1) ⊗ v (entry k j)) (v (entry k j)) (omega arith)) g

    other : (rows : List (List ℤ)) (k : List ℤ) → Generated rows (λ j. negsuc 0 *ℤ entry k j) → Generated rows (λ j. neg_ℤ (entry k j))
    other rows k g = generated_same rows (λ j. negsuc 0 *ℤ entry k j) (λ j. neg_ℤ (entry k j)) (λ j. ring (v (negsuc 0) ⊗ v (entry k j)) (⊖ (v (entry k j))) (omega arith)) g

    flat_inside_negative : (c l r t : List ℤ) (cone : List (List ℤ)) → pos 0 <ℤ dot c (entry l) → ((z : ℤ) → Generated cone (λ j. z *ℤ entry l j)) → Flat c l r t →
        Generated cone (λ j. neg_ℤ (entry r j)) → Generated cone (λ j. neg_ℤ (entry t j))
    flat_inside_negative c l r t cone p line f g =
        let a = dot c (entry l) in
        let b = dot c (entry r) in
        let n = as_nat a (omega (arith, ints, p)) in
        generated_divided cone f.times (λ j. neg_ℤ (entry t j)) f.positive
        (generated_same cone (λ j. (pos n.0 *ℤ neg_ℤ (entry r j)) +ℤ (b *ℤ entry l j)) (λ j. pos f.times *ℤ neg_ℤ (entry t j))
        (λ j. ap (λ y. (y *ℤ neg_ℤ (entry r j)) +ℤ (b *ℤ entry l j)) (sym n.1) ∙ ring (v a ⊗ ⊖ (v (entry r j)) ⊕ v b ⊗ v (entry l j)) (⊖ (v a ⊗ v (entry r j) ⊕ ⊖ (v b) ⊗ v (entry l j)))
        (omega arith) ∙ ap neg_ℤ (sym (f.is j)) ∙
        ring (⊖ (v (pos f.times) ⊗ v (entry t j))) (v (pos f.times) ⊗ ⊖ (v (entry t j))) (omega arith))
        (generated_plus cone (λ j. pos n.0 *ℤ neg_ℤ (entry r j)) (λ j. b *ℤ entry l j) (generated_times cone n.0 (λ j. neg_ℤ (entry r j)) g) (line b)))
