-- The case of a line (Chernikova 1965, Le Verge 1992): the new lists are canonical, and dual to the system with the further row.
use Rattle.std.proofs.Common.{Bool, List, [], ap, arith, cond, false, inl, inr, length, neg_ℤ, negsuc, pos, refl, subst, sym, true, ℕ, ℤ, ◌*ℤ◌, ◌++◌, ◌+ℤ◌, ◌<ℤ◌, ◌∙◌, ◌∷◌, ◌≡◌, ◌≤ℤ◌, ◌⊎◌}
use Rattle.std.proofs.{lemmas.Int.ints, lemmas.List.Elements.Contains-append_cases, lemmas.List.Elements.Contains-append_left, lemmas.List.Elements.Contains-append_right}
use Rattle.std.specs.List.{Contains}
use Rattle.lra_linear_spec.specs.{Canonical.IsCanonical, Cones.AreDual, Cones.Generated, Cones.all_rows, Cones.both_ways, LowestTerms.IsPrimitive, Vectors.dot, Vectors.entry, Vectors.negated}
use Rattle.lra_linear_spec.proofs.FlatRows.{Dropped, echelon_drop, flat_back, flat_back_negative, flat_back_zero, flat_dot, flat_inside, flat_split, flat_zero, flats_from, flats_to, generated_flat}
use Rattle.lra_linear_spec.proofs.FlatRows.{lines_inside, member_primitive, signed_primitive}
use Rattle.lra_linear_spec.proofs.{LinearMaps.generated_left, LinearMaps.generated_nonneg, LinearMaps.generated_right, LinearMaps.generated_through, Lines.in_lines, Products.negated_dot}
use Rattle.lra_linear_spec.proofs.{Combinations.generated_row, Combinations.generated_same, Combinations.generated_times, Combinations.generated_zero, DoubleDescription.Flat, DoubleDescription.Flats}
use Rattle.lra_linear_spec.proofs.{DoubleDescription.LineCase, DoubleDescription.StepOf, Duality.LineTarget, Duality.dual_line_step, Duality.dual_step, Lines.line_multiple, Lines.signed_from}
use Rattle.lra_linear_spec.proofs.{Lines.signed_multiple, Lines.signed_zero, Membership.contains_cases, Membership.contains_head, Membership.contains_split, Membership.contains_tail}
use Rattle.lra_linear_spec.proofs.{Products.dot_minus, Products.dot_negated, Products.entry_negated, Products.negated_length, Ring.ring, Ring.v, Ring.⊖, Ring.◌⊕◌, Ring.◌⊗◌, Signs.not_both}

-- a multiple by 1
one_times : (rows : List (List ℤ)) (k : List ℤ) → Generated rows (λ j. pos 1 *ℤ entry k j) → Generated rows (entry k)
one_times rows k g = generated_same rows (λ j. pos 1 *ℤ entry k j) (entry k) (λ j. ring (v (pos 1) ⊗ v (entry k j)) (v (entry k j)) (omega arith)) g

-- the new lines are flat
lines_flat_dot : (c l : List ℤ) (before after new : List (List ℤ)) → Flats c l before new → ((k : List ℤ) → Contains after k → dot c (entry k) ≡ pos 0) → (t : List ℤ) →
    Contains (both_ways (new ++ after)) t → dot c (entry t) ≡ pos 0
lines_flat_dot c l before after new f fa t k =
    let x = signed_from (new ++ after) t k in
    let plain : dot c (entry x.line) ≡ pos 0 = elim (Contains-append_cases new after x.line x.has)
    [ inl n ↦ let o = flats_from c l before new f x.line n in flat_dot c l o.row x.line o.flat | inr n ↦ fa x.line n ] in
    elim x.sign [
      | inl e ↦ ap (λ (y : List ℤ). dot c (entry y)) e ∙ plain
      | inr e ↦ ap (λ (y : List ℤ). dot c (entry y)) e ∙ dot_negated c x.line ∙ ap neg_ℤ plain
    ]

-- what the new rows generate, the old ones do, with some of the rays left out
new_inside : (c l line : List ℤ) (before after new first last front back others : List (List ℤ)) → (l ≡ line) ⊎ (l ≡ negated line) → pos 0 <ℤ dot c (entry l) → Flats c l before new →
    Flats c l first front → Flats c l last back →
    ((o : List ℤ) → Contains others o → Contains (front ++ back) o ⊎ (o ≡ l)) → (u : ℕ → ℤ) → Generated (all_rows (new ++ after) others) u →
    Generated (all_rows (before ++ line ∷ after) (first ++ last)) u
new_inside c l line before after new first last front back others s p f ff fb among u g =
    let lines = before ++ line ∷ after in
    let rays = first ++ last in
    let cone = all_rows lines rays in
    let has : Contains lines line = Contains-append_right before (line ∷ after) line (contains_head line after) in
    let mult : (z : ℤ) → Generated cone (λ j. z *ℤ entry l j) = λ z. generated_right rays (both_ways lines) (λ j. z *ℤ entry l j) (signed_multiple lines line l z has s) in
    let ray : (r t : List ℤ) → Contains rays r → Flat c l r t → Generated cone (entry t) =
    λ r t k x. flat_inside c l r t cone p mult x (generated_left rays (both_ways lines) (entry r) (generated_row rays r k)) in
    generated_through cone (all_rows (new ++ after) others) u
    (λ t k. elim (Contains-append_cases others (both_ways (new ++ after)) t k) [
      | inl i ↦ elim (among t i) [
        | inl m ↦ elim (Contains-append_cases front back t m) [
          | inl n ↦ let o = flats_from c l first front ff t n in ray o.row t (Contains-append_left first last o.row o.has) o.flat
          | inr n ↦ let o = flats_from c l last back fb t n in ray o.row t (Contains-append_right first last o.row o.has) o.flat
        ]
        | inr e ↦ subst (λ (y : List ℤ). Generated cone (entry y)) (sym e) (one_times cone l (mult (pos 1)))
      ]
      | inr i ↦ generated_right rays (both_ways lines) (entry t) (lines_inside c l line before after new s p f t i)
    ]) g

-- a flat ray is needed
flat_needed : (c l line : List ℤ) (before after new rays front : List (List ℤ)) (t : List ℤ) (back others : List (List ℤ)) → IsCanonical (before ++ line ∷ after) rays → (l ≡ line) ⊎
    (l ≡ negated line) → pos 0 <ℤ dot c (entry l) → Flats c l before new →
    Flats c l rays (front ++ t ∷ back) → ((o : List ℤ) → Contains others o → Contains (front ++ back) o ⊎ (o ≡ l)) → ¬ (Generated (all_rows (new ++ after) others) (entry t))
flat_needed c l line before after new rays front t back others k s p f fr among g =
    let lines = before ++ line ∷ after in
    let x = flat_split c l rays front t back fr in
    let cone = all_rows lines (x.first ++ x.last) in
    let has : Contains lines line = Contains-append_right before (line ∷ after) line (contains_head line after) in
    let mult : (z : ℤ) → Generated cone (λ j. z *ℤ entry l j) = λ z. generated_right (x.first ++ x.last) (both_ways lines) (λ j. z *ℤ entry l j) (signed_multiple lines line l z has s) in
    k.needed x.first x.row x.last x.is (flat_back c l x.row t cone p mult x.flat (new_inside c l line before after new x.first x.last front back others s p f x.front_flat x.back_flat among
    (entry t) g))

-- a split of a list with l in front
split_head : (l : List ℤ) (rays front : List (List ℤ)) (t : List ℤ) (back : List (List ℤ)) → l ∷ rays ≡ front ++ t ∷ back → ((front ≡ []) × (t ≡ l) × (back ≡ rays)) ⊎
    ((more : List (List ℤ)) × (front ≡ l ∷ more) × (rays ≡ more ++ t ∷ back))
split_head l rays [] t back e = inl (refl, cc, cc)
split_head l rays (x ∷ front) t back e = let a : x ≡ l = cc in let b : rays ≡ front ++ t ∷ back = cc in inr (front, ap (λ (y : List ℤ). y ∷ front) a, b)

-- all parts of a canonical description, for an inequality and for an equality
canonical_core : (equal : Bool) (c l line : List ℤ) (before after new rays flat : List (List ℤ)) → IsCanonical (before ++ line ∷ after) rays → (l ≡ line) ⊎ (l ≡ negated line) →
    pos 0 <ℤ dot c (entry l) → ((k : List ℤ) → Contains after k → dot c (entry k) ≡ pos 0) → Flats c l before new →
    Flats c l rays flat → IsCanonical (new ++ after) (cond equal flat (l ∷ flat))
canonical_core equal c l line before after new rays flat k s p fa f fr =
    let lines = before ++ line ∷ after in
    let has : Contains lines line = Contains-append_right before (line ∷ after) line (contains_head line after) in
    let d = echelon_drop c l line before after new k.pivots (λ j h. signed_zero line l s j h) p f k.echelon in
    let reduced : (t : List ℤ) → Contains flat t → (q : ℕ) → Contains d.pivots q → entry t q ≡ pos 0 =
    λ t i q m. let o = flats_from c l rays flat fr t i in flat_zero c l o.row t o.flat q (k.reduced o.row o.has q (d.sub q m)) (d.zero_at q m) in
    let lowest : (t : List ℤ) → Contains flat t → IsPrimitive t = λ t i.
    let o = flats_from c l rays flat fr t i in
    elim o.flat.lowest [
      | inl y ↦ y
      | inr y ↦
          let x = contains_split rays o.row o.has in
          absurd (k.needed x.front o.row x.back x.is (generated_right (x.front ++ x.back) (both_ways lines) (entry o.row)
          (flat_back_zero c l o.row t (both_ways lines) p (λ z. signed_multiple lines line l z has s) o.flat y)))
    ] in
    let mult : (z : ℤ) → Generated (all_rows lines rays) (λ j. z *ℤ entry l j) = λ z. generated_right rays (both_ways lines) (λ j. z *ℤ entry l j) (signed_multiple lines line l z has s) in
    let pointed : (others : List (List ℤ)) → ((o : List ℤ) → Contains others o → Contains flat o ⊎ (o ≡ l)) → (t : List ℤ) → Contains flat t →
    ¬ (Generated (all_rows (new ++ after) others) (λ j. neg_ℤ (entry t j))) = λ others among t i g.
    let o = flats_from c l rays flat fr t i in
    k.pointed o.row o.has (flat_back_negative c l o.row t (all_rows lines rays) p mult o.flat
    (new_inside c l line before after new [] rays [] flat others s p f tt fr (λ y m. among y m) (λ j. neg_ℤ (entry t j)) g)) in
    let flat_row : (t : List ℤ) → Contains (all_rows (new ++ after) flat) t → dot c (entry t) ≡ pos 0 = λ t i. elim (Contains-append_cases flat (both_ways (new ++ after)) t i) [
      | inl m ↦ let o = flats_from c l rays flat fr t m in flat_dot c l o.row t o.flat
      | inr m ↦ lines_flat_dot c l before after new f fa t m
    ] in
    by_kind equal d reduced lowest pointed flat_row
  where
    clash_negative : (z : ℤ) → pos 0 <ℤ z → pos 0 ≤ℤ neg_ℤ z → ⊥
    clash_negative z h e = omega (arith, ints, h, e)

    by_kind : (b : Bool) → (d : Dropped l (new ++ after) k.pivots) → ((t : List ℤ) → Contains flat t → (q : ℕ) → Contains d.pivots q → entry t q ≡ pos 0) →
        ((t : List ℤ) → Contains flat t → IsPrimitive t) →
        ((others : List (List ℤ)) → ((o : List ℤ) → Contains others o → Contains flat o ⊎ (o ≡ l)) → (t : List ℤ) → Contains flat t →
        ¬ (Generated (all_rows (new ++ after) others) (λ j. neg_ℤ (entry t j)))) →
        ((t : List ℤ) → Contains (all_rows (new ++ after) flat) t → dot c (entry t) ≡ pos 0) → IsCanonical (new ++ after) (cond b flat (l ∷ flat))
    by_kind true d reduced lowest pointed flat_row =
        record {
          pivots = d.pivots;
          echelon = d.echelon;
          reduced = reduced;
          lowest = lowest;
          needed = λ front t back e. flat_needed c l line before after new rays front t back (front ++ back) k s p f (subst (λ (y : List (List ℤ)). Flats c l rays y) e fr) (λ o m. inl m);
          pointed = pointed flat (λ o m. inl m);
        }
    by_kind false d reduced lowest pointed flat_row =
        record {
          pivots = d.pivots;
          echelon = d.echelon;
          reduced = λ t i q m. elim (contains_cases l t flat i) [ inl e ↦ ap (λ (y : List ℤ). entry y q) (sym e) ∙ d.zero_at q m | inr n ↦ reduced t n q m ];
          lowest = λ t i. elim (contains_cases l t flat i) [
            | inl e ↦ subst IsPrimitive e (signed_primitive line l s (member_primitive (before ++ line ∷ after) k.pivots line k.echelon
                (Contains-append_right before (line ∷ after) line (contains_head line after))))
            | inr n ↦ lowest t n
          ];
          needed = λ front t back e. elim (split_head l flat front t back e) [
            | inl x ↦ λ g. not_both (dot c (entry l)) p
                (generated_flat c (all_rows (new ++ after) flat) (entry l) flat_row
                (subst (λ (y : List (List ℤ)). Generated (all_rows (new ++ after) y) (entry l)) (ap (λ (y : List (List ℤ)). y ++ back) x.0 ∙ x.2)
                (subst (λ (y : List ℤ). Generated (all_rows (new ++ after) (front ++ back)) (entry y)) x.1 g)))
            | inr x ↦ flat_needed c l line before after new rays x.0 t back (front ++ back) k s p f (subst (λ (y : List (List ℤ)). Flats c l rays y) x.2 fr)
                (λ o m. elim (contains_cases l o (x.0 ++ back) (subst (λ (y : List (List ℤ)). Contains (y ++ back) o) x.1 m)) [ inl q ↦ inr (sym q) | inr q ↦ inl q ])
          ];
          pointed = λ t i. elim (contains_cases l t flat i) [
            | inl e ↦ λ g. clash_negative (dot c (entry l)) p
                (subst (λ z. pos 0 ≤ℤ z) (ap (λ (y : List ℤ). dot c (λ j. neg_ℤ (entry y j))) (sym e) ∙ dot_minus c (entry l))
                (generated_nonneg c (all_rows (new ++ after) (l ∷ flat)) (λ j. neg_ℤ (entry t j))
                (λ r m. elim (contains_cases l r (all_rows (new ++ after) flat) m) [
                  | inl q ↦ subst (λ (y : List ℤ). pos 0 ≤ℤ dot c (entry y)) q (omega (arith, ints, p))
                  | inr q ↦ subst
                      (λ z. pos 0 ≤ℤ z) (sym (flat_row r q)) (omega (arith, ints))
                ]) g))
            | inr n ↦ pointed (l ∷ flat) (λ o m. elim (contains_cases l o flat m) [ inl q ↦ inr (sym q) | inr q ↦ inl q ]) t n
          ];
        }

-- any multiple of (c.l) k - (c.k) l, for an old line k, is on the new lines
old_line : (c l line : List ℤ) (before after new : List (List ℤ)) → (l ≡ line) ⊎ (l ≡ negated line) → ((k : List ℤ) → Contains after k → dot c (entry k) ≡ pos 0) → Flats c l before new →
    (k : List ℤ) → Contains (before ++ line ∷ after) k → (z : ℤ) →
    Generated (both_ways (new ++ after)) (λ j. z *ℤ ((dot c (entry l) *ℤ entry k j) +ℤ (dot c (entry k) *ℤ neg_ℤ (entry l j))))
old_line c l line before after new s fa f k i z =
    let rows = both_ways (new ++ after) in
    let a = dot c (entry l) in
    let b = dot c (entry k) in
    elim (Contains-append_cases before (line ∷ after) k i) [
      | inl m ↦
          let o = flats_to c l before new f k m in
          generated_same rows (λ j. (z *ℤ pos o.flat.times) *ℤ entry o.image j) (λ j. z *ℤ ((a *ℤ entry k j) +ℤ (b *ℤ neg_ℤ (entry l j))))
          (λ j. ring ((v z ⊗ v (pos o.flat.times)) ⊗ v (entry o.image j)) (v z ⊗ (v (pos o.flat.times) ⊗ v (entry o.image j))) (omega arith) ∙ ap (λ y. z *ℤ y) (o.flat.is j) ∙
          ring (v z ⊗ (v a ⊗ v (entry k j) ⊕ ⊖ (v b) ⊗ v (entry l j))) (v z ⊗ (v a ⊗ v (entry k j) ⊕ v b ⊗ ⊖ (v (entry l j)))) (omega arith))
          (line_multiple (new ++ after) o.image (z *ℤ pos o.flat.times) (Contains-append_left new after o.image o.has))
      | inr m ↦ elim (contains_cases line k after m) [
        | inl e ↦ generated_same rows (λ j. pos 0) (λ j. z *ℤ ((a *ℤ entry k j) +ℤ (b *ℤ neg_ℤ (entry l j)))) (λ j. sym (nothing line k l (sym e) s j z)) (generated_zero rows)
        | inr n ↦
            generated_same rows (λ j. (z *ℤ a) *ℤ entry k j) (λ j. z *ℤ ((a *ℤ entry k j) +ℤ (b *ℤ neg_ℤ (entry l j))))
            (λ j. ring ((v z ⊗ v a) ⊗ v (entry k j)) (v z ⊗ (v a ⊗ v (entry k j) ⊕ v (pos 0) ⊗ ⊖ (v (entry l j)))) (omega arith) ∙
            ap (λ y. z *ℤ ((a *ℤ entry k j) +ℤ (y *ℤ neg_ℤ (entry l j)))) (sym (fa k n)))
            (line_multiple (new ++ after) k (z *ℤ a) (Contains-append_right new after k n))
      ]
    ]
  where
    nothing : (line k l : List ℤ) → k ≡ line → (l ≡ line) ⊎ (l ≡ negated line) → (j : ℕ) (z : ℤ) → z *ℤ ((dot c (entry l) *ℤ entry k j) +ℤ (dot c (entry k) *ℤ neg_ℤ (entry l j))) ≡ pos 0
    nothing line k l e (inl s) j z =
        ap (λ (y : List ℤ). z *ℤ ((dot c (entry y) *ℤ entry k j) +ℤ (dot c (entry k) *ℤ neg_ℤ (entry y j)))) (s ∙ sym e) ∙
        ring (v z ⊗ (v (dot c (entry k)) ⊗ v (entry k j) ⊕ v (dot c (entry k)) ⊗ ⊖ (v (entry k j)))) (v (pos 0)) (omega arith)
    nothing line k l e (inr s) j z =
        ap (λ (y : List ℤ). z *ℤ ((dot c (entry y) *ℤ entry k j) +ℤ (dot c (entry k) *ℤ neg_ℤ (entry y j)))) (s ∙ ap negated (sym e)) ∙
        ap (λ y. z *ℤ ((y *ℤ entry k j) +ℤ (dot c (entry k) *ℤ neg_ℤ (entry (negated k) j)))) (dot_negated c k) ∙
        ap (λ y. z *ℤ ((neg_ℤ (dot c (entry k)) *ℤ entry k j) +ℤ (dot c (entry k) *ℤ neg_ℤ y))) (entry_negated k j) ∙
        ring (v z ⊗ (⊖ (v (dot c (entry k))) ⊗ v (entry k j) ⊕ v (dot c (entry k)) ⊗ ⊖ (⊖ (v (entry k j))))) (v (pos 0)) (omega arith)

-- the new rows are what the step with a line wants
line_kept : (c l line : List ℤ) (before after new rays flat : List (List ℤ)) → (l ≡ line) ⊎ (l ≡ negated line) → pos 0 <ℤ dot c (entry l) →
    ((k : List ℤ) → Contains after k → dot c (entry k) ≡ pos 0) → Flats c l before new → Flats c l rays flat →
    LineTarget c l (all_rows (before ++ line ∷ after) rays) (all_rows (new ++ after) (l ∷ flat))
line_kept c l line before after new rays flat s p fa f fr =
    let lines = before ++ line ∷ after in
    let target = all_rows (new ++ after) (l ∷ flat) in
    let a = dot c (entry l) in
    let on_new : (u : ℕ → ℤ) → Generated (both_ways (new ++ after)) u → Generated target u = λ u g. generated_right (l ∷ flat) (both_ways (new ++ after)) u g in
    record {
      step = record {
        positive = p;
        ray = generated_row target l (contains_head l (all_rows (new ++ after) flat));
        flat = λ r k.
            let b = dot c (entry r) in
            elim (Contains-append_cases rays (both_ways lines) r k) [
              | inl m ↦
                  let o = flats_to c l rays flat fr r m in
                  generated_same target (λ j. pos o.flat.times *ℤ entry o.image j) (λ j. (a *ℤ entry r j) +ℤ (b *ℤ neg_ℤ (entry l j)))
                  (λ j. o.flat.is j ∙ ring (v a ⊗ v (entry r j) ⊕ ⊖ (v b) ⊗ v (entry l j)) (v a ⊗ v (entry r j) ⊕ v b ⊗ ⊖ (v (entry l j))) (omega arith))
                  (generated_times target o.flat.times (entry o.image) (generated_row target o.image
                  (contains_tail l o.image (all_rows (new ++ after) flat) (Contains-append_left flat (both_ways (new ++ after)) o.image o.has))))
              | inr m ↦
                  let x = signed_from lines r m in
                  let q = x.line in
                  elim x.sign [
                    | inl e ↦ subst (λ (y : List ℤ). Generated target (λ j. (a *ℤ entry y j) +ℤ (dot c (entry y) *ℤ neg_ℤ (entry l j)))) (sym e)
                        (generated_same target (λ j. pos 1 *ℤ ((a *ℤ entry q j) +ℤ (dot c (entry q) *ℤ neg_ℤ (entry l j)))) (λ j. (a *ℤ entry q j) +ℤ (dot c (entry q) *ℤ neg_ℤ (entry l j)))
                        (λ j. ring (v (pos 1) ⊗ (v a ⊗ v (entry q j) ⊕ v (dot c (entry q)) ⊗ ⊖ (v (entry l j)))) (v a ⊗ v (entry q j) ⊕ v (dot c (entry q)) ⊗ ⊖ (v (entry l j))) (omega arith))
                        (on_new (λ j. pos 1 *ℤ ((a *ℤ entry q j) +ℤ (dot c (entry q) *ℤ neg_ℤ (entry l j)))) (old_line c l line before after new s fa f q x.has (pos 1))))
                    | inr e ↦ subst (λ (y : List ℤ). Generated target (λ j. (a *ℤ entry y j) +ℤ (dot c (entry y) *ℤ neg_ℤ (entry l j)))) (sym e)
                        (generated_same target (λ j. negsuc 0 *ℤ ((a *ℤ entry q j) +ℤ (dot c (entry q) *ℤ neg_ℤ (entry l j))))
                        (λ j. (a *ℤ entry (negated q) j) +ℤ (dot c (entry (negated q)) *ℤ neg_ℤ (entry l j)))
                        (λ j. ring (v (negsuc 0) ⊗ (v a ⊗ v (entry q j) ⊕ v (dot c (entry q)) ⊗ ⊖ (v (entry l j)))) (v a ⊗ ⊖ (v (entry q j)) ⊕ ⊖ (v (dot c (entry q))) ⊗ ⊖ (v (entry l j)))
                        (omega arith) ∙
                        ap (λ y. (a *ℤ y) +ℤ (neg_ℤ (dot c (entry q)) *ℤ neg_ℤ (entry l j))) (sym (entry_negated q j)) ∙
                        ap (λ y. (a *ℤ entry (negated q) j) +ℤ (y *ℤ neg_ℤ (entry l j))) (sym (dot_negated c q)))
                        (on_new (λ j. negsuc 0 *ℤ ((a *ℤ entry q j) +ℤ (dot c (entry q) *ℤ neg_ℤ (entry l j)))) (old_line c l line before after new s fa f q x.has (negsuc 0))))
                  ]
            ];
      };
      inside = λ t k. (
        new_inside c l line before after new [] rays [] flat (l ∷ flat) s p f tt fr (λ o m. elim (contains_cases l o flat m) [ inl q ↦ inr (sym q) | inr q ↦ inl q ]) (entry t)
            (generated_row target t k),
        elim (contains_cases l t (all_rows (new ++ after) flat) k) [
          | inl e ↦ subst (λ (y : List ℤ). pos 0 ≤ℤ dot c (entry y)) e (omega (arith, ints, p))
          | inr m ↦ subst (λ z. pos 0 ≤ℤ z) (sym (all_flat c l before after new rays flat f fa fr t m)) (omega (arith, ints))
        ],
      );
    }
  where
    all_flat : (c l : List ℤ) (before after new rays flat : List (List ℤ)) → Flats c l before new → ((k : List ℤ) → Contains after k → dot c (entry k) ≡ pos 0) → Flats c l rays flat → (t : List ℤ) →
        Contains (all_rows (new ++ after) flat) t → dot c (entry t) ≡ pos 0
    all_flat c l before after new rays flat f fa fr t i = elim (Contains-append_cases flat (both_ways (new ++ after)) t i) [
      | inl m ↦ let o = flats_from c l rays flat fr t m in flat_dot c l o.row t o.flat
      | inr m ↦ lines_flat_dot c l before after new f fa t m
    ]

-- each new row but l is flat
all_flat_rows : (c l : List ℤ) (before after new rays flat : List (List ℤ)) → Flats c l before new → ((k : List ℤ) → Contains after k → dot c (entry k) ≡ pos 0) → Flats c l rays flat → (t : List ℤ) →
    Contains (all_rows (new ++ after) flat) t → dot c (entry t) ≡ pos 0
all_flat_rows c l before after new rays flat f fa fr t i = elim (Contains-append_cases flat (both_ways (new ++ after)) t i) [
  | inl m ↦ let o = flats_from c l rays flat fr t m in flat_dot c l o.row t o.flat
  | inr m ↦ lines_flat_dot c l before after new f fa t m
]

-- the further inequality -c, if nothing but l is away from it
second_step : (c l : List ℤ) (rest : List (List ℤ)) → pos 0 <ℤ dot c (entry l) → ((t : List ℤ) → Contains rest t → dot c (entry t) ≡ pos 0) → StepOf (negated c) (l ∷ rest) rest
second_step c l rest p h =
    let low : (t : List ℤ) → Contains (l ∷ rest) t → dot (negated c) (entry t) ≤ℤ pos 0 = λ t k. elim (contains_cases l t rest k) [
      | inl e ↦ subst (λ (y : List ℤ). dot (negated c) (entry y) ≤ℤ pos 0) e (subst (λ z. z ≤ℤ pos 0) (sym (negated_dot c (entry l))) (falls (dot c (entry l)) p))
      | inr m ↦ subst (λ z. z ≤ℤ pos 0) (sym (negated_dot c (entry t) ∙ ap neg_ℤ (h t m))) (omega (arith, ints))
    ] in
    record {
      keeps = λ r k g. elim (contains_cases l r rest k) [
        | inl e ↦ absurd (clash (dot c (entry l)) p (subst (λ z. pos 0 ≤ℤ z) (negated_dot c (entry l)) (subst (λ (y : List ℤ). pos 0 ≤ℤ dot (negated c) (entry y)) (sym e) g)))
        | inr m ↦ generated_row rest r m
      ];
      pairs = λ q n k m g b. absurd (above (dot (negated c) (entry q)) g (low q k));
      from = λ t k. inl (contains_tail l t rest k, subst (λ z. pos 0 ≤ℤ z) (sym (negated_dot c (entry t) ∙ ap neg_ℤ (h t k))) (omega (arith, ints)));
      inside = λ t k. generated_row (l ∷ rest) t (contains_tail l t rest k);
    }
  where
    falls : (z : ℤ) → pos 0 <ℤ z → neg_ℤ z ≤ℤ pos 0
    falls z h = omega (arith, ints, h)

    clash : (z : ℤ) → pos 0 <ℤ z → pos 0 ≤ℤ neg_ℤ z → ⊥
    clash z h e = omega (arith, ints, h, e)

    above : (z : ℤ) → pos 0 <ℤ z → z ≤ℤ pos 0 → ⊥
    above z h e = omega (arith, ints, h, e)

-- the order of two rows of the system is free
swap_rows : (w : ℕ) (x y : List ℤ) (s rows : List (List ℤ)) → AreDual w (x ∷ y ∷ s) rows → AreDual w (y ∷ x ∷ s) rows
swap_rows w x y s rows d =
    record {
      system_widths = λ c k. d.system_widths c (flip y x s c k);
      row_widths = d.row_widths;
      solutions = λ u l h. d.solutions u l (λ c k. h c (flip x y s c k));
      consequences = λ c l h. generated_through (y ∷ x ∷ s) (x ∷ y ∷ s) (entry c) (λ r k. generated_row (y ∷ x ∷ s) r (flip x y s r k)) (d.consequences c l h);
      meets = λ r k c m. d.meets r k c (flip y x s c m);
    }
  where
    flip : (x y : List ℤ) (s : List (List ℤ)) (c : List ℤ) → Contains (x ∷ y ∷ s) c → Contains (y ∷ x ∷ s) c
    flip x y s c k = elim (contains_cases x c (y ∷ s) k) [
      | inl e ↦ subst (Contains (y ∷ x ∷ s)) e (contains_tail y x (x ∷ s) (contains_head x s))
      | inr m ↦ elim (contains_cases y c s m) [ inl e ↦ subst (Contains (y ∷ x ∷ s)) e (contains_head y (x ∷ s)) | inr n ↦ contains_tail y c (x ∷ s) (contains_tail x c s n) ]
    ]

-- the theorem of the case of a line
pub line_case_kept : (w : ℕ) (equal : Bool) (c : List ℤ) (lines rays new_lines new_rays : List (List ℤ)) → LineCase equal c lines rays new_lines new_rays → IsCanonical lines rays →
    IsCanonical new_lines new_rays
line_case_kept w equal c lines rays new_lines new_rays x k =
    subst (λ (y : List (List ℤ)). IsCanonical new_lines y) (sym x.are_rays)
    (subst (λ (y : List (List ℤ)). IsCanonical y (cond equal x.flat_rays (x.signed ∷ x.flat_rays))) (sym x.are_lines)
    (canonical_core equal c x.signed x.line x.before x.after x.new_before rays x.flat_rays
    (subst (λ (y : List (List ℤ)). IsCanonical y rays) x.is_lines k) x.sign x.above x.flat_after x.lines_flat x.rays_flat))

-- and dual to the system with the row
pub line_case_dual : (w : ℕ) (equal : Bool) (c : List ℤ) (lines rays new_lines new_rays : List (List ℤ)) → LineCase equal c lines rays new_lines new_rays → length c ≡ w →
    ((t : List ℤ) → Contains (all_rows lines rays) t → length t ≡ w) →
    ((t : List ℤ) → Contains (all_rows new_lines new_rays) t → length t ≡ w) → (system : List (List ℤ)) → AreDual w system (all_rows lines rays) →
    AreDual w (cond equal (c ∷ negated c ∷ system) (c ∷ system)) (all_rows new_lines new_rays)
line_case_dual w equal c lines rays new_lines new_rays x lc wo wn system d =
    let l = x.signed in
    let new = x.new_before in
    let target = all_rows (new ++ x.after) x.flat_rays in
    let d0 = subst (λ (y : List (List ℤ)). AreDual w system (all_rows y rays)) x.is_lines d in
    let kept = line_kept c l x.line x.before x.after new rays x.flat_rays x.sign x.above x.flat_after x.lines_flat x.rays_flat in
    let has : Contains (x.before ++ x.line ∷ x.after) x.line = Contains-append_right x.before (x.line ∷ x.after) x.line (contains_head x.line x.after) in
    let l_width : length l ≡ w = elim x.sign [
      | inl e ↦ ap length e ∙ line_width x.line (subst (λ (y : List (List ℤ)). Contains y x.line) (sym x.is_lines) has)
      | inr e ↦ ap length e ∙
          negated_length x.line ∙ line_width x.line (subst (λ (y : List (List ℤ)). Contains y x.line) (sym x.is_lines) has)
    ] in
    let flat_widths : (t : List ℤ) → Contains target t → length t ≡ w = λ t k. wn t (subst (λ (y : List (List ℤ)). Contains (all_rows new_lines y) t) (sym x.are_rays)
    (subst (λ (y : List (List ℤ)). Contains (all_rows y (cond equal x.flat_rays (l ∷ x.flat_rays))) t) (sym x.are_lines) (among equal l (new ++ x.after) x.flat_rays t k))) in
    let d1 = dual_line_step w c l system (all_rows (x.before ++ x.line ∷ x.after) rays) (l ∷ target) d0 lc
    (λ t k. elim (contains_cases l t target k) [ inl e ↦ ap length (sym e) ∙ l_width | inr m ↦ flat_widths t m ]) kept in
    let d2 = dual_step w (negated c) (c ∷ system) (l ∷ target) target d1 (negated_length c ∙ lc) flat_widths
    (second_step c l target x.above (all_flat_rows c l x.before x.after new rays x.flat_rays x.lines_flat x.flat_after x.rays_flat)) in
    subst (λ (y : List (List ℤ)). AreDual w (cond equal (c ∷ negated c ∷ system) (c ∷ system)) (all_rows new_lines y)) (sym x.are_rays)
    (subst (λ (y : List (List ℤ)). AreDual w (cond equal (c ∷ negated c ∷ system) (c ∷ system)) (all_rows y (cond equal x.flat_rays (l ∷ x.flat_rays)))) (sym x.are_lines)
    (choose equal l (new ++ x.after) x.flat_rays d1 (swap_rows w (negated c) c system target d2)))
  where
    line_width : (k : List ℤ) → Contains lines k → length k ≡ w
    line_width k m = wo k (Contains-append_right rays (both_ways lines) k (in_lines lines k m))

    among : (b : Bool) (l : List ℤ) (new flat : List (List ℤ)) (t : List ℤ) → Contains (all_rows new flat) t → Contains (all_rows new (cond b flat (l ∷ flat))) t
    among true l new flat t k = k
    among false l new flat t k = contains_tail l t (all_rows new flat) k

    choose : (b : Bool) (l : List ℤ) (new flat : List (List ℤ)) → AreDual w (c ∷ system) (l ∷ all_rows new flat) → AreDual w (c ∷ negated c ∷ system) (all_rows new flat) →
        AreDual w (cond b (c ∷ negated c ∷ system) (c ∷ system)) (all_rows new (cond b flat (l ∷ flat)))
    choose true l new flat x y = y
    choose false l new flat x y = x
