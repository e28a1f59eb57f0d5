-- One canonical description for one cone: equal lines, the same rays, and as many of them; in one strict order, equal lists.
use Rattle.std.proofs.Common.{List, [], ap, append_assoc, arith, inl, inr, length, neg_ℤ, negsuc, pos, refl, subst, sym, ℕ, ℤ, ◌*ℤ◌, ◌++◌, ◌+ℤ◌, ◌<◌, ◌∙◌, ◌∷◌, ◌≡◌}
use Rattle.std.proofs.lemmas.List.Elements.{Contains-append_cases, Contains-append_left, Contains-append_right}
use Rattle.std.specs.List.{Contains}
use Rattle.lra_linear_spec.specs.Cones.{AreDual, Generated, all_rows, both_ways}
use Rattle.lra_linear_spec.specs.{Canonical.IsCanonical, Echelon.IsEchelon, Echelon.Spanned, Vectors.entry, Vectors.signed_sum, Vectors.sum_of}
use Rattle.lra_linear_spec.proofs.Combinations.{generated_divided, generated_plus, generated_row, generated_same, generated_times}
use Rattle.lra_linear_spec.proofs.{ExtremeRays.Free, ExtremeRays.Parts, ExtremeRays.extreme_found, ExtremeRays.needed_splits, ExtremeRays.pointed_sum_zero, LinearMaps.generated_left}
use Rattle.lra_linear_spec.proofs.{LinearMaps.generated_right, LinearMaps.generated_through, LinearMaps.sum_generated, Lines.described_generated, Lines.in_lines, Lines.lines_generated}
use Rattle.lra_linear_spec.proofs.{LowestTerms.same_multiple, Membership.NoRepeat, Membership.at_most, Membership.contains_middle, Membership.contains_split, Products.row_same, Ring.ring, Ring.v}
use Rattle.lra_linear_spec.proofs.{Ring.⊖, Ring.◌⊕◌, Ring.◌⊗◌, Saturation.IsExtreme, Signs.cancel_same, Spans.all_zero, Spans.echelon_unique, Spans.spanned_linear, Spans.spanned_same}

Rows : Type 0
Rows = List (List ℤ)

-- ---- the lines span what is in the cone with its negative
-- what the lines span lies in the cone
pub spanned_in_cone : (lines rays : List (List ℤ)) (u : ℕ → ℤ) → Spanned lines u → Generated (all_rows lines rays) u
spanned_in_cone lines rays u g =
    generated_divided (all_rows lines rays) g.multiple u g.positive
    (generated_same (all_rows lines rays) (signed_sum g.factors lines) (λ j. pos g.multiple *ℤ u j) (λ j. sym (g.is_sum j))
    (generated_right rays (both_ways lines) (signed_sum g.factors lines) (lines_generated lines g.factors)))

-- and so does its opposite
pub spanned_negative : (lines : List (List ℤ)) (u : ℕ → ℤ) → Spanned lines u → Spanned lines (λ j. neg_ℤ (u j))
spanned_negative lines u g = spanned_same lines (λ j. (negsuc 0 *ℤ u j) +ℤ (pos 0 *ℤ u j)) (λ j. neg_ℤ (u j)) (λ j. ring (v (negsuc 0) ⊗ v (u j) ⊕ v (pos 0) ⊗ v (u j)) (⊖ (v (u j))) (omega arith))
    (spanned_linear lines (negsuc 0) (pos 0) u u g g)

-- from m u = l + s and n (-u) = k + t
opposite : (m n u l s k t : ℤ) → m *ℤ u ≡ l +ℤ s → n *ℤ neg_ℤ u ≡ k +ℤ t → ((n *ℤ l) +ℤ (m *ℤ k)) +ℤ (m *ℤ t) ≡ n *ℤ neg_ℤ s
opposite m n u l s k t e f =
    ring ((v n ⊗ v l ⊕ v m ⊗ v k) ⊕ v m ⊗ v t) ((v n ⊗ (v l ⊕ v s) ⊕ v m ⊗ (v k ⊕ v t)) ⊕ v n ⊗ ⊖ (v s)) (omega arith) ∙
    ap (λ z. ((n *ℤ z) +ℤ (m *ℤ (k +ℤ t))) +ℤ (n *ℤ neg_ℤ s)) (sym e) ∙ ap (λ z. ((n *ℤ (m *ℤ u)) +ℤ (m *ℤ z)) +ℤ (n *ℤ neg_ℤ s)) (sym f) ∙
    ring ((v n ⊗ (v m ⊗ v u) ⊕ v m ⊗ (v n ⊗ ⊖ (v u))) ⊕ v n ⊗ ⊖ (v s)) (v n ⊗ ⊖ (v s)) (omega arith)

-- the lines are all lines of the cone: what lies there with its opposite is spanned by them
pub lines_are_all : (lines rays : List (List ℤ)) → IsCanonical lines rays → (u : ℕ → ℤ) → Generated (all_rows lines rays) u → Generated (all_rows lines rays) (λ j. neg_ℤ (u j)) → Spanned lines u
lines_are_all lines rays c u g h =
    let cone = all_rows lines rays in
    let d = described_generated lines rays u g in
    let e = described_generated lines rays (λ j. neg_ℤ (u j)) h in
    let l : ℕ → ℤ = signed_sum d.free lines in
    let k : ℕ → ℤ = signed_sum e.free lines in
    let s : ℕ → ℤ = sum_of d.factors rays in
    let t : ℕ → ℤ = sum_of e.factors rays in
    let m = d.multiple in
    let n = e.multiple in
    let gl : Generated cone l = generated_right rays (both_ways lines) l (lines_generated lines d.free) in
    let gk : Generated cone k = generated_right rays (both_ways lines) k (lines_generated lines e.free) in
    let gt : Generated cone t = generated_left rays (both_ways lines) t (sum_generated rays e.factors) in
    let neg : Generated cone (λ j. neg_ℤ (s j)) =
    generated_divided cone n (λ j. neg_ℤ (s j)) e.positive
    (generated_same cone (λ j. ((pos n *ℤ l j) +ℤ (pos m *ℤ k j)) +ℤ (pos m *ℤ t j)) (λ j. pos n *ℤ neg_ℤ (s j))
    (λ j. opposite (pos m) (pos n) (u j) (l j) (s j) (k j) (t j) (d.is_sum j) (e.is_sum j))
    (generated_plus cone (λ j. (pos n *ℤ l j) +ℤ (pos m *ℤ k j)) (λ j. pos m *ℤ t j)
    (generated_plus cone (λ j. pos n *ℤ l j) (λ j. pos m *ℤ k j) (generated_times cone n l gl) (generated_times cone m k gk)) (generated_times cone m t gt))) in
    let none = pointed_sum_zero cone rays (λ r i. (generated_left rays (both_ways lines) (entry r) (generated_row rays r i), c.pointed r i)) d.factors neg in
    record {
      multiple = m;
      positive = d.positive;
      factors = d.free;
      is_sum = λ j. d.is_sum j ∙ ap (λ z. l j +ℤ z) (none j) ∙ ring (v (l j) ⊕ v (pos 0)) (v (l j)) (omega arith);
    }

-- ---- one ray apart from the others
pub record Taken (r : List ℤ) (others : List (List ℤ)) (s : ℕ → ℤ) : Type 0 where
  own : ℕ
  factors : List ℕ
  is : (j : ℕ) → s j ≡ (pos own *ℤ entry r j) +ℤ sum_of factors others j

-- the factor of one ray, apart from the others
pub take_out : (front : List (List ℤ)) (r : List ℤ) (back : List (List ℤ)) (fs : List ℕ) → Taken r (front ++ back) (sum_of fs (front ++ r ∷ back))
take_out [] r back [] = record { own = 0; factors = []; is = λ j. ring (v (pos 0)) (v (pos 0) ⊗ v (entry r j) ⊕ v (pos 0)) (omega arith) }
take_out [] r back (f ∷ fs) = record { own = f; factors = fs; is = λ j. refl }
take_out (t ∷ front) r back [] = record { own = 0; factors = []; is = λ j. ring (v (pos 0)) (v (pos 0) ⊗ v (entry r j) ⊕ v (pos 0)) (omega arith) }
take_out (t ∷ front) r back (f ∷ fs) =
    let i = take_out front r back fs in
    record {
      own = i.own;
      factors = f ∷ i.factors;
      is = λ j. ap (λ z. (pos f *ℤ entry t j) +ℤ z) (i.is j) ∙
          ring (v (pos f) ⊗ v (entry t j) ⊕ (v (pos i.own) ⊗ v (entry r j) ⊕ v (sum_of i.factors (front ++ back) j)))
          (v (pos i.own) ⊗ v (entry r j) ⊕ (v (pos f) ⊗ v (entry t j) ⊕ v (sum_of i.factors (front ++ back) j))) (omega arith);
    }

-- a vector of the cone as a multiple of one ray, a sum of the others and a line
pub parts_of : (lines front : List (List ℤ)) (r : List ℤ) (back : List (List ℤ)) (x : ℕ → ℤ) → Generated (all_rows lines (front ++ r ∷ back)) x → Parts r (front ++ back) (both_ways lines) x
parts_of lines front r back x g =
    let d = described_generated lines (front ++ r ∷ back) x g in
    let t = take_out front r back d.factors in
    record {
      multiple = d.multiple;
      positive = d.positive;
      own = t.own;
      factors = t.factors;
      line = signed_sum d.free lines;
      on_line = lines_generated lines d.free;
      whole = λ j. d.is_sum j ∙ ap (λ z. signed_sum d.free lines j +ℤ z) (t.is j) ∙
          ring (v (signed_sum d.free lines j) ⊕ (v (pos t.own) ⊗ v (entry r j) ⊕ v (sum_of t.factors (front ++ back) j)))
          (v (pos t.own) ⊗ v (entry r j) ⊕ (v (sum_of t.factors (front ++ back) j) ⊕ v (signed_sum d.free lines j))) (omega arith);
    }

-- ---- each ray is extreme
extreme_at : (lines front : List (List ℤ)) (r : List ℤ) (back : List (List ℤ)) → IsCanonical lines (front ++ r ∷ back) → IsExtreme (all_rows lines (front ++ r ∷ back)) (both_ways lines) r
extreme_at lines front r back c =
    let needed : ¬ (Generated (all_rows lines (front ++ back)) (entry r)) = c.needed front r back refl in
    let more : (u : ℕ → ℤ) → Generated ((r ∷ front ++ back) ++ both_ways lines) u → Generated (all_rows lines (front ++ r ∷ back)) u =
    λ u g. generated_through (all_rows lines (front ++ r ∷ back)) ((r ∷ front ++ back) ++ both_ways lines) u
    (λ t k. generated_row (all_rows lines (front ++ r ∷ back)) t
    (elim (Contains-append_cases (r ∷ front ++ back) (both_ways lines) t k) [
      | inl i ↦ Contains-append_left (front ++ r ∷ back) (both_ways lines) t (contains_middle front r back t i)
      | inr i ↦ Contains-append_right (front ++ r ∷ back) (both_ways lines) t i
    ])) g in
    let free : Free r (front ++ back) (both_ways lines) = record {
      needed = needed;
      pointed = λ t k g. c.pointed t (contains_middle front r back t k) (more (λ j. neg_ℤ (entry t j)) g);
    } in
    record {
      apart = λ g. needed (generated_right (front ++ back) (both_ways lines) (entry r) g);
      splits = λ k t y gt gy e.
          let x = needed_splits r (front ++ back) (both_ways lines) free k (entry t) y (parts_of lines front r back (entry t) gt) (parts_of lines front r back y gy) e in
          record { times = x.0; positive = x.2; other = x.1; line = x.3; on_line = x.4; is_beside = x.5 };
    }

-- each ray of a canonical description is extreme
pub ray_extreme : (lines rays : List (List ℤ)) (r : List ℤ) → IsCanonical lines rays → Contains rays r → IsExtreme (all_rows lines rays) (both_ways lines) r
ray_extreme lines rays r c k =
    let s = contains_split rays r k in
    subst (λ (x : List (List ℤ)). IsExtreme (all_rows lines x) (both_ways lines) r) (sym s.is)
    (extreme_at lines s.front r s.back (subst (λ (x : List (List ℤ)). IsCanonical lines x) s.is c))

-- ---- the other list has it
-- the two descriptions describe the same cone
abbrev pub SameCone : (lines rays lines' rays' : List (List ℤ)) → Type 0
SameCone lines rays lines' rays' = (u : ℕ → ℤ) → (Generated (all_rows lines rays) u → Generated (all_rows lines' rays') u) × (Generated (all_rows lines' rays') u → Generated (all_rows lines rays) u)

pub on_lines : (lines : List (List ℤ)) (l : ℕ → ℤ) → Generated (both_ways lines) l → Spanned lines l
on_lines lines l g =
    let d = described_generated lines [] l g in
    record {
      multiple = d.multiple;
      positive = d.positive;
      factors = d.free;
      is_sum = λ j. d.is_sum j ∙ ap (λ z. signed_sum d.free lines j +ℤ z) (nothing d.factors j) ∙
          ring (v (signed_sum d.free lines j) ⊕ v (pos 0)) (v (signed_sum d.free lines j)) (omega arith);
    }
  where
    nothing : (fs : List ℕ) (j : ℕ) → sum_of fs [] j ≡ pos 0
    nothing [] j = refl
    nothing (f ∷ fs) j = refl

-- one line list, two ray lists of one cone: each ray of the one is in the other
ray_found : (w : ℕ) (lines rays rays' : List (List ℤ)) → ((t : List ℤ) → Contains rays t → length t ≡ w) → ((t : List ℤ) → Contains rays' t → length t ≡ w) →
    (c : IsCanonical lines rays) → ((t : List ℤ) → Contains rays' t → (q : ℕ) → Contains c.pivots q → entry t q ≡ pos 0) →
    ((t : List ℤ) → Contains rays' t → Generated (all_rows lines rays) (entry t)) →
    IsCanonical lines rays' → (r : List ℤ) → Contains rays r → Generated (all_rows lines rays') (entry r) → Contains rays' r
ray_found w lines rays rays' wr wr' c red inside c' r k g =
    let cone = all_rows lines rays in
    let d = described_generated lines rays' (entry r) g in
    let sub : (u : ℕ → ℤ) → Generated (both_ways lines) u → Generated cone u = λ u h. generated_right rays (both_ways lines) u h in
    let f = extreme_found cone (both_ways lines) r (ray_extreme lines rays r c k) sub rays' inside d.factors (signed_sum d.free lines) (lines_generated lines d.free) d.multiple d.positive
    (λ j. d.is_sum j ∙ ring (v (signed_sum d.free lines j) ⊕ v (sum_of d.factors rays' j)) (v (sum_of d.factors rays' j) ⊕ v (signed_sum d.free lines j)) (omega arith)) in
    let t = f.0 in
    let b = f.2 in
    let l : ℕ → ℤ = b.line in
    let zero_at : (q : ℕ) → Contains c.pivots q → l q ≡ pos 0 = λ q i.
    ring (v (l q)) ((v (pos b.other) ⊗ v (entry r q) ⊕ v (l q)) ⊕ ⊖ (v (pos b.other) ⊗ v (entry r q))) (omega arith) ∙
    ap (λ z. z +ℤ neg_ℤ (pos b.other *ℤ entry r q)) (sym (b.is_beside q)) ∙
    ap (λ z. (pos b.times *ℤ z) +ℤ neg_ℤ (pos b.other *ℤ entry r q)) (red t f.1 q i) ∙
    ap (λ z. (pos b.times *ℤ pos 0) +ℤ neg_ℤ (pos b.other *ℤ z)) (c.reduced r k q i) ∙
    ring (v (pos b.times) ⊗ v (pos 0) ⊕ ⊖ (v (pos b.other) ⊗ v (pos 0))) (v (pos 0)) (omega arith) in
    let flat : (j : ℕ) → l j ≡ pos 0 = all_zero lines c.pivots c.echelon l (on_lines lines l b.on_line) zero_at in
    let multiples : (j : ℕ) → pos b.times *ℤ entry t j ≡ pos b.other *ℤ entry r j = λ j. b.is_beside j ∙ ap (λ z. (pos b.other *ℤ entry r j) +ℤ z) (flat j) ∙
    ring (v (pos b.other) ⊗ v (entry r j) ⊕ v (pos 0)) (v (pos b.other) ⊗ v (entry r j)) (omega arith) in
    let mn : b.times ≡ b.other = same_multiple b.times b.other t r (c'.lowest t f.1) (c.lowest r k) multiples in
    let same : t ≡ r = row_same t r (wr' t f.1 ∙ sym (wr r k)) (λ j. cancel_same b.times (entry t j) (entry r j) b.positive (multiples j ∙ ap (λ (n : ℕ). pos n *ℤ entry r j) (sym mn))) in
    subst (λ (x : List ℤ). Contains rays' x) same f.1

-- canonical descriptions of one cone have equal lines and the same rays
pub canonical_unique : (w : ℕ) (lines rays lines' rays' : List (List ℤ)) →
    ((t : List ℤ) → Contains lines t → length t ≡ w) → ((t : List ℤ) → Contains rays t → length t ≡ w) → ((t : List ℤ) → Contains lines' t → length t ≡ w) →
    ((t : List ℤ) → Contains rays' t → length t ≡ w) →
    IsCanonical lines rays → IsCanonical lines' rays' → SameCone lines rays lines' rays' →
    (lines ≡ lines') × ((r : List ℤ) → (Contains rays r → Contains rays' r) × (Contains rays' r → Contains rays r))
canonical_unique w lines rays lines' rays' wl wr wl' wr' c c' same =
    let spans : (u : ℕ → ℤ) → (Spanned lines u → Spanned lines' u) × (Spanned lines' u → Spanned lines u) = λ u. (
      λ g. lines_are_all lines' rays' c' u ((same u).0 (spanned_in_cone lines rays u g)) ((same (λ j. neg_ℤ (u j))).0 (spanned_in_cone lines rays (λ j. neg_ℤ (u j)) (spanned_negative lines u g))),
      λ g. lines_are_all lines rays c u ((same u).1 (spanned_in_cone lines' rays' u g)) ((same (λ j. neg_ℤ (u j))).1 (spanned_in_cone lines' rays' (λ j. neg_ℤ (u j)) (spanned_negative lines' u g))),
    ) in
    let e = echelon_unique w lines lines' c.pivots c'.pivots wl wl' c.echelon c'.echelon spans in
    let d : IsCanonical lines rays' = subst (λ (x : List (List ℤ)). IsCanonical x rays') (sym e.0) c' in
    let d' : IsCanonical lines rays' = record {
      pivots = c'.pivots;
      echelon = subst (λ (x : List (List ℤ)). IsEchelon x c'.pivots) (sym e.0) c'.echelon;
      reduced = c'.reduced;
      lowest = c'.lowest;
      needed = d.needed;
      pointed = d.pointed;
    } in
    let same' : SameCone lines rays lines rays' = subst (λ (x : List (List ℤ)). SameCone lines rays x rays') (sym e.0) same in (
      e.0,
      λ r. (
        λ k. ray_found w lines rays rays' wr wr' c (λ t i q m. c'.reduced t i q (subst (λ (x : List ℕ). Contains x q) e.1 m))
            (λ t i. (same' (entry t)).1 (generated_left rays' (both_ways lines) (entry t) (generated_row rays' t i))) d r k
            ((same' (entry r)).0 (generated_left rays (both_ways lines) (entry r) (generated_row rays r k))),
        λ k. ray_found w lines rays' rays wr' wr d' (λ t i q m. c.reduced t i q (subst (λ (x : List ℕ). Contains x q) (sym e.1) m))
            (λ t i. (same' (entry t)).0 (generated_left rays (both_ways lines) (entry t) (generated_row rays t i))) c r k
            ((same' (entry r)).1 (generated_left rays' (both_ways lines) (entry r) (generated_row rays' r k))),
      ),
    )

-- ---- no ray twice, so as many rays
-- a needed ray stands there once
no_repeat_from : (lines front rest : List (List ℤ)) → IsCanonical lines (front ++ rest) → NoRepeat rest
no_repeat_from lines front [] c = tt
no_repeat_from lines front (x ∷ rest) c = (
  λ k. c.needed front x rest refl (generated_left (front ++ rest) (both_ways lines) (entry x) (generated_row (front ++ rest) x (Contains-append_right front rest x k))),
  no_repeat_from lines (front ++ x ∷ []) rest (subst (λ (y : List (List ℤ)). IsCanonical lines y) (sym (append_assoc front (x ∷ []) rest)) c),
)

-- no ray stands there twice
pub no_repeat : (lines rays : List (List ℤ)) → IsCanonical lines rays → NoRepeat rays
no_repeat lines rays c = no_repeat_from lines [] rays c

-- ---- for the descriptions of one system
-- rows that describe one system generate the same
pub same_from_dual : (w : ℕ) (system rows other : List (List ℤ)) → AreDual w system rows → AreDual w system other → (u : ℕ → ℤ) → Generated rows u → Generated other u
same_from_dual w system rows other d e u g = generated_through other rows u (λ t k. e.solutions t (d.row_widths t k) (d.meets t k)) g

-- one spelling: two canonical descriptions of one system have equal lines, the same rays, and as many
pub one_spelling : (w : ℕ) (system lines rays lines' rays' : List (List ℤ)) → AreDual w system (all_rows lines rays) → AreDual w system (all_rows lines' rays') → IsCanonical lines rays →
    IsCanonical lines' rays' →
    (lines ≡ lines') × ((r : List ℤ) → (Contains rays r → Contains rays' r) × (Contains rays' r → Contains rays r)) × (length rays ≡ length rays')
one_spelling w system lines rays lines' rays' d e c c' =
    let same : SameCone lines rays lines' rays' = λ u. (
      same_from_dual w system (all_rows lines rays) (all_rows lines' rays') d e u,
      same_from_dual w system (all_rows lines' rays') (all_rows lines rays) e d u,
    ) in
    let x = canonical_unique w lines rays lines' rays'
    (λ t k. d.row_widths t (Contains-append_right rays (both_ways lines) t (in_lines lines t k))) (λ t k. d.row_widths t (Contains-append_left rays (both_ways lines) t k))
    (λ t k. e.row_widths t (Contains-append_right rays' (both_ways lines') t (in_lines lines' t k))) (λ t k. e.row_widths t (Contains-append_left rays' (both_ways lines') t k)) c c' same in
    let a = at_most rays rays' (no_repeat lines rays c) (λ t. (x.1 t).0) in
    let b = at_most rays' rays (no_repeat lines' rays' c') (λ t. (x.1 t).1) in
    let same_length : length rays ≡ length rays' = omega arith in
    (x.0, x.1, same_length)

-- if one canonical list is too long, each is
pub too_many : (w limit : ℕ) (system lines rays lines' rays' : List (List ℤ)) → AreDual w system (all_rows lines rays) → AreDual w system (all_rows lines' rays') → IsCanonical lines rays →
    IsCanonical lines' rays' → limit < length rays → limit < length rays'
too_many w limit system lines rays lines' rays' d e c c' h = let x = one_spelling w system lines rays lines' rays' d e c c' in omega (arith, x.2)
