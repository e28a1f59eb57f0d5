-- Two rays at which few rows are both tight have a third ray that is tight wherever both are. A row other than 0 has product 0 with these
-- few rows, with all lines and with both rays. Far enough along the two rays it lies in the cone, so it is a sum of rays and lines there;
-- its product with itself isn't 0, so some ray has a factor and a product other than 0 with it, which the two rays and the lines have not.
use Rattle.std.proofs.Common.{List, [], ap, arith, get_or, inl, inr, length, negsuc, pos, refl, subst, suc, sym, zero, ℕ, ℤ, ◌*ℤ◌, ◌*◌, ◌++◌, ◌+ℤ◌, ◌+◌, ◌<◌, ◌∙◌, ◌∷◌, ◌≡◌, ◌≤ℤ◌, ◌≤◌, ◌⊎◌}
use Rattle.std.proofs.{lemmas.Int.ints, lemmas.List.length-append, lemmas.List.Elements.Contains-append_left, lemmas.List.Elements.Contains-append_right}
use Rattle.std.specs.List.{Contains}
use Rattle.lra_cone.specs.Crates.lra_linear_spec.Cones.{AreDual, Described, Solves, all_rows, both_ways}
use Rattle.lra_cone.specs.Crates.lra_linear_spec.Vectors.{blend, dot, entry, product, signed_sum, sum_of}
use Rattle.lra_cone.proofs.Crates.lra_linear_spec.Membership.{contains_cases, contains_head, contains_none, contains_tail}
use Rattle.lra_cone.proofs.Crates.lra_linear_spec.Products.{blend_length, dot_add, dot_linear, dot_plus, dot_same, dot_scale, dot_zero, entry_blend, product_comm}
use Rattle.lra_cone.proofs.Crates.lra_linear_spec.Ring.{mul_nonnegative, ring, v, ◌⊕◌, ◌⊗◌}
use Rattle.lra_cone.proofs.Crates.lra_linear_spec.Signs.{add_nonnegative, no_product, zero_at_least}
use Rattle.lra_cone.proofs.Crates.{lra_linear_spec.LinearMaps.sum_nonneg, lra_linear_spec.Lines.described_generated, lra_linear_spec.Saturation.TightToo, lra_linear_spec.Saturation.tight_sum}
use Rattle.lra_canonical.specs.Reduced.{SolvesAll}
use Rattle.lra_canonical.proofs.Solutions.{signed_spanned, solves_all, spanned_solved}
use Rattle.lra_cone.proofs.Homogeneous.{Vanish, as_forms, forms_many, other_factor, root, zero_or}

-- ---- a row whose product with itself is 0
square : (z : ℤ) → pos 0 ≤ℤ (z *ℤ z)
square (pos n) = mul_nonnegative (pos n) (pos n) (omega (arith, ints)) (omega (arith, ints))
square (negsuc n) =
    subst (λ (y : ℤ). pos 0 ≤ℤ y) (ring (v (pos (suc n)) ⊗ v (pos (suc n))) (v (negsuc n) ⊗ v (negsuc n)) (omega arith))
    (mul_nonnegative (pos (suc n)) (pos (suc n)) (omega (arith, ints)) (omega (arith, ints)))

square_zero : (z : ℤ) → z *ℤ z ≡ pos 0 → z ≡ pos 0
square_zero z e = elim (zero_or z) [ inl h ↦ h | inr n ↦ other_factor z z n e ]

self_product : (x : List ℤ) → pos 0 ≤ℤ product x x
self_product [] = omega (arith, ints)
self_product (z ∷ x) = add_nonnegative (z *ℤ z) (product x x) (square z) (self_product x)

both_zero : (a b : ℤ) → pos 0 ≤ℤ a → pos 0 ≤ℤ b → a +ℤ b ≡ pos 0 → (a ≡ pos 0) × (b ≡ pos 0)
both_zero a b h k e = (omega (arith, ints, h, k, e), omega (arith, ints, h, k, e))

self_zero : (x : List ℤ) → product x x ≡ pos 0 → (j : ℕ) → entry x j ≡ pos 0
self_zero [] e j = refl
self_zero (z ∷ x) e zero = square_zero z (both_zero (z *ℤ z) (product x x) (square z) (self_product x) e).0
self_zero (z ∷ x) e (suc j) = self_zero x (both_zero (z *ℤ z) (product x x) (square z) (self_product x) e).1 j

-- ---- far enough along the two rays
-- m a + b is not negative for all large m
enough : (a b : ℤ) → pos 0 ≤ℤ a → (a ≡ pos 0 → b ≡ pos 0) → (k : ℕ) × ((m : ℕ) → k ≤ m → pos 0 ≤ℤ ((pos m *ℤ a) +ℤ b))
enough (negsuc a) b h t = absurd (omega (arith, ints, h))
enough (pos zero) b h t = (
  0,
  λ m l. zero_at_least ((pos m *ℤ pos 0) +ℤ b) (ap (λ (z : ℤ). (pos m *ℤ pos 0) +ℤ z) (t refl) ∙ ring (v (pos m) ⊗ v (pos 0) ⊕ v (pos 0)) (v (pos 0)) (omega arith)),
)
enough (pos (suc a)) (pos b) h t = (
  0,
  λ m l. add_nonnegative (pos m *ℤ pos (suc a)) (pos b) (mul_nonnegative (pos m) (pos (suc a)) (omega (arith, ints)) (omega (arith, ints))) (omega (arith, ints)),
)
enough (pos (suc a)) (negsuc b) h t = (suc b, λ m l. times_above a b m l)
  where
    nat_above : (a b m : ℕ) → b ≤ m → b ≤ m * suc a
    nat_above a b m l = grind arith

    times_above : (a b m : ℕ) → suc b ≤ m → pos 0 ≤ℤ ((pos m *ℤ pos (suc a)) +ℤ negsuc b)
    times_above a b m l = omega (arith, ints, nat_above a (suc b) m l)

-- the same of each row of a system
far : (system : List (List ℤ)) (a b : List ℤ → ℤ) → ((s : List ℤ) → Contains system s → pos 0 ≤ℤ a s) → ((s : List ℤ) → Contains system s → a s ≡ pos 0 → b s ≡ pos 0) →
    (k : ℕ) × ((m : ℕ) → k ≤ m → (s : List ℤ) → Contains system s → pos 0 ≤ℤ ((pos m *ℤ a s) +ℤ b s))
far [] a b h t = (0, λ m l s k. absurd (contains_none s k))
far (s ∷ system) a b h t =
    let i = far system a b (λ c k. h c (contains_tail s c system k)) (λ c k. t c (contains_tail s c system k)) in
    let e = enough (a s) (b s) (h s (contains_head s system)) (t s (contains_head s system)) in (
      i.0 + e.0,
      λ m l c k. elim (contains_cases s c system k) [
        | inl q ↦ subst (λ (y : List ℤ). pos 0 ≤ℤ ((pos m *ℤ a y) +ℤ b y)) q (e.1 m (omega (arith, l)))
        | inr d ↦ i.1 m (omega (arith, l)) c d
      ],
    )

-- k (u + d) + x
abbrev point : ℕ → List ℤ → List ℤ → List ℤ → List ℤ
point k u d x = blend (pos k) (pos 1) (blend (pos 1) (pos 1) u d) x

pair_product : (c u d : List ℤ) → length u ≡ length d → dot c (entry (blend (pos 1) (pos 1) u d)) ≡ dot c (entry u) +ℤ dot c (entry d)
pair_product c u d e =
    dot_same c (entry (blend (pos 1) (pos 1) u d)) (λ j. (pos 1 *ℤ entry u j) +ℤ (pos 1 *ℤ entry d j)) (entry_blend (pos 1) (pos 1) u d e) ∙ dot_linear c (pos 1) (pos 1) (entry u) (entry d) ∙
    ring (v (pos 1) ⊗ v (dot c (entry u)) ⊕ v (pos 1) ⊗ v (dot c (entry d))) (v (dot c (entry u)) ⊕ v (dot c (entry d))) (omega arith)

point_product : (c u d x : List ℤ) (k : ℕ) → length u ≡ length d → length u ≡ length x →
    dot c (entry (point k u d x)) ≡ (pos k *ℤ (dot c (entry u) +ℤ dot c (entry d))) +ℤ dot c (entry x)
point_product c u d x k e f =
    let both = blend (pos 1) (pos 1) u d in
    let long : length both ≡ length x = blend_length (pos 1) (pos 1) u d e ∙ f in
    dot_same c (entry (blend (pos k) (pos 1) both x)) (λ j. (pos k *ℤ entry both j) +ℤ (pos 1 *ℤ entry x j)) (entry_blend (pos k) (pos 1) both x long) ∙
    dot_linear c (pos k) (pos 1) (entry both) (entry x) ∙ ap (λ z. (pos k *ℤ z) +ℤ (pos 1 *ℤ dot c (entry x))) (pair_product c u d e) ∙
    ring (v (pos k) ⊗ (v (dot c (entry u)) ⊕ v (dot c (entry d))) ⊕ v (pos 1) ⊗ v (dot c (entry x)))
    (v (pos k) ⊗ (v (dot c (entry u)) ⊕ v (dot c (entry d))) ⊕ v (dot c (entry x))) (omega arith)

-- ---- a ray of a sum
-- one with a product other than 0 with x that is tight wherever the sum is
record Used (system rays : List (List ℤ)) (fs : List ℕ) (x : List ℤ) : Type 0 where
  place : ℕ
  inside : place < length rays
  across : ¬ (dot x (entry (get_or rays place [])) ≡ pos 0)
  tight : TightToo system (sum_of fs rays) (entry (get_or rays place []))

rest_zero : (n : ℕ) (a b : ℤ) → a ≡ pos 0 → (pos (suc n) *ℤ a) +ℤ b ≡ pos 0 → b ≡ pos 0
rest_zero n a b z e = ring (v b) (v (pos (suc n)) ⊗ v (pos 0) ⊕ v b) (omega arith) ∙ ap (λ y. (pos (suc n) *ℤ y) +ℤ b) (sym z) ∙ e

-- or all products are 0
used : (system rays : List (List ℤ)) → ((r : List ℤ) → Contains rays r → Solves system (entry r)) → (fs : List ℕ) (x : List ℤ) → Used system rays fs x ⊎ (dot x (sum_of fs rays) ≡ pos 0)
used system rays h [] x = inr (dot_zero x)
used system [] h (f ∷ fs) x = inr (dot_zero x)
used system (r ∷ rays) h (zero ∷ fs) x =
    let s0 : ℕ → ℤ = sum_of fs rays in
    let same : (j : ℕ) → sum_of (0 ∷ fs) (r ∷ rays) j ≡ s0 j = λ j. ring (v (pos 0) ⊗ v (entry r j) ⊕ v (s0 j)) (v (s0 j)) (omega arith) in
    elim (used system rays (λ t k. h t (contains_tail r t rays k)) fs x) [
      | inl i ↦ inl (record {
        place = suc i.place;
        inside = omega (arith, i.inside);
        across = i.across;
        tight = λ s m z. i.tight s m (sym (dot_same s (sum_of (0 ∷ fs) (r ∷ rays)) s0 same) ∙ z);
      })
      | inr e ↦ inr (dot_same x (sum_of (0 ∷ fs) (r ∷ rays)) s0 same ∙ e)
    ]
used system (r ∷ rays) h (suc f ∷ fs) x =
    let s0 : ℕ → ℤ = sum_of fs rays in
    let rest : (s : List ℤ) → Contains system s → pos 0 ≤ℤ dot s s0 = λ s m. sum_nonneg s rays (λ t k. h t (contains_tail r t rays k) s m) fs in
    let here : (s : List ℤ) → Contains system s → dot s (sum_of (suc f ∷ fs) (r ∷ rays)) ≡ pos 0 → dot s (entry r) ≡ pos 0 =
    λ s m z. tight_sum (dot s (entry r)) (dot s s0) (pos 0) f (h r (contains_head r rays) s m) (rest s m) (sym (dot_plus s (pos (suc f)) (entry r) s0) ∙ z) in
    elim (zero_or (dot x (entry r))) [
      | inr n ↦ inl (record { place = 0; inside = omega arith; across = n; tight = here })
      | inl e ↦ elim (used system rays (λ t k. h t (contains_tail r t rays k)) fs x) [
        | inl i ↦ inl (record {
          place = suc i.place;
          inside = omega (arith, i.inside);
          across = i.across;
          tight = λ s m z. i.tight s m (rest_zero f (dot s (entry r)) (dot s s0) (here s m z) (sym (dot_plus s (pos (suc f)) (entry r) s0) ∙ z));
        })
        | inr d ↦ inr (dot_plus x (pos (suc f)) (entry r) s0 ∙ ap (λ z. (pos (suc f) *ℤ z) +ℤ dot x s0) e ∙ ap (λ z. (pos (suc f) *ℤ pos 0) +ℤ z) d ∙
            ring (v (pos (suc f)) ⊗ v (pos 0) ⊕ v (pos 0)) (v (pos 0)) (omega arith))
      ]
    ]

-- with a row that has product 0 with the lines, the rays of a sum have the product of the whole
rays_product : (c : List ℤ) (lines rays : List (List ℤ)) (u : ℕ → ℤ) (d : Described lines rays u) → SolvesAll lines c → dot c (sum_of d.factors rays) ≡ pos d.multiple *ℤ dot c u
rays_product c lines rays u d flat =
    let on_lines : ℕ → ℤ = signed_sum d.free lines in
    let on_rays : ℕ → ℤ = sum_of d.factors rays in
    ring (v (dot c on_rays)) (v (pos 0) ⊕ v (dot c on_rays)) (omega arith) ∙
    ap (λ z. z +ℤ dot c on_rays) (sym (spanned_solved lines on_lines c (signed_spanned lines d.free) flat)) ∙ sym (dot_add c on_lines on_rays) ∙
    sym (dot_same c (λ j. pos d.multiple *ℤ u j) (λ j. on_lines j +ℤ on_rays j) d.is_sum) ∙ dot_scale c (pos d.multiple) u

-- the point far along two rays, as wide as they are
point_width : (k w : ℕ) (u d x : List ℤ) → length u ≡ length d → length u ≡ length x → length u ≡ w → length (point k u d x) ≡ w
point_width k w u d x e f h =
    let long : length (blend (pos 1) (pos 1) u d) ≡ length u = blend_length (pos 1) (pos 1) u d e in
    blend_length (pos k) (pos 1) (blend (pos 1) (pos 1) u d) x (long ∙ f) ∙ long ∙ h

vanishes : (n k a b c : ℤ) → a ≡ pos 0 → b ≡ pos 0 → c ≡ pos 0 → n *ℤ ((k *ℤ (a +ℤ b)) +ℤ c) ≡ pos 0
vanishes n k a b c ea eb ec =
    ap (λ z. n *ℤ ((k *ℤ (z +ℤ b)) +ℤ c)) ea ∙ ap (λ z. n *ℤ ((k *ℤ (pos 0 +ℤ z)) +ℤ c)) eb ∙ ap (λ z. n *ℤ ((k *ℤ (pos 0 +ℤ pos 0)) +ℤ z)) ec ∙
    ring (v n ⊗ (v k ⊗ (v (pos 0) ⊕ v (pos 0)) ⊕ v (pos 0))) (v (pos 0)) (omega arith)

remains : (k a b c : ℤ) → a ≡ pos 0 → b ≡ pos 0 → (k *ℤ (a +ℤ b)) +ℤ c ≡ pos 0 → c ≡ pos 0
remains k a b c ea eb e =
    ring (v c) (v k ⊗ (v (pos 0) ⊕ v (pos 0)) ⊕ v c) (omega arith) ∙ ap (λ z. (k *ℤ (pos 0 +ℤ z)) +ℤ c) (sym eb) ∙ ap (λ z. (k *ℤ (z +ℤ b)) +ℤ c) (sym ea) ∙ e

-- what vanishes at both rays and at x vanishes at the rays of a sum that gives the point
sum_vanishes : (c : List ℤ) (lines rays : List (List ℤ)) (f : ℕ → ℤ) (sum : Described lines rays f) (k a b e : ℤ) → SolvesAll lines c → dot c f ≡ (k *ℤ (a +ℤ b)) +ℤ e →
    a ≡ pos 0 → b ≡ pos 0 → e ≡ pos 0 → dot c (sum_of sum.factors rays) ≡ pos 0
sum_vanishes c lines rays f sum k a b e flat is ea eb ee =
    rays_product c lines rays f sum flat ∙ ap (λ z. pos sum.multiple *ℤ z) is ∙ vanishes (pos sum.multiple) k a b e ea eb ee

-- what vanishes at both rays and at the rays of the sum vanishes at x
rest_vanishes : (c : List ℤ) (lines rays : List (List ℤ)) (f : ℕ → ℤ) (sum : Described lines rays f) (k a b e : ℤ) → SolvesAll lines c → dot c f ≡ (k *ℤ (a +ℤ b)) +ℤ e →
    a ≡ pos 0 → b ≡ pos 0 → dot c (sum_of sum.factors rays) ≡ pos 0 → e ≡ pos 0
rest_vanishes c lines rays f sum k a b e flat is ea eb z =
    let whole : dot c f ≡ pos 0 = no_product sum.multiple (dot c f) sum.positive (sym (rays_product c lines rays f sum flat) ∙ z) in
    remains k a b e ea eb (sym is ∙ whole)

-- ---- rows at which all these vanish
vanish_at : (rows : List (List ℤ)) (x : List ℤ) → Vanish (as_forms rows) x → (r : List ℤ) → Contains rows r → dot x (entry r) ≡ pos 0
vanish_at [] x all r k = absurd (contains_none r k)
vanish_at (t ∷ rows) x all r k = elim (contains_cases t r rows k) [
  | inl e ↦ subst (λ (y : List ℤ). dot x (entry y) ≡ pos 0) e all.0
  | inr m ↦ vanish_at rows x all.1 r m
]

-- ---- the third ray
pub record ThirdRay (system rays : List (List ℤ)) (u d : List ℤ) : Type 0 where
  pub place : ℕ
  pub inside : place < length rays
  pub not_up : ¬ (get_or rays place [] ≡ u)
  pub not_down : ¬ (get_or rays place [] ≡ d)
  pub tight : (s : List ℤ) → Contains system s → dot s (entry u) ≡ pos 0 → dot s (entry d) ≡ pos 0 → dot s (entry (get_or rays place [])) ≡ pos 0

-- the rows that are tight at both, so that what they vanish at is where each such row of the system does
abbrev pub AreTight : List (List ℤ) → List (List ℤ) → List ℤ → List ℤ → Type 0
AreTight tight system u d = (x : List ℤ) → ((c : List ℤ) → Contains tight c → dot c (entry x) ≡ pos 0) →
    (s : List ℤ) → Contains system s → dot s (entry u) ≡ pos 0 → dot s (entry d) ≡ pos 0 → dot s (entry x) ≡ pos 0

module _ (w : ℕ) (system lines rays tight : List (List ℤ)) (u d : List ℤ) (dual : AreDual w system (all_rows lines rays)) (hu : Contains rays u) (hd : Contains rays d) where
  solves : (r : List ℤ) → Contains rays r → Solves system (entry r)
  solves r k = dual.meets r (Contains-append_left rays (both_ways lines) r k)

  width : (r : List ℤ) → Contains rays r → length r ≡ w
  width r k = dual.row_widths r (Contains-append_left rays (both_ways lines) r k)

  -- the lines lie on each row of the system
  flat : (s : List ℤ) → Contains system s → SolvesAll lines s
  flat s m = solves_all lines rays s (λ t k. subst (λ (z : ℤ). pos 0 ≤ℤ z) (product_comm s t) (dual.meets t k s m))

  abbrev both : List ℤ → ℤ
  both s = dot s (entry u) +ℤ dot s (entry d)

  both_above : (s : List ℤ) → Contains system s → pos 0 ≤ℤ both s
  both_above s m = add_nonnegative (dot s (entry u)) (dot s (entry d)) (solves u hu s m) (solves d hd s m)

  pub third_ray : length tight + length lines + 2 < w → AreTight tight system u d → ThirdRay system rays u d
  third_ray small covers =
      let all = u ∷ d ∷ (lines ++ tight) in
      let many : length (as_forms all) ≡ suc (suc (length (lines ++ tight))) = forms_many all in
      let few : length (as_forms all) < w = omega (arith, small, many, length-append lines tight) in
      let r = root w (as_forms all) few in
      let x = r.row in
      let holds : (t : List ℤ) → Contains all t → dot x (entry t) ≡ pos 0 = vanish_at all x r.vanish in
      let xu : dot x (entry u) ≡ pos 0 = holds u (contains_head u (d ∷ (lines ++ tight))) in
      let xd : dot x (entry d) ≡ pos 0 = holds d (contains_tail u d (d ∷ (lines ++ tight)) (contains_head d (lines ++ tight))) in
      let later : (t : List ℤ) → Contains (lines ++ tight) t → dot x (entry t) ≡ pos 0 = λ t k. holds t (contains_tail u t (d ∷ (lines ++ tight)) (contains_tail d t (lines ++ tight) k)) in
      let xl : SolvesAll lines x = λ t k. product_comm t x ∙ later t (Contains-append_left lines tight t k) in
      let xt : (c : List ℤ) → Contains tight c → dot c (entry x) ≡ pos 0 = λ c k. product_comm c x ∙ later c (Contains-append_right lines tight c k) in
      let on : (s : List ℤ) → Contains system s → dot s (entry u) ≡ pos 0 → dot s (entry d) ≡ pos 0 → dot s (entry x) ≡ pos 0 = covers x xt in
      let f = far system both (λ s. dot s (entry x)) both_above
      (λ s m z. let p = both_zero (dot s (entry u)) (dot s (entry d)) (solves u hu s m) (solves d hd s m) z in on s m p.0 p.1) in
      let k = f.0 in
      let p = point k u d x in
      let same : length u ≡ length d = width u hu ∙ sym (width d hd) in
      let long : length u ≡ length x = width u hu ∙ sym r.long in
      let at_point : (c : List ℤ) → dot c (entry p) ≡ (pos k *ℤ (dot c (entry u) +ℤ dot c (entry d))) +ℤ dot c (entry x) = λ c. point_product c u d x k same long in
      let width_p : length p ≡ w = point_width k w u d x same long (width u hu) in
      let inside : Solves system (entry p) = λ s m. subst (λ (z : ℤ). pos 0 ≤ℤ z) (sym (at_point s)) (f.1 k (omega arith) s m) in
      let sum = described_generated lines rays (entry p) (dual.solutions p width_p inside) in
      -- what is tight at u and d is tight at the point, and at the rays of the sum
      let none : (s : List ℤ) → Contains system s → dot s (entry u) ≡ pos 0 → dot s (entry d) ≡ pos 0 → dot s (sum_of sum.factors rays) ≡ pos 0 =
      λ s m a b. sum_vanishes s lines rays (entry p) sum (pos k) (dot s (entry u)) (dot s (entry d)) (dot s (entry x)) (flat s m) (at_point s) a b (on s m a b) in
      elim (used system rays solves sum.factors x) [
        | inl t ↦ record {
          place = t.place;
          inside = t.inside;
          not_up = λ e. t.across (ap (λ (y : List ℤ). dot x (entry y)) e ∙ xu);
          not_down = λ e. t.across (ap (λ (y : List ℤ). dot x (entry y)) e ∙ xd);
          tight = λ s m a b. t.tight s m (none s m a b);
        }
        | inr z ↦
            let own : product x x ≡ pos 0 = rest_vanishes x lines rays (entry p) sum (pos k) (dot x (entry u)) (dot x (entry d)) (product x x) xl (at_point x) xu xd z in
            absurd (r.other (self_zero x own r.column))
      ]
