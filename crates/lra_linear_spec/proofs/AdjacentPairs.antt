-- Pairs of rays that are not adjacent can be left out of a step (Fukuda and Prodon 1996): a pair with a third ray that is tight
-- wherever both are is a sum of vectors at which more rows are tight, by induction on the number of rows that are not tight.
use Rattle.std.proofs.Common.{Bool, List, [], ap, arith, cond, false, inl, inr, length, neg_ℤ, negsuc, pos, refl, subst, suc, sym, true, zero, ℕ, ℤ, ◌*ℤ◌, ◌*◌, ◌++◌, ◌+ℤ◌, ◌+◌, ◌<ℤ◌, ◌<◌, ◌∙◌, ◌∷◌}
use Rattle.std.proofs.lemmas.List.Elements.{Contains-append_cases, Contains-append_left, Contains-append_right}
use Rattle.std.proofs.{Common.◌≡◌, Common.◌≤ℤ◌, Common.◌≤◌, Common.◌⊎◌, Math.IntN.+ℤ_comm, lemmas.Bool.cases_lt, lemmas.Int.ints}
use Rattle.std.specs.List.{Contains}
use borrow.Author.Differences.{down, up}
use Rattle.lra_linear_spec.specs.{Cones.Generated, Cones.Solves, Vectors.blend, Vectors.dot, Vectors.entry, Vectors.sum_of}
use Rattle.lra_linear_spec.proofs.Combinations.{generated_divided, generated_plus, generated_row, generated_same, generated_times}
use Rattle.lra_linear_spec.proofs.Products.{blend_length, dot_linear, dot_plus, dot_same, dot_scale, entry_blend}
use Rattle.lra_linear_spec.proofs.Signs.{above_zero, add_nonnegative, as_nat, cases_sign, compare_two, divide_nonnegative, neg_nat, positive_is_nonnegative, positive_nat, neg_positive}
use Rattle.lra_linear_spec.proofs.{AllPairs.kept_only, AllPairs.pairs_only, AllPairs.step_rows_are, DoubleDescription.kept, DoubleDescription.pair, DoubleDescription.pairs}
use Rattle.lra_linear_spec.proofs.{DoubleDescription.step_rows, LinearMaps.generated_through, LinearMaps.sum_nonneg, Membership.contains_cases, Membership.contains_head, Membership.contains_tail}
use Rattle.lra_linear_spec.proofs.{Ring.mul_nonnegative, Ring.ring, Ring.v, Ring.⊖, Ring.◌⊕◌, Ring.◌⊗◌, Saturation.AdjacentStep, Saturation.TightToo, Saturation.tight_sum, Step.step_complete}

-- ---- how many rows are not tight
-- a test that counts
abbrev is_zero : ℤ → Bool
is_zero (pos zero) = true
is_zero (pos (suc n)) = false
is_zero (negsuc n) = false

zero_said : (z : ℤ) → is_zero z ≡ true → z ≡ pos 0
zero_said (pos zero) e = refl
zero_said (pos (suc n)) e = cc
zero_said (negsuc n) e = cc

abbrev count : ℤ → ℕ
count z = cond (is_zero z) 0 1

-- the number of rows of the system that are not tight
abbrev loose : List (List ℤ) → (ℕ → ℤ) → ℕ
loose [] u = 0
loose (s ∷ system) u = count (dot s u) + loose system u

count_one : (z : ℤ) → count z ≤ 1
count_one (pos zero) = omega arith
count_one (pos (suc n)) = omega arith
count_one (negsuc n) = omega arith

count_le : (a b : ℤ) → (a ≡ pos 0 → b ≡ pos 0) → count b ≤ count a
count_le (pos zero) b h = let e : b ≡ pos 0 = h refl in subst (λ (z : ℤ). count z ≤ 0) (sym e) (omega arith)
count_le (pos (suc n)) b h = count_one b
count_le (negsuc n) b h = count_one b

count_lt : (a b : ℤ) → ¬ (a ≡ pos 0) → b ≡ pos 0 → count b < count a
count_lt (pos zero) b h e = absurd (h refl)
count_lt (pos (suc n)) b h e = subst (λ (z : ℤ). count z < 1) (sym e) (omega arith)
count_lt (negsuc n) b h e = subst (λ (z : ℤ). count z < 1) (sym e) (omega arith)

-- no more rows are loose if each tight row stays tight, and fewer if one more is tight
loose_le : (system : List (List ℤ)) (u w : ℕ → ℤ) → TightToo system u w → loose system w ≤ loose system u
loose_le [] u w t = omega arith
loose_le (s ∷ system) u w t =
    let a = count_le (dot s u) (dot s w) (t s (contains_head s system)) in
    let b = loose_le system u w (λ c k. t c (contains_tail s c system k)) in omega (arith, a, b)

loose_lt : (system : List (List ℤ)) (u w : ℕ → ℤ) → TightToo system u w → (c : List ℤ) → Contains system c → ¬ (dot c u ≡ pos 0) → dot c w ≡ pos 0 → loose system w < loose system u
loose_lt [] u w t c k h e = absurd (omega (arith, k.1))
loose_lt (s ∷ system) u w t c k h e = elim (contains_cases s c system k) [
  | inl q ↦
      let a = count_lt (dot s u) (dot s w) (λ z. h (ap (λ y. dot y u) (sym q) ∙ z)) (ap (λ y. dot y w) q ∙ e) in
      let b = loose_le system u w (λ x i. t x (contains_tail s x system i)) in omega (arith, a, b)
  | inr d ↦
      let a = count_le (dot s u) (dot s w) (t s (contains_head s system)) in
      let b = loose_lt system u w (λ x i. t x (contains_tail s x system i)) c d h e in omega (arith, a, b)
]

-- ---- as far as the cone goes from x against q
-- k a - m b
abbrev gap : ℕ → ℕ → ℤ → ℤ → ℤ
gap k m a b = (pos k *ℤ a) +ℤ neg_ℤ (pos m *ℤ b)

-- as far as k x - m q stays in the cone, and a row that then is tight
record Reach (x q : ℕ → ℤ) (seen all : List (List ℤ)) : Type 0 where
  k : ℕ
  m : ℕ
  positive : 0 < m
  meets : (s : List ℤ) → Contains seen s → pos 0 ≤ℤ gap k m (dot s x) (dot s q)
  tight : (k ≡ 0) ⊎ ((s : List ℤ) × Contains all s × (pos 0 <ℤ dot s x) × (gap k m (dot s x) (dot s q) ≡ pos 0))

negated_low : (z : ℤ) → z <ℤ pos 0 → pos 0 ≤ℤ neg_ℤ z
negated_low z h = omega (arith, ints)

earlier : (k m a b at bt : ℤ) → pos 0 ≤ℤ a → pos 0 ≤ℤ at → ((k *ℤ a) +ℤ neg_ℤ (m *ℤ b)) <ℤ pos 0 → pos 0 ≤ℤ ((k *ℤ at) +ℤ neg_ℤ (m *ℤ bt)) → pos 0 ≤ℤ (m *ℤ ((b *ℤ at) +ℤ neg_ℤ (a *ℤ bt)))
earlier k m a b at bt ha hat low ok =
    subst (λ z. pos 0 ≤ℤ z) (ring (⊖ (v k ⊗ v a ⊕ ⊖ (v m ⊗ v b)) ⊗ v at ⊕ v a ⊗ (v k ⊗ v at ⊕ ⊖ (v m ⊗ v bt))) (v m ⊗ (v b ⊗ v at ⊕ ⊖ (v a ⊗ v bt))) (omega arith))
    (add_nonnegative _ _ (mul_nonnegative (neg_ℤ ((k *ℤ a) +ℤ neg_ℤ (m *ℤ b))) at (negated_low _ low) hat) (mul_nonnegative a ((k *ℤ at) +ℤ neg_ℤ (m *ℤ bt)) ha ok))

no_gap : (k m : ℕ) (a b : ℤ) → a ≡ pos 0 → b ≡ pos 0 → gap k m a b <ℤ pos 0 → ⊥
no_gap k m a b e f h = let g : gap k m a b ≡ pos 0 = ap (λ z. gap k m z b) e ∙ ap (λ z. gap k m (pos 0) z) f ∙ ring (v (pos k) ⊗ v (pos 0) ⊕ ⊖ (v (pos m) ⊗ v (pos 0))) (v (pos 0)) (omega arith) in
    omega (arith, ints, h, g)

level : (n l : ℕ) (a b : ℤ) → b ≡ pos n → a ≡ pos l → gap n l a b ≡ pos 0
level n l a b e f = ap (λ z. (z *ℤ a) +ℤ neg_ℤ (pos l *ℤ b)) (sym e) ∙ ap (λ z. (b *ℤ a) +ℤ neg_ℤ (z *ℤ b)) (sym f) ∙ ring (v b ⊗ v a ⊕ ⊖ (v a ⊗ v b)) (v (pos 0)) (omega arith)

-- by recursion on the rows
reach : (x q : ℕ → ℤ) (all : List (List ℤ)) → Solves all x → Solves all q → TightToo all x q → (seen : List (List ℤ)) → ((s : List ℤ) → Contains seen s → Contains all s) → Reach x q seen all
reach x q all hx hq t [] sub = record { k = 0; m = 1; positive = omega arith; meets = λ s k. absurd (omega (arith, k.1)); tight = inl refl }
reach x q all hx hq t (r ∷ rows) sub =
    let i = reach x q all hx hq t rows (λ s k. sub s (contains_tail r s rows k)) in
    let has = sub r (contains_head r rows) in
    let a = dot r x in
    let b = dot r q in
    elim (cases_sign (gap i.k i.m a b)) [
      | inl ok ↦ record {
        k = i.k;
        m = i.m;
        positive = i.positive;
        tight = i.tight;
        meets = λ s d. elim (contains_cases r s rows d) [ inl e ↦ subst (λ y. pos 0 ≤ℤ gap i.k i.m (dot y x) (dot y q)) e ok | inr w ↦ i.meets s w ];
      }
      | inr low ↦ elim (above_zero a (hx r has)) [
        | inl z ↦ absurd (no_gap i.k i.m a b z (t r has z) low)
        | inr ap0 ↦
            let n = as_nat b (hq r has) in
            let l = as_nat a (hx r has) in
            record {
              k = n.0;
              m = l.0;
              positive = positive_nat a l.0 ap0 l.1;
              tight = inr (r, has, ap0, level n.0 l.0 a b n.1 l.1);
              meets = λ s d. elim (contains_cases r s rows d) [
                | inl e ↦ subst (λ y. pos 0 ≤ℤ gap n.0 l.0 (dot y x) (dot y q)) e (subst (λ z. pos 0 ≤ℤ z) (sym (level n.0 l.0 a b n.1 l.1)) (omega (arith, ints)))
                | inr w ↦
                    let at = dot s x in
                    let bt = dot s q in
                    subst (λ z. pos 0 ≤ℤ ((z *ℤ at) +ℤ neg_ℤ (pos l.0 *ℤ bt))) n.1 (subst (λ z. pos 0 ≤ℤ ((b *ℤ at) +ℤ neg_ℤ (z *ℤ bt))) l.1
                    (divide_nonnegative i.m ((b *ℤ at) +ℤ neg_ℤ (a *ℤ bt)) i.positive (earlier (pos i.k) (pos i.m) a b at bt (hx r has) (hx s (sub s (contains_tail r s rows w))) low (i.meets s w))))
              ];
            }
      ]
    ]

-- ---- the rows that a sum uses
-- the rows of a sum that have a factor
record Support (system rows : List (List ℤ)) (fs : List ℕ) : Type 0 where
  used : List (List ℤ)
  factors : List ℕ
  is : (j : ℕ) → sum_of fs rows j ≡ sum_of factors used j
  from : (r : List ℤ) → Contains used r → Contains rows r × TightToo system (sum_of fs rows) (entry r)

rest_tight : (n : ℕ) (a b : ℤ) → pos 0 ≤ℤ a → pos 0 ≤ℤ b → (pos (suc n) *ℤ a) +ℤ b ≡ pos 0 → b ≡ pos 0
rest_tight n a b h k e = let z : a ≡ pos 0 = tight_sum a b (pos 0) n h k e in
    ring (v b) (v (pos (suc n)) ⊗ v (pos 0) ⊕ v b) (omega arith) ∙ ap (λ y. (pos (suc n) *ℤ y) +ℤ b) (sym z) ∙ e

-- each is tight wherever the sum is
support : (system rows : List (List ℤ)) → ((r : List ℤ) → Contains rows r → Solves system (entry r)) → (fs : List ℕ) → Support system rows fs
support system rows h [] = record { used = []; factors = []; is = λ j. refl; from = λ r k. absurd (omega (arith, k.1)) }
support system [] h (f ∷ fs) = record { used = []; factors = []; is = λ j. refl; from = λ r k. absurd (omega (arith, k.1)) }
support system (r ∷ rows) h (zero ∷ fs) =
    let i = support system rows (λ t k. h t (contains_tail r t rows k)) fs in
    let e : (j : ℕ) → sum_of (0 ∷ fs) (r ∷ rows) j ≡ sum_of fs rows j = λ j. ring (v (pos 0) ⊗ v (entry r j) ⊕ v (sum_of fs rows j)) (v (sum_of fs rows j)) (omega arith) in
    record {
      used = i.used;
      factors = i.factors;
      is = λ j. e j ∙ i.is j;
      from = λ t k. let b = i.from t k in (contains_tail r t rows b.0, λ s m z. b.1 s m (sym (dot_same s (sum_of (0 ∷ fs) (r ∷ rows)) (sum_of fs rows) e) ∙ z));
    }
support system (r ∷ rows) h (suc f ∷ fs) =
    let i = support system rows (λ t k. h t (contains_tail r t rows k)) fs in
    let s0 : ℕ → ℤ = sum_of fs rows in
    let both : (s : List ℤ) → Contains system s → dot s (sum_of (suc f ∷ fs) (r ∷ rows)) ≡ pos 0 → (dot s (entry r) ≡ pos 0) × (dot s s0 ≡ pos 0) = λ s m z.
    let e = sym (dot_plus s (pos (suc f)) (entry r) s0) ∙ z in
    let nn = sum_nonneg s rows (λ t k. h t (contains_tail r t rows k) s m) fs in
    (tight_sum (dot s (entry r)) (dot s s0) (pos 0) f (h r (contains_head r rows) s m) nn e, rest_tight f (dot s (entry r)) (dot s s0) (h r (contains_head r rows) s m) nn e) in
    record {
      used = r ∷ i.used;
      factors = suc f ∷ i.factors;
      is = λ j. ap (λ z. (pos (suc f) *ℤ entry r j) +ℤ z) (i.is j);
      from = λ t k. elim (contains_cases r t i.used k) [
        | inl e ↦ (subst (Contains (r ∷ rows)) e (contains_head r rows), λ s m z. ap (λ y. dot s (entry y)) (sym e) ∙ (both s m z).0)
        | inr d ↦ let b = i.from t d in (contains_tail r t rows b.0, λ s m z. b.1 s m (both s m z).1)
      ];
    }

pub both_positive : (k a : ℕ) → 0 < k → 0 < a → 0 < k * a
both_positive k a p q = grind arith

-- ---- one step with pairs left out: what is reported about the setting stands in `AdjacentStep`
module _ {w : ℕ} {c : List ℤ} {system rays lines target : List (List ℤ)} (g : AdjacentStep w c system rays lines target) where
  -- f t + y = k r with f above 0, for two different rays: not so
  clash : (r t : List ℤ) → Contains rays r → Contains rays t → ¬ (t ≡ r) → (f k : ℕ) (y : ℕ → ℤ) → 0 < f → Generated (rays ++ lines) y → ((j : ℕ) → (pos f *ℤ entry t j) +ℤ y j ≡ pos k *ℤ entry r j) →
      ⊥
  clash r t hr ht ne zero k y p gy e = absurd (omega arith)
  clash r t hr ht ne (suc f) k y p gy e =
      let gt : Generated (rays ++ lines) (entry t) = generated_row (rays ++ lines) t (Contains-append_left rays lines t ht) in
      let rest : Generated (rays ++ lines) (λ j. (pos f *ℤ entry t j) +ℤ y j) = generated_plus (rays ++ lines) (λ j. pos f *ℤ entry t j) y (generated_times (rays ++ lines) f (entry t) gt) gy in
      ne (g.distinct r t hr ht ((g.extremes r hr).splits k t (λ j. (pos f *ℤ entry t j) +ℤ y j) gt rest
      (λ j. ring (v (entry t j) ⊕ (v (pos f) ⊗ v (entry t j) ⊕ v (y j))) (v (pos (suc f)) ⊗ v (entry t j) ⊕ v (y j)) (omega arith) ∙ e j)))

  line_in : (u : ℕ → ℤ) → Generated lines u → Generated (rays ++ lines) u
  line_in u h = generated_through (rays ++ lines) lines u (λ t k. generated_row (rays ++ lines) t (Contains-append_right rays lines t k)) h

  ray_in : (r : List ℤ) → Contains rays r → Generated (rays ++ lines) (entry r)
  ray_in r h = generated_row (rays ++ lines) r (Contains-append_left rays lines r h)

  -- q is no multiple of x up to a line
  abbrev Apart : List ℤ → List ℤ → Type 0
  Apart x q = (k m : ℕ) (l : ℕ → ℤ) → 0 < k → Generated lines l → ((j : ℕ) → pos k *ℤ entry q j ≡ (pos m *ℤ entry x j) +ℤ l j) → ⊥

  negative_line : (l : ℕ → ℤ) → Generated lines l → Generated (rays ++ lines) (λ j. neg_ℤ (l j))
  negative_line l h = line_in (λ j. neg_ℤ (l j)) (g.reversed l h)

  apart_flat : (p n t x : List ℤ) → Contains rays p → Contains rays n → Contains rays t → ¬ (t ≡ p) → (a b : ℕ) → 0 < a → ((j : ℕ) → entry x j ≡ (pos a *ℤ entry p j) +ℤ (pos b *ℤ entry n j)) →
      Apart x t
  apart_flat p n t x hp hn ht ne a b pa xe k zero l pk gl e =
      clash p t hp ht ne k 0 (λ j. neg_ℤ (l j)) pk (negative_line l gl)
      (λ j. ap (λ z. z +ℤ neg_ℤ (l j)) (e j) ∙ ring ((v (pos 0) ⊗ v (entry x j) ⊕ v (l j)) ⊕ ⊖ (v (l j))) (v (pos 0) ⊗ v (entry p j)) (omega arith))
  apart_flat p n t x hp hn ht ne a b pa xe k (suc m) l pk gl e =
      clash t p ht hp (λ s. ne (sym s)) (suc m * a) k (λ j. (pos (suc m * b) *ℤ entry n j) +ℤ l j) (grind (arith, pa))
      (generated_plus (rays ++ lines) (λ j. pos (suc m * b) *ℤ entry n j) l (generated_times (rays ++ lines) (suc m * b) (entry n) (ray_in n hn)) (line_in l gl))
      (λ j. ring (v (pos (suc m * a)) ⊗ v (entry p j) ⊕ (v (pos (suc m * b)) ⊗ v (entry n j) ⊕ v (l j))) (v (pos (suc m)) ⊗ (v (pos a) ⊗ v (entry p j) ⊕ v (pos b) ⊗ v (entry n j)) ⊕ v (l j))
      (omega arith) ∙
      ap (λ z. (pos (suc m) *ℤ z) +ℤ l j) (sym (xe j)) ∙ sym (e j))

  -- q = a t + d n, x = a p + b n
  apart_mixed : (p n t x q : List ℤ) → Contains rays p → Contains rays n → Contains rays t → ¬ (t ≡ p) → (a b d : ℕ) → 0 < a → ((j : ℕ) → entry x j ≡ (pos a *ℤ entry p j) +ℤ (pos b *ℤ entry n j)) →
      ((j : ℕ) → entry q j ≡ (pos a *ℤ entry t j) +ℤ (pos d *ℤ entry n j)) → Apart x q
  apart_mixed p n t x q hp hn ht ne a b d pa xe qe k m l pk gl e =
      let both : (j : ℕ) → pos k *ℤ ((pos a *ℤ entry t j) +ℤ (pos d *ℤ entry n j)) ≡ (pos m *ℤ ((pos a *ℤ entry p j) +ℤ (pos b *ℤ entry n j))) +ℤ l j =
      λ j. ap (λ z. pos k *ℤ z) (sym (qe j)) ∙ e j ∙ ap (λ z. (pos m *ℤ z) +ℤ l j) (xe j) in
      elim (compare_two (m * b) (k * d)) [
        | inl f ↦
            clash t p ht hp (λ s. ne (sym s)) (m * a) (k * a) (λ j. (pos f.0 *ℤ entry n j) +ℤ l j) (some_m m (k * d) f.0 b f.1 f.2)
            (generated_plus (rays ++ lines) (λ j. pos f.0 *ℤ entry n j) l (generated_times (rays ++ lines) f.0 (entry n) (ray_in n hn)) (line_in l gl))
            (λ j. move_right (pos k) (pos a) (pos d) (pos m) (pos b) (pos f.0) (entry t j) (entry n j) (entry p j) (l j) (ap pos f.1) (both j))
        | inr f ↦
            clash p t hp ht ne (k * a) (m * a) (λ j. (pos f.0 *ℤ entry n j) +ℤ neg_ℤ (l j)) (both_positive k a pk pa)
            (generated_plus (rays ++ lines) (λ j. pos f.0 *ℤ entry n j) (λ j. neg_ℤ (l j)) (generated_times (rays ++ lines) f.0 (entry n) (ray_in n hn)) (negative_line l gl))
            (λ j. move_left (pos k) (pos a) (pos d) (pos m) (pos b) (pos f.0) (entry t j) (entry n j) (entry p j) (l j) (ap pos f.1) (both j))
      ]
    where
      some_m : (m kd f b : ℕ) → m * b ≡ kd + f → 0 < f → 0 < m * a
      some_m zero kd f b e h = absurd (omega arith)
      some_m (suc m) kd f b e h = grind (arith, pa)

      move_right : (k a d m b f t n p l : ℤ) → m *ℤ b ≡ (k *ℤ d) +ℤ f → k *ℤ ((a *ℤ t) +ℤ (d *ℤ n)) ≡ (m *ℤ ((a *ℤ p) +ℤ (b *ℤ n))) +ℤ l → ((m *ℤ a) *ℤ p) +ℤ ((f *ℤ n) +ℤ l) ≡ (k *ℤ a) *ℤ t
      move_right k a d m b f t n p l e h =
          ring ((v m ⊗ v a) ⊗ v p ⊕ (v f ⊗ v n ⊕ v l)) ((v m ⊗ (v a ⊗ v p) ⊕ v l) ⊕ (((v k ⊗ v d ⊕ v f) ⊗ v n) ⊕ ⊖ (v k ⊗ (v d ⊗ v n)))) (omega arith) ∙
          ap (λ z. ((m *ℤ (a *ℤ p)) +ℤ l) +ℤ ((z *ℤ n) +ℤ neg_ℤ (k *ℤ (d *ℤ n)))) (sym e) ∙
          ring ((v m ⊗ (v a ⊗ v p) ⊕ v l) ⊕ ((v m ⊗ v b) ⊗ v n ⊕ ⊖ (v k ⊗ (v d ⊗ v n)))) ((v m ⊗ (v a ⊗ v p ⊕ v b ⊗ v n) ⊕ v l) ⊕ ⊖ (v k ⊗ (v d ⊗ v n))) (omega arith) ∙
          ap (λ z. z +ℤ neg_ℤ (k *ℤ (d *ℤ n))) (sym h) ∙ ring (v k ⊗ (v a ⊗ v t ⊕ v d ⊗ v n) ⊕ ⊖ (v k ⊗ (v d ⊗ v n))) ((v k ⊗ v a) ⊗ v t) (omega arith)

      move_left : (k a d m b f t n p l : ℤ) → k *ℤ d ≡ (m *ℤ b) +ℤ f → k *ℤ ((a *ℤ t) +ℤ (d *ℤ n)) ≡ (m *ℤ ((a *ℤ p) +ℤ (b *ℤ n))) +ℤ l → ((k *ℤ a) *ℤ t) +ℤ ((f *ℤ n) +ℤ neg_ℤ l) ≡ (m *ℤ a) *ℤ p
      move_left k a d m b f t n p l e h =
          ring ((v k ⊗ v a) ⊗ v t ⊕ (v f ⊗ v n ⊕ ⊖ (v l))) ((v k ⊗ (v a ⊗ v t) ⊕ ⊖ (v l)) ⊕ (((v m ⊗ v b ⊕ v f) ⊗ v n) ⊕ ⊖ ((v m ⊗ v b) ⊗ v n))) (omega arith) ∙
          ap (λ z. ((k *ℤ (a *ℤ t)) +ℤ neg_ℤ l) +ℤ ((z *ℤ n) +ℤ neg_ℤ ((m *ℤ b) *ℤ n))) (sym e) ∙
          ring ((v k ⊗ (v a ⊗ v t) ⊕ ⊖ (v l)) ⊕ ((v k ⊗ v d) ⊗ v n ⊕ ⊖ ((v m ⊗ v b) ⊗ v n))) (v k ⊗ (v a ⊗ v t ⊕ v d ⊗ v n) ⊕ (⊖ (v l) ⊕ ⊖ ((v m ⊗ v b) ⊗ v n))) (omega arith) ∙
          ap (λ z. z +ℤ (neg_ℤ l +ℤ neg_ℤ ((m *ℤ b) *ℤ n))) h ∙ ring ((v m ⊗ (v a ⊗ v p ⊕ v b ⊗ v n) ⊕ v l) ⊕ (⊖ (v l) ⊕ ⊖ ((v m ⊗ v b) ⊗ v n))) ((v m ⊗ v a) ⊗ v p) (omega arith)

  dec_zero : (z : ℤ) → (z ≡ pos 0) ⊎ (¬ (z ≡ pos 0))
  dec_zero (pos zero) = inl refl
  dec_zero (pos (suc n)) = inr (λ e. omega (arith, ints, e))
  dec_zero (negsuc n) = inr (λ e. omega (arith, ints, e))

  some_loose : (all : List (List ℤ)) (u : ℕ → ℤ) → ((s : List ℤ) → Contains all s → dot s u ≡ pos 0) ⊎ ((s : List ℤ) × Contains all s × (¬ (dot s u ≡ pos 0)))
  some_loose [] u = inl (λ s k. absurd (omega (arith, k.1)))
  some_loose (r ∷ all) u = elim (dec_zero (dot r u)) [
    | inr n ↦ inr (r, contains_head r all, n)
    | inl z ↦ elim (some_loose all u) [
      | inr b ↦ inr (b.0, contains_tail r b.0 all b.1, b.2)
      | inl h ↦ inl (λ s k. elim (contains_cases r s all k) [ inl e ↦ ap (λ y. dot y u) (sym e) ∙ z | inr d ↦ h s d ])
    ]
  ]

  not_zero : (z : ℤ) → pos 0 <ℤ z → ¬ (z ≡ pos 0)
  not_zero z h e = omega (arith, ints, h, e)

  -- x taken k times less m times q, as a list
  abbrev less : ℕ → ℕ → List ℤ → List ℤ → List ℤ
  less k m x q = blend (pos k) (neg_ℤ (pos m)) x q

  less_dot : (k m : ℕ) (x q s : List ℤ) → length x ≡ length q → dot s (entry (less k m x q)) ≡ gap k m (dot s (entry x)) (dot s (entry q))
  less_dot k m x q s e =
      dot_same s (entry (less k m x q)) (λ j. (pos k *ℤ entry x j) +ℤ (neg_ℤ (pos m) *ℤ entry q j)) (entry_blend (pos k) (neg_ℤ (pos m)) x q e) ∙
      dot_linear s (pos k) (neg_ℤ (pos m)) (entry x) (entry q) ∙
      ring (v (pos k) ⊗ v (dot s (entry x)) ⊕ ⊖ (v (pos m)) ⊗ v (dot s (entry q))) (v (pos k) ⊗ v (dot s (entry x)) ⊕ ⊖ (v (pos m) ⊗ v (dot s (entry q)))) (omega arith)

  gap_zero : (k m : ℕ) (a b : ℤ) → a ≡ pos 0 → b ≡ pos 0 → gap k m a b ≡ pos 0
  gap_zero k m a b e f = ap (λ z. gap k m z b) e ∙ ap (λ z. gap k m (pos 0) z) f ∙ ring (v (pos k) ⊗ v (pos 0) ⊕ ⊖ (v (pos m) ⊗ v (pos 0))) (v (pos 0)) (omega arith)

  -- a point of the cone at which c is tight, with its width
  record Point (x : List ℤ) : Type 0 where
    width : length x ≡ w
    solves : Solves system (entry x)
    flat : dot c (entry x) ≡ pos 0

  -- what less leaves, at a ratio that reaches a further row
  record Reached (x q : List ℤ) : Type 0 where
    k : ℕ
    m : ℕ
    k_positive : 0 < k
    m_positive : 0 < m
    point : Point (less k m x q)
    lower_count : loose system (entry (less k m x q)) < loose system (entry x)

  no_k : (m : ℕ) (a b : ℤ) → 0 < m → pos 0 ≤ℤ b → ¬ (b ≡ pos 0) → pos 0 ≤ℤ gap 0 m a b → ⊥
  no_k m (pos a) (pos zero) p h n k = n refl
  no_k zero a b p h n k = absurd (omega arith)
  no_k (suc m) (pos a) (pos (suc b)) p h n k = omega (arith, ints, k)
  no_k (suc m) (negsuc a) (pos zero) p h n k = n refl
  no_k (suc m) (negsuc a) (pos (suc b)) p h n k = omega (arith, ints, k)
  no_k (suc m) a (negsuc b) p h n k = omega (arith, ints, h)

  above_none : (k : ℕ) → ¬ (k ≡ 0) → 0 < k
  above_none zero h = absurd (h refl)
  above_none (suc k) h = omega arith

  reached : (x q : List ℤ) → Point x → Point q → TightToo system (entry x) (entry q) → (s : List ℤ) → Contains system s → ¬ (dot s (entry q) ≡ pos 0) → Reached x q
  reached x q px pq t s has n =
      let r = reach (entry x) (entry q) system px.solves pq.solves t system (λ y k. k) in
      let same : length x ≡ length q = px.width ∙ sym pq.width in
      let kp : 0 < r.k = above_none r.k (λ e. no_k r.m (dot s (entry x)) (dot s (entry q)) r.positive (pq.solves s has) n
      (subst (λ (k : ℕ). pos 0 ≤ℤ gap k r.m (dot s (entry x)) (dot s (entry q))) e (r.meets s has))) in
      let y = less r.k r.m x q in
      let ds : (z : List ℤ) → dot z (entry y) ≡ gap r.k r.m (dot z (entry x)) (dot z (entry q)) = λ z. less_dot r.k r.m x q z same in
      record {
        k = r.k;
        m = r.m;
        k_positive = kp;
        m_positive = r.positive;
        point = record {
          width = blend_length (pos r.k) (neg_ℤ (pos r.m)) x q same ∙ px.width;
          solves = λ z k. subst (λ u. pos 0 ≤ℤ u) (sym (ds z)) (r.meets z k);
          flat = ds c ∙
              gap_zero r.k r.m _ _ px.flat pq.flat;
        };
        lower_count = elim r.tight [
          | inl e ↦ absurd (omega (arith, kp, e))
          | inr b ↦ loose_lt system (entry x) (entry y) (λ z k e. ds z ∙ gap_zero r.k r.m _ _ e (t z k e)) b.0 b.1 (not_zero _ b.2) (ds b.0 ∙ b.3)
        ];
      }

  sum_zero_front : (k m d : ℕ) (a b e : ℤ) → 0 < k → pos 0 ≤ℤ a → pos 0 ≤ℤ b → pos 0 ≤ℤ e → (pos k *ℤ a) +ℤ ((pos m *ℤ b) +ℤ (pos d *ℤ e)) ≡ pos 0 → a ≡ pos 0
  sum_zero_front zero m d a b e p h i j s = absurd (omega arith)
  sum_zero_front (suc k) m d a b e p h i j s = tight_sum a ((pos m *ℤ b) +ℤ (pos d *ℤ e)) (pos 0) k h
      (add_nonnegative _ _ (mul_nonnegative (pos m) b (omega (arith, ints)) i) (mul_nonnegative (pos d) e (omega (arith, ints)) j)) s

  -- x, if some q that is no multiple of it is tight wherever x is, from what has fewer rows that are not tight
  third_case : (x q : List ℤ) → Point x → Point q → TightToo system (entry x) (entry q) → Apart x q →
      ((y : List ℤ) → Point y → loose system (entry y) < loose system (entry x) → Generated target (entry y)) → Generated target (entry x)
  third_case x q px pq t apart ih = elim (some_loose system (entry q)) [
    | inl all ↦ absurd (apart 1 0 (entry q) (omega arith) (g.hidden q pq.width all) (λ j. ring (v (pos 1) ⊗ v (entry q j)) (v (pos 0) ⊗ v (entry x j) ⊕ v (entry q j)) (omega arith)))
    | inr s ↦
        let r1 = reached x q px pq t s.0 s.1 s.2 in
        let y1 = less r1.k r1.m x q in
        let same : length x ≡ length q = px.width ∙ sym pq.width in
        let e1 : (j : ℕ) → entry y1 j ≡ (pos r1.k *ℤ entry x j) +ℤ (neg_ℤ (pos r1.m) *ℤ entry q j) = entry_blend (pos r1.k) (neg_ℤ (pos r1.m)) x q same in
        let g1 = ih y1 r1.point r1.lower_count in
        elim (cases_lt (loose system (entry q)) (loose system (entry x))) [
          | inl lt ↦
              generated_divided target r1.k (entry x) r1.k_positive
              (generated_same target (λ j. entry y1 j +ℤ (pos r1.m *ℤ entry q j)) (λ j. pos r1.k *ℤ entry x j)
              (λ j. ap (λ z. z +ℤ (pos r1.m *ℤ entry q j)) (e1 j) ∙ ring ((v (pos r1.k) ⊗ v (entry x j) ⊕ ⊖ (v (pos r1.m)) ⊗ v (entry q j)) ⊕ v (pos r1.m) ⊗ v (entry q j))
              (v (pos r1.k) ⊗ v (entry x j)) (omega arith))
              (generated_plus target (entry y1) (λ j. pos r1.m *ℤ entry q j) g1 (generated_times target r1.m (entry q) (ih q pq lt))))
          | inr ge ↦
              let back : TightToo system (entry q) (entry x) = λ z k e. elim (dec_zero (dot z (entry x)))
              [ inl f ↦ f | inr f ↦ absurd (let lt = loose_lt system (entry x) (entry q) t z k f e in omega (arith, lt, ge)) ] in
              let sx : ¬ (dot s.0 (entry x) ≡ pos 0) = λ e. s.2 (t s.0 s.1 e) in
              let r2 = reached q x pq px back s.0 s.1 sx in
              let y2 = less r2.k r2.m q x in
              let e2 : (j : ℕ) → entry y2 j ≡ (pos r2.k *ℤ entry q j) +ℤ (neg_ℤ (pos r2.m) *ℤ entry x j) = entry_blend (pos r2.k) (neg_ℤ (pos r2.m)) q x (sym same) in
              let le = loose_le system (entry x) (entry q) t in
              let lc2 = r2.lower_count in
              let g2 = ih y2 r2.point (omega (arith, lc2, le)) in
              -- k2 y1 + m1 y2 = (k1 k2 - m1 m2) x
              elim (compare_two (r1.k * r2.k) (r1.m * r2.m)) [
                | inl d ↦
                    generated_divided target d.0 (entry x) d.2
                    (generated_same target (λ j. (pos r2.k *ℤ entry y1 j) +ℤ (pos r1.m *ℤ entry y2 j)) (λ j. pos d.0 *ℤ entry x j)
                    (λ j. ap (λ z. (pos r2.k *ℤ z) +ℤ (pos r1.m *ℤ entry y2 j)) (e1 j) ∙ ap (λ z. (pos r2.k *ℤ ((pos r1.k *ℤ entry x j) +ℤ (neg_ℤ (pos r1.m) *ℤ entry q j))) +ℤ (pos r1.m *ℤ z))
                    (e2 j) ∙
                    ring (v (pos r2.k) ⊗ (v (pos r1.k) ⊗ v (entry x j) ⊕ ⊖ (v (pos r1.m)) ⊗ v (entry q j)) ⊕ v (pos r1.m) ⊗ (v (pos r2.k) ⊗ v (entry q j) ⊕ ⊖ (v (pos r2.m)) ⊗ v (entry x j)))
                    ((v (pos (r1.k * r2.k)) ⊕ ⊖ (v (pos (r1.m * r2.m)))) ⊗ v (entry x j)) (omega arith) ∙
                    ap (λ (n : ℕ). (pos n +ℤ neg_ℤ (pos (r1.m * r2.m))) *ℤ entry x j) d.1 ∙
                    ring ((v (pos (r1.m * r2.m + d.0)) ⊕ ⊖ (v (pos (r1.m * r2.m)))) ⊗ v (entry x j)) (v (pos d.0) ⊗ v (entry x j)) (omega arith))
                    (generated_plus target (λ j. pos r2.k *ℤ entry y1 j) (λ j. pos r1.m *ℤ entry y2 j) (generated_times target r2.k (entry y1) g1) (generated_times target r1.m (entry y2) g2)))
                | inr d ↦
                    let zero1 : (z : List ℤ) → Contains system z → dot z (entry y1) ≡ pos 0 = λ z k.
                    let a = dot z (entry x) in
                    let b = dot z (entry q) in
                    sum_zero_front r2.k r1.m d.0 (dot z (entry y1)) (dot z (entry y2)) a r2.k_positive (r1.point.solves z k) (r2.point.solves z k) (px.solves z k)
                    (ap (λ u. (pos r2.k *ℤ u) +ℤ ((pos r1.m *ℤ dot z (entry y2)) +ℤ (pos d.0 *ℤ a))) (less_dot r1.k r1.m x q z same) ∙
                    ap (λ u. (pos r2.k *ℤ gap r1.k r1.m a b) +ℤ ((pos r1.m *ℤ u) +ℤ (pos d.0 *ℤ a))) (less_dot r2.k r2.m q x z (sym same)) ∙
                    ring (v (pos r2.k) ⊗ (v (pos r1.k) ⊗ v a ⊕ ⊖ (v (pos r1.m) ⊗ v b)) ⊕ (v (pos r1.m) ⊗ (v (pos r2.k) ⊗ v b ⊕ ⊖ (v (pos r2.m) ⊗ v a)) ⊕ v (pos d.0) ⊗ v a))
                    ((v (pos (r1.k * r2.k + d.0)) ⊕ ⊖ (v (pos (r1.m * r2.m)))) ⊗ v a) (omega arith) ∙
                    ap (λ (n : ℕ). (pos n +ℤ neg_ℤ (pos (r1.m * r2.m))) *ℤ a) (sym d.1) ∙ ring ((v (pos (r1.m * r2.m)) ⊕ ⊖ (v (pos (r1.m * r2.m)))) ⊗ v a) (v (pos 0)) (omega arith)) in
                    absurd (apart r1.m r1.k (λ j. neg_ℤ (entry y1 j)) r1.m_positive (g.reversed (entry y1) (g.hidden y1 r1.point.width zero1))
                    (λ j. ring (v (pos r1.m) ⊗ v (entry q j)) (v (pos r1.k) ⊗ v (entry x j) ⊕ ⊖ (v (pos r1.k) ⊗ v (entry x j) ⊕ ⊖ (v (pos r1.m)) ⊗ v (entry q j))) (omega arith) ∙
                    ap (λ z. (pos r1.k *ℤ entry x j) +ℤ neg_ℤ z) (sym (e1 j))))
              ]
        ]
  ]

  row_width : (r : List ℤ) → Contains rays r → length r ≡ w
  row_width r h = g.dual.row_widths r (Contains-append_left rays lines r h)

  ray_solves : (r : List ℤ) → Contains rays r → Solves system (entry r)
  ray_solves r h = g.dual.meets r (Contains-append_left rays lines r h)

  sum_both : (a b : ℕ) (p n : ℤ) → 0 < a → 0 < b → pos 0 ≤ℤ p → pos 0 ≤ℤ n → (pos a *ℤ p) +ℤ (pos b *ℤ n) ≡ pos 0 → (p ≡ pos 0) × (n ≡ pos 0)
  sum_both zero b p n ha hb hp hn e = absurd (omega arith)
  sum_both (suc a) zero p n ha hb hp hn e = absurd (omega arith)
  sum_both (suc a) (suc b) p n ha hb hp hn e = (
    tight_sum p (pos (suc b) *ℤ n) (pos 0) a hp (mul_nonnegative (pos (suc b)) n (omega (arith, ints)) hn) e,
    tight_sum n (pos (suc a) *ℤ p) (pos 0) b hn (mul_nonnegative (pos (suc a)) p (omega (arith, ints)) hp) (+ℤ_comm (pos (suc b) *ℤ n) (pos (suc a) *ℤ p) ∙ e),
  )

  -- the pair of p and n: a p + b n, with a and b above 0
  record Between (p n : List ℤ) : Type 0 where
    a : ℕ
    b : ℕ
    a_is : neg_ℤ (dot c (entry n)) ≡ pos a
    b_is : dot c (entry p) ≡ pos b
    a_positive : 0 < a
    b_positive : 0 < b
    is : (j : ℕ) → entry (pair c p n) j ≡ (pos a *ℤ entry p j) +ℤ (pos b *ℤ entry n j)
    dots : (s : List ℤ) → dot s (entry (pair c p n)) ≡ (pos a *ℤ dot s (entry p)) +ℤ (pos b *ℤ dot s (entry n))
    point : Point (pair c p n)

  between : (p n : List ℤ) → Contains rays p → Contains rays n → pos 0 <ℤ dot c (entry p) → dot c (entry n) <ℤ pos 0 → Between p n
  between p n hp hn up down =
      let a = neg_nat (dot c (entry n)) down in
      let b = as_nat (dot c (entry p)) (positive_is_nonnegative _ up) in
      let same : length p ≡ length n = row_width p hp ∙ sym (row_width n hn) in
      let ap0 = neg_positive (dot c (entry n)) a.0 down a.1 in
      let bp0 = positive_nat (dot c (entry p)) b.0 up b.1 in
      let e : (j : ℕ) → entry (pair c p n) j ≡ (pos a.0 *ℤ entry p j) +ℤ (pos b.0 *ℤ entry n j) =
      λ j. entry_blend (neg_ℤ (dot c (entry n))) (dot c (entry p)) p n same j ∙ ap (λ z. (z *ℤ entry p j) +ℤ (dot c (entry p) *ℤ entry n j)) a.1 ∙
      ap (λ z. (pos a.0 *ℤ entry p j) +ℤ (z *ℤ entry n j)) b.1 in
      let d : (s : List ℤ) → dot s (entry (pair c p n)) ≡ (pos a.0 *ℤ dot s (entry p)) +ℤ (pos b.0 *ℤ dot s (entry n)) =
      λ s. dot_same s (entry (pair c p n)) (λ j. (pos a.0 *ℤ entry p j) +ℤ (pos b.0 *ℤ entry n j)) e ∙ dot_linear s (pos a.0) (pos b.0) (entry p) (entry n) in
      record {
        a = a.0;
        b = b.0;
        a_is = a.1;
        b_is = b.1;
        a_positive = ap0;
        b_positive = bp0;
        is = e;
        dots = d;
        point = record {
          width = blend_length (neg_ℤ (dot c (entry n))) (dot c (entry p)) p n same ∙ row_width p hp;
          solves = λ s k. subst (λ z. pos 0 ≤ℤ z) (sym (d s)) (add_nonnegative _ _ (mul_nonnegative (pos a.0) (dot s (entry p)) (omega (arith, ints)) (ray_solves p hp s k))
              (mul_nonnegative (pos b.0) (dot s (entry n)) (omega (arith, ints)) (ray_solves n hn s k)));
          flat = d c ∙ ap (λ z. (z *ℤ dot c (entry p)) +ℤ (pos b.0 *ℤ dot c (entry n))) (sym a.1) ∙ ap (λ z. (neg_ℤ (dot c (entry n)) *ℤ dot c (entry p)) +ℤ (z *ℤ dot c (entry n))) (sym b.1) ∙
              ring (⊖ (v (dot c (entry n))) ⊗ v (dot c (entry p)) ⊕ v (dot c (entry p)) ⊗ v (dot c (entry n))) (v (pos 0)) (omega arith);
        };
      }

  pos_same : (a b : ℕ) (z : ℤ) → z ≡ pos a → z ≡ pos b → a ≡ b
  pos_same a b z e f = let h : pos a ≡ pos b = sym e ∙ f in cc

  pair_case : (p n : List ℤ) → Contains rays p → Contains rays n → pos 0 <ℤ dot c (entry p) → dot c (entry n) <ℤ pos 0 →
      ((y : List ℤ) → Point y → loose system (entry y) < loose system (entry (pair c p n)) → Generated target (entry y)) → Generated target (entry (pair c p n))
  pair_case p n hp hn up down ih = elim (g.pairs p n hp hn up down) [
    | inl ready ↦ ready
    | inr t ↦
        let x = between p n hp hn up down in
        let r = t.ray in
        let ends : (s : List ℤ) → Contains system s → dot s (entry (pair c p n)) ≡ pos 0 → (dot s (entry p) ≡ pos 0) × (dot s (entry n) ≡ pos 0) =
        λ s k e. sum_both x.a x.b _ _ x.a_positive x.b_positive (ray_solves p hp s k) (ray_solves n hn s k) (sym (x.dots s) ∙ e) in
        let third : TightToo system (entry (pair c p n)) (entry r) = λ s k e. let b = ends s k e in t.tight s k b.0 b.1 in
        elim (cases_sign (dot c (entry r))) [
          | inr low ↦
              let q = between p r hp t.has up low in
              third_case (pair c p n) (pair c p r) x.point q.point
              (λ s k e. q.dots s ∙ ap (λ z. (pos q.a *ℤ z) +ℤ (pos q.b *ℤ dot s (entry r))) (ends s k e).0 ∙ ap (λ z. (pos q.a *ℤ pos 0) +ℤ (pos q.b *ℤ z)) (third s k e) ∙
              ring (v (pos q.a) ⊗ v (pos 0) ⊕ v (pos q.b) ⊗ v (pos 0)) (v (pos 0)) (omega arith))
              (apart_mixed n p r (pair c p n) (pair c p r) hn hp t.has t.not_n x.b x.a q.a x.b_positive (λ j. x.is j ∙ +ℤ_comm (pos x.a *ℤ entry p j) (pos x.b *ℤ entry n j))
              (λ j. q.is j ∙ ap (λ (m : ℕ). (pos q.a *ℤ entry p j) +ℤ (pos m *ℤ entry r j)) (pos_same q.b x.b _ q.b_is x.b_is) ∙ +ℤ_comm (pos q.a *ℤ entry p j) (pos x.b *ℤ entry r j))) ih
          | inl nn ↦ elim (above_zero (dot c (entry r)) nn) [
            | inl z ↦
                third_case (pair c p n) r x.point (record { width = row_width r t.has; solves = ray_solves r t.has; flat = z }) third
                (apart_flat p n r (pair c p n) hp hn t.has t.not_p x.a x.b x.a_positive x.is) ih
            | inr high ↦
                let q = between r n t.has hn high down in
                third_case (pair c p n) (pair c r n) x.point q.point
                (λ s k e. q.dots s ∙ ap (λ z. (pos q.a *ℤ z) +ℤ (pos q.b *ℤ dot s (entry n))) (third s k e) ∙ ap (λ z. (pos q.a *ℤ pos 0) +ℤ (pos q.b *ℤ z)) (ends s k e).1 ∙
                ring (v (pos q.a) ⊗ v (pos 0) ⊕ v (pos q.b) ⊗ v (pos 0)) (v (pos 0)) (omega arith))
                (apart_mixed p n r (pair c p n) (pair c r n) hp hn t.has t.not_p x.a x.b q.b x.a_positive x.is
                (λ j. q.is j ∙ ap (λ (m : ℕ). (pos m *ℤ entry r j) +ℤ (pos q.b *ℤ entry n j)) (pos_same q.a x.a _ q.a_is x.a_is))) ih
          ]
        ]
  ]

  -- a point from the pairs of the rows that it uses
  from_pairs : (x : List ℤ) → Point x →
      ((p n : List ℤ) → Contains rays p → Contains rays n → pos 0 <ℤ dot c (entry p) → dot c (entry n) <ℤ pos 0 → TightToo system (entry x) (entry (pair c p n)) →
      Generated target (entry (pair c p n))) → Generated target (entry x)
  from_pairs x px pc =
      let rows = rays ++ lines in
      let gx = g.dual.solutions x px.width px.solves in
      let u = support system rows g.dual.meets gx.factors in
      let whole : ℕ → ℤ = sum_of gx.factors rows in
      let tight : (s : List ℤ) → dot s (entry x) ≡ pos 0 → dot s whole ≡ pos 0 = λ s e.
      dot_same s whole (λ j. pos gx.multiple *ℤ entry x j) (λ j. sym (gx.is_sum j)) ∙ dot_scale s (pos gx.multiple) (entry x) ∙ ap (λ z. pos gx.multiple *ℤ z) e ∙
      ring (v (pos gx.multiple) ⊗ v (pos 0)) (v (pos 0)) (omega arith) in
      let gu : Generated u.used (entry x) = record { multiple = gx.multiple; positive = gx.positive; factors = u.factors; is_sum = λ j. gx.is_sum j ∙ u.is j } in
      let widths : (r : List ℤ) → Contains u.used r → length r ≡ w = λ r k. g.dual.row_widths r (u.from r k).0 in
      let st = step_rows_are c w u.used widths in
      let zero_c : pos 0 ≤ℤ dot c (entry x) = subst (λ z. pos 0 ≤ℤ z) (sym px.flat) (omega (arith, ints)) in
      let gs = step_complete c u.used (step_rows c u.used) st (entry x) gu zero_c in
      generated_through target (step_rows c u.used) (entry x)
      (λ t k. elim (Contains-append_cases (kept c u.used) (pairs c u.used u.used) t k) [
        | inl i ↦
            let b = kept_only c u.used t i in
            elim (Contains-append_cases rays lines t (u.from t b.0).0) [ inl h ↦ g.keeps t h b.1 | inr h ↦ g.line_kept t h ]
        | inr i ↦
            let d = pairs_only c u.used u.used t i in
            let fu = u.from d.up d.has_up in
            let fd = u.from d.down d.has_down in
            subst (λ y. Generated target (entry y)) d.is_pair
            (elim (Contains-append_cases rays lines d.up fu.0) [
              | inr h ↦ absurd (not_zero (dot c (entry d.up)) d.above (g.line_flat d.up h))
              | inl hu ↦ elim (Contains-append_cases rays lines d.down fd.0) [
                | inr h ↦ absurd (not_low (dot c (entry d.down)) d.below (g.line_flat d.down h))
                | inl hd ↦
                    let b = between d.up d.down hu hd d.above d.below in
                    pc d.up d.down hu hd d.above d.below (λ s m e. b.dots s ∙ ap (λ z. (pos b.a *ℤ z) +ℤ (pos b.b *ℤ dot s (entry d.down))) (fu.1 s m (tight s e)) ∙
                    ap (λ z. (pos b.a *ℤ pos 0) +ℤ (pos b.b *ℤ z)) (fd.1 s m (tight s e)) ∙ ring (v (pos b.a) ⊗ v (pos 0) ⊕ v (pos b.b) ⊗ v (pos 0)) (v (pos 0)) (omega arith))
              ]
            ])
      ]) gs
    where
      not_low : (z : ℤ) → z <ℤ pos 0 → z ≡ pos 0 → ⊥
      not_low z h e = omega (arith, ints, h, e)

  claim : (fuel : ℕ) (x : List ℤ) → Point x → loose system (entry x) ≤ fuel → Generated target (entry x)
  claim zero x px h = from_pairs x px (λ p n hp hn up down t. pair_case p n hp hn up down (λ y py lt. absurd (let le = loose_le system (entry x) (entry (pair c p n)) t in omega (arith, lt, le, h))))
  claim (suc fuel) x px h = from_pairs x px (λ p n hp hn up down t. pair_case p n hp hn up down
      (λ y py lt. claim fuel y py (let le = loose_le system (entry x) (entry (pair c p n)) t in omega (arith, lt, le, h))))

  -- every pair is generated, though only those that no third ray stands between are there
  pub adjacent_pairs_suffice : (p n : List ℤ) → Contains rays p → Contains rays n → pos 0 <ℤ dot c (entry p) → dot c (entry n) <ℤ pos 0 → Generated target (entry (pair c p n))
  adjacent_pairs_suffice p n hp hn up down = claim (loose system (entry (pair c p n))) (pair c p n) (between p n hp hn up down).point (omega arith)
