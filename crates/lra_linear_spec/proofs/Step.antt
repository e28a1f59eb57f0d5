-- The step of the double description method (Motzkin, Raiffa, Thompson and Thrall 1953): if rows generate the solutions of a
-- system, the rows of the step with c generate the solutions of the system with c. A sum of rows is a vector of the target and a sum
-- of rows with negative products, which are added one at a time.
use Rattle.std.proofs.Common.{List, [], ap, arith, inl, inr, neg_ℤ, negsuc, pos, refl, subst, suc, sym, zero, ℕ, ℤ, ◌*ℤ◌, ◌+ℤ◌, ◌<ℤ◌, ◌∙◌, ◌∷◌, ◌≡◌, ◌≤ℤ◌}
use Rattle.std.proofs.{Math.IntN.+ℤ_assoc, Math.IntN.+ℤ_comm, lemmas.Int.ints}
use Rattle.std.specs.List.{Contains}
use Rattle.lra_linear_spec.specs.{Cones.Generated, Cones.Solves, Vectors.dot, Vectors.entry, Vectors.sum_of}
use Rattle.lra_linear_spec.proofs.Combinations.{generated_divided, generated_plus, generated_row, generated_same, generated_times, generated_zero}
use Rattle.lra_linear_spec.proofs.LinearMaps.{bent, generated_bent, generated_nonneg, generated_through}
use Rattle.lra_linear_spec.proofs.Signs.{above_zero, add_nonpositive, as_nat, cases_sign, neg_nat, positive_nat, times_nonpositive}
use Rattle.lra_linear_spec.proofs.{DoubleDescription.StepOf, Membership.contains_cases, Membership.contains_head, Membership.contains_tail, Products.dot_add, Products.dot_plus, Products.dot_same}
use Rattle.lra_linear_spec.proofs.{Products.dot_scale, Products.dot_zero, Ring.mul_nonnegative, Ring.ring, Ring.v, Ring.⊖, Ring.◌⊕◌, Ring.◌⊗◌}

-- if the sum of parts is not negative and some parts are not positive
front_nonneg : (a b d : ℤ) → b ≤ℤ pos 0 → d ≤ℤ pos 0 → pos 0 ≤ℤ (a +ℤ (b +ℤ d)) → pos 0 ≤ℤ a
front_nonneg a b d h k l = omega (arith, ints)

part_nonneg : (a b d : ℤ) → d ≤ℤ pos 0 → pos 0 ≤ℤ (a +ℤ (b +ℤ d)) → pos 0 ≤ℤ (a +ℤ b)
part_nonneg a b d k l = omega (arith, ints)

-- ---- one negative row is taken in
-- the identity: cu (u + l n) = (c . (u + l n)) u + l ((- cn) u + cu n)
absorb : (cu cn l u n : ℤ) → ((cu +ℤ l *ℤ cn) *ℤ u) +ℤ (l *ℤ ((neg_ℤ cn *ℤ u) +ℤ (cu *ℤ n))) ≡ cu *ℤ (u +ℤ l *ℤ n)
absorb cu cn l u n = ring ((v cu ⊕ v l ⊗ v cn) ⊗ v u ⊕ v l ⊗ (⊖ (v cn) ⊗ v u ⊕ v cu ⊗ v n)) (v cu ⊗ (v u ⊕ v l ⊗ v n)) (omega arith)

-- a negative row that may not be added at all
none_left : (l : ℕ) (cn : ℤ) → cn <ℤ pos 0 → pos 0 ≤ℤ (pos 0 +ℤ pos l *ℤ cn) → l ≡ 0
none_left zero cn h k = refl
none_left (suc l) (pos n) h k = absurd (omega (arith, ints, h))
none_left (suc l) (negsuc n) h k = absurd (omega (arith, ints, k))

-- a vector with product 0 is only multiplied
bent_flat : (c : List ℤ) (a : ℤ) (w x : ℕ → ℤ) (target : List (List ℤ)) (m : ℕ) → a ≡ pos m → dot c x ≡ pos 0 → Generated target x → Generated target (bent c a w x)
bent_flat c a w x target m e z g =
    generated_same target (λ j. pos m *ℤ x j) (bent c a w x)
    (λ j. ap (λ b. b *ℤ x j) (sym e) ∙ ring (v a ⊗ v (x j)) (v a ⊗ v (x j) ⊕ v (pos 0) ⊗ v (w j)) (omega arith) ∙ ap (λ d. (a *ℤ x j) +ℤ (d *ℤ w j)) (sym z))
    (generated_times target m x g)

-- the map u to (-c.n) u + (c.u) n takes the target into its cone
step_bent : (c : List ℤ) (rows target : List (List ℤ)) → StepOf c rows target → (n : List ℤ) → Contains rows n → dot c (entry n) <ℤ pos 0 →
    (t : List ℤ) → Contains target t → Generated target (bent c (neg_ℤ (dot c (entry n))) (entry n) (entry t))
step_bent c rows target s n has neg t k =
    let m = neg_nat (dot c (entry n)) neg in
    let g = generated_row target t k in
    let flat : dot c (entry t) ≡ pos 0 → Generated target (bent c (neg_ℤ (dot c (entry n))) (entry n) (entry t)) =
    λ z. bent_flat c (neg_ℤ (dot c (entry n))) (entry n) (entry t) target m.0 m.1 z g in
    elim (s.from t k) [
      | inl b ↦ elim (above_zero (dot c (entry t)) b.1) [
        | inl z ↦ flat z
        | inr p ↦ s.pairs t n b.0 has p neg
      ]
      | inr z ↦ flat z
    ]

-- one row n with a negative product is added
absorb_one : (c : List ℤ) (rows target : List (List ℤ)) → StepOf c rows target → (n : List ℤ) → Contains rows n → dot c (entry n) <ℤ pos 0 →
    (u : ℕ → ℤ) (l : ℕ) → Generated target u → pos 0 ≤ℤ dot c u → pos 0 ≤ℤ (dot c u +ℤ pos l *ℤ dot c (entry n)) → Generated target (λ j. u j +ℤ pos l *ℤ entry n j)
absorb_one c rows target s n has neg u l g h k =
    let cn = dot c (entry n) in
    let x : ℕ → ℤ = entry n in
    let cu = as_nat (dot c u) h in
    let cw = as_nat (dot c u +ℤ pos l *ℤ cn) k in
    let b : Generated target (bent c (neg_ℤ cn) x u) = generated_bent c (neg_ℤ cn) x target target u (step_bent c rows target s n has neg) g in
    let both : Generated target (λ j. (pos cw.0 *ℤ u j) +ℤ (pos l *ℤ bent c (neg_ℤ cn) x u j)) =
    generated_plus target (λ j. pos cw.0 *ℤ u j) (λ j. pos l *ℤ bent c (neg_ℤ cn) x u j) (generated_times target cw.0 u g) (generated_times target l (bent c (neg_ℤ cn) x u) b) in
    let scaled : Generated target (λ j. pos cu.0 *ℤ (u j +ℤ pos l *ℤ x j)) =
    generated_same target (λ j. (pos cw.0 *ℤ u j) +ℤ (pos l *ℤ bent c (neg_ℤ cn) x u j)) (λ j. pos cu.0 *ℤ (u j +ℤ pos l *ℤ x j))
    (λ j. ap (λ a. (a *ℤ u j) +ℤ (pos l *ℤ bent c (neg_ℤ cn) x u j)) (sym cw.1) ∙ absorb (dot c u) cn (pos l) (u j) (x j) ∙ ap (λ a. a *ℤ (u j +ℤ pos l *ℤ x j)) cu.1)
    both in
    elim (above_zero (dot c u) h) [
      | inl z ↦
          let e : l ≡ 0 = none_left l cn neg (subst (λ a. pos 0 ≤ℤ (a +ℤ pos l *ℤ cn)) z k) in
          generated_same target u (λ j. u j +ℤ pos l *ℤ x j)
          (λ j. ring (v (u j)) (v (u j) ⊕ v (pos 0) ⊗ v (x j)) (omega arith) ∙ ap (λ a. u j +ℤ pos a *ℤ x j) (sym e)) g
      | inr p ↦ generated_divided target cu.0 (λ j. u j +ℤ pos l *ℤ x j) (positive_nat (dot c u) cu.0 p cu.1) scaled
    ]

-- ---- a sum of rows, with those of negative products put last
record Split (c : List ℤ) (rows all target : List (List ℤ)) (fs : List ℕ) : Type 0 where
  front : ℕ → ℤ
  made : Generated target front
  factors : List ℕ
  rest : List (List ℤ)
  negative : (n : List ℤ) → Contains rest n → Contains all n × (dot c (entry n) <ℤ pos 0)
  whole : (j : ℕ) → sum_of fs rows j ≡ front j +ℤ sum_of factors rest j

-- by recursion on the rows
split : (c : List ℤ) (all target : List (List ℤ)) → StepOf c all target → (rows : List (List ℤ)) → ((r : List ℤ) → Contains rows r → Contains all r) → (fs : List ℕ) → Split c rows all target fs
split c all target s rows sub [] = record { front = λ j. pos 0; made = generated_zero target; factors = []; rest = []; negative = λ n k. absurd (omega (arith, k.1)); whole = λ j. omega (arith, ints) }
split c all target s [] sub (f ∷ fs) = record {
  front = λ j. pos 0;
  made = generated_zero target;
  factors = [];
  rest = [];
  negative = λ n k. absurd (omega (arith, k.1));
  whole = λ j. omega (arith, ints);
}
split c all target s (r ∷ rows) sub (f ∷ fs) =
    let i = split c all target s rows (λ y k. sub y (contains_tail r y rows k)) fs in
    let x : ℕ → ℤ = entry r in
    elim (cases_sign (dot c x)) [
      | inl p ↦ record {
        front = λ j. (pos f *ℤ x j) +ℤ i.front j;
        made = generated_plus target (λ j. pos f *ℤ x j) i.front (generated_times target f x (s.keeps r (sub r (contains_head r rows)) p)) i.made;
        factors = i.factors;
        rest = i.rest;
        negative = i.negative;
        whole = λ j. ap (λ a. (pos f *ℤ x j) +ℤ a) (i.whole j) ∙ sym (+ℤ_assoc (pos f *ℤ x j) (i.front j) (sum_of i.factors i.rest j));
      }
      | inr q ↦ record {
        front = i.front;
        made = i.made;
        factors = f ∷ i.factors;
        rest = r ∷ i.rest;
        negative = λ n k. elim (contains_cases r n i.rest k) [
          | inl e ↦ (subst (Contains all) e (sub r (contains_head r rows)), subst (λ y. dot c (entry y) <ℤ pos 0) e q)
          | inr d ↦ i.negative n d
        ];
        whole = λ j. ap (λ a. (pos f *ℤ x j) +ℤ a) (i.whole j) ∙
            ring (v (pos f) ⊗ v (x j) ⊕ (v (i.front j) ⊕ v (sum_of i.factors i.rest j))) (v (i.front j) ⊕ (v (pos f) ⊗ v (x j) ⊕ v (sum_of i.factors i.rest j))) (omega arith);
      }
    ]

-- a sum of rows with negative products has a product that is not positive
sum_nonpos : (c : List ℤ) (rows : List (List ℤ)) → ((n : List ℤ) → Contains rows n → dot c (entry n) <ℤ pos 0) → (fs : List ℕ) → dot c (sum_of fs rows) ≤ℤ pos 0
sum_nonpos c rows h [] = subst (λ z. z ≤ℤ pos 0) (sym (dot_zero c)) (omega (arith, ints))
sum_nonpos c [] h (f ∷ fs) = subst (λ z. z ≤ℤ pos 0) (sym (dot_zero c)) (omega (arith, ints))
sum_nonpos c (r ∷ rows) h (f ∷ fs) =
    let x : ℕ → ℤ = entry r in
    let s : ℕ → ℤ = sum_of fs rows in
    let one = times_nonpositive f (dot c x) (h r (contains_head r rows)) in
    let rest : dot c s ≤ℤ pos 0 = sum_nonpos c rows (λ y k. h y (contains_tail r y rows k)) fs in
    subst (λ z. z ≤ℤ pos 0) (sym (dot_plus c (pos f) x s)) (add_nonpositive (pos f *ℤ dot c x) (dot c s) one rest)

-- all of them are added, one at a time: the products only fall, so each stays at least 0
absorb_all : (c : List ℤ) (all target : List (List ℤ)) → StepOf c all target → (rows : List (List ℤ)) → ((n : List ℤ) → Contains rows n → Contains all n × (dot c (entry n) <ℤ pos 0)) →
    (fs : List ℕ) (u : ℕ → ℤ) → Generated target u → pos 0 ≤ℤ (dot c u +ℤ dot c (sum_of fs rows)) → Generated target (λ j. u j +ℤ sum_of fs rows j)
absorb_all c all target s rows h [] u g k = generated_same target u (λ j. u j +ℤ pos 0) (λ j. omega (arith, ints)) g
absorb_all c all target s [] h (f ∷ fs) u g k = generated_same target u (λ j. u j +ℤ pos 0) (λ j. omega (arith, ints)) g
absorb_all c all target s (n ∷ rows) h (f ∷ fs) u g k =
    let x : ℕ → ℤ = entry n in
    let r : ℕ → ℤ = sum_of fs rows in
    let here = h n (contains_head n rows) in
    let later : (y : List ℤ) → Contains rows y → Contains all y × (dot c (entry y) <ℤ pos 0) = λ y d. h y (contains_tail n y rows d) in
    let low : dot c r ≤ℤ pos 0 = sum_nonpos c rows (λ y d. (later y d).1) fs in
    let fx : (pos f *ℤ dot c x) ≤ℤ pos 0 = times_nonpositive f (dot c x) here.1 in
    let k1 : pos 0 ≤ℤ (dot c u +ℤ ((pos f *ℤ dot c x) +ℤ dot c r)) = subst (λ z. pos 0 ≤ℤ (dot c u +ℤ z)) (dot_plus c (pos f) x r) k in
    let one : Generated target (λ j. u j +ℤ pos f *ℤ x j) =
    absorb_one c all target s n here.0 here.1 u f g (front_nonneg (dot c u) (pos f *ℤ dot c x) (dot c r) fx low k1) (part_nonneg (dot c u) (pos f *ℤ dot c x) (dot c r) low k1) in
    let du : dot c (λ j. u j +ℤ pos f *ℤ x j) ≡ dot c u +ℤ (pos f *ℤ dot c x) =
    dot_same c (λ j. u j +ℤ pos f *ℤ x j) (λ j. (pos f *ℤ x j) +ℤ u j) (λ j. +ℤ_comm (u j) (pos f *ℤ x j)) ∙ dot_plus c (pos f) x u ∙ +ℤ_comm (pos f *ℤ dot c x) (dot c u) in
    generated_same target (λ j. (u j +ℤ pos f *ℤ x j) +ℤ r j) (λ j. u j +ℤ ((pos f *ℤ x j) +ℤ r j)) (λ j. +ℤ_assoc (u j) (pos f *ℤ x j) (r j))
    (absorb_all c all target s rows later fs (λ j. u j +ℤ pos f *ℤ x j) one
    (subst (λ z. pos 0 ≤ℤ z) (sym (+ℤ_assoc (dot c u) (pos f *ℤ dot c x) (dot c r)) ∙ ap (λ z. z +ℤ dot c r) (sym du)) k1))

-- ---- the step: what the rows generate with a product that is not negative is what the target generates
pub step_complete : (c : List ℤ) (rows target : List (List ℤ)) → StepOf c rows target → (u : ℕ → ℤ) → Generated rows u → pos 0 ≤ℤ dot c u → Generated target u
step_complete c rows target s u g h =
    let w : ℕ → ℤ = sum_of g.factors rows in
    let p = split c rows target s rows (λ r k. k) g.factors in
    let tail : ℕ → ℤ = sum_of p.factors p.rest in
    let du : dot c w ≡ pos g.multiple *ℤ dot c u = dot_same c w (λ i. pos g.multiple *ℤ u i) (λ i. sym (g.is_sum i)) ∙ dot_scale c (pos g.multiple) u in
    let dw : dot c w ≡ dot c p.front +ℤ dot c tail = dot_same c w (λ j. p.front j +ℤ tail j) p.whole ∙ dot_add c p.front tail in
    let k : pos 0 ≤ℤ (dot c p.front +ℤ dot c tail) = subst (λ z. pos 0 ≤ℤ z) (sym du ∙ dw) (mul_nonnegative (pos g.multiple) (dot c u) (omega (arith, ints)) h) in
    generated_divided target g.multiple u g.positive
    (generated_same target (λ j. p.front j +ℤ tail j) (λ j. pos g.multiple *ℤ u j) (λ j. sym (p.whole j) ∙ sym (g.is_sum j))
    (absorb_all c rows target s p.rest p.negative p.factors p.front p.made k))

-- the other way
pub step_sound : (c : List ℤ) (rows target : List (List ℤ)) → StepOf c rows target → (u : ℕ → ℤ) → Generated target u → Generated rows u × (pos 0 ≤ℤ dot c u)
step_sound c rows target s u g = (
  generated_through rows target u s.inside g,
  generated_nonneg c target u (λ t k. elim (s.from t k) [ inl b ↦ b.1 | inr z ↦ subst (λ y. pos 0 ≤ℤ y) (sym z) (omega (arith, ints)) ]) g,
)

-- if the rows generate the solutions of a system, the target generates those that meet c too
pub step_theorem : (c : List ℤ) (system rows target : List (List ℤ)) → StepOf c rows target →
    ((u : ℕ → ℤ) → (Solves system u → Generated rows u) × (Generated rows u → Solves system u)) →
    (u : ℕ → ℤ) → (Solves (c ∷ system) u → Generated target u) × (Generated target u → Solves (c ∷ system) u)
step_theorem c system rows target s both u = (
  λ h. step_complete c rows target s u ((both u).0 (λ d k. h d (contains_tail c d system k))) (h c (contains_head c system)),
  λ g. let p = step_sound c rows target s u g in
      λ d k. elim (contains_cases c d system k) [ inl e ↦ subst (λ y. pos 0 ≤ℤ dot y u) e p.1 | inr i ↦ (both u).1 p.0 d i ],
)
