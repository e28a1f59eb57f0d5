-- the comparison of two fractions, by one step of division
use Rattle.std.proofs.Common.{zero, suc, ◌≡◌, arith, ap, subst, sym, ◌∙◌, pos, negsuc, ℤ, ◌+ℤ◌, ◌*ℤ◌, neg_ℤ, ◌≤ℤ◌, ◌<ℤ◌, inl, inr, ◌⊎◌}
use Rattle.std.proofs.lemmas.Int.{ints}
use Rattle.std.specs.declared.cmp.Ordering.TheVariants.{Less, Equal, Greater}
use Rattle.std.specs.{Cmp.int_ranks, Cmp.int_cmp_is, Int.int_div_euclid, Int.int_rem_euclid, Ordering.int_cmp, Ordering.MatchOrdering, declared.cmp.Ordering.Ordering}
use Rattle.lra_linear_spec.proofs.{Ring.v, Ring.◌⊕◌, Ring.◌⊗◌, Ring.⊖, Ring.ring, Ring.mul_nonnegative, Signs.times_positive}

pub euclid : (n d : ℤ) → pos 0 <ℤ d → (int_div_euclid n d *ℤ d) +ℤ int_rem_euclid n d ≡ n
euclid (pos a) (pos zero) h = absurd (omega (arith, ints, h))
euclid (pos a) (pos (suc d)) h = ap pos (omega arith)
euclid (negsuc a) (pos zero) h = absurd (omega (arith, ints, h))
euclid (negsuc a) (pos (suc d)) h = omega (arith, ints)
euclid n (negsuc d) h = absurd (omega (arith, ints, h))

pub cmp_along : (x y x' y' : ℤ) → (x <ℤ y → x' <ℤ y') → (x ≡ y → x' ≡ y') → (y <ℤ x → y' <ℤ x') → int_cmp x y ≡ int_cmp x' y'
cmp_along x y x' y' l e g = int_cmp_is x' y' (int_cmp x y) (carry (int_cmp x y) (int_ranks x y))
  where
    carry : (o : Ordering) → MatchOrdering o (x <ℤ y) (x ≡ y) (y <ℤ x) → MatchOrdering o (x' <ℤ y') (x' ≡ y') (y' <ℤ x')
    carry Less h = l h
    carry Equal h = e h
    carry Greater h = g h

below : (a b : ℤ) → a <ℤ b → pos 0 ≤ℤ ((b +ℤ neg_ℤ a) +ℤ negsuc 0)
below a b h = omega (arith, ints)

pub apart : (a b : ℤ) → a <ℤ b → pos 0 <ℤ (b +ℤ neg_ℤ a)
apart a b h = omega (arith, ints)

more : (x a b d : ℤ) → pos 0 <ℤ a → pos 0 ≤ℤ b → pos 0 ≤ℤ d → x <ℤ (x +ℤ (a +ℤ (b +ℤ d)))
more x a b d h k l = omega (arith, ints)

ordered : (p q r s d1 d2 : ℤ) → p <ℤ q → r <ℤ d1 → pos 0 ≤ℤ s → pos 0 <ℤ d1 → pos 0 <ℤ d2 → (((p *ℤ d1) +ℤ r) *ℤ d2) <ℤ (((q *ℤ d2) +ℤ s) *ℤ d1)
ordered p q r s d1 d2 h rd s0 e1 e2 =
    let f = d1 +ℤ neg_ℤ r in
    let e = (q +ℤ neg_ℤ p) +ℤ negsuc 0 in
    let dd : pos 0 ≤ℤ (d1 *ℤ d2) = omega (arith, ints, times_positive d1 d2 e1 e2) in
    let d0 : pos 0 ≤ℤ d1 = omega (arith, ints) in
    subst (λ (z : ℤ). (((p *ℤ d1) +ℤ r) *ℤ d2) <ℤ z)
    (ring ((v p ⊗ v d1 ⊕ v r) ⊗ v d2 ⊕ ((v d1 ⊕ ⊖ (v r)) ⊗ v d2 ⊕ (((v q ⊕ ⊖ (v p)) ⊕ v (negsuc 0)) ⊗ (v d1 ⊗ v d2) ⊕ v s ⊗ v d1))) ((v q ⊗ v d2 ⊕ v s) ⊗ v d1) (omega arith))
    (more (((p *ℤ d1) +ℤ r) *ℤ d2) (f *ℤ d2) (e *ℤ (d1 *ℤ d2)) (s *ℤ d1) (times_positive f d2 (apart r d1 rd) e2) (mul_nonnegative e (d1 *ℤ d2) (below p q h) dd) (mul_nonnegative s d1 s0 d0))

pub rem_bounds : (n d : ℤ) → pos 0 <ℤ d → (pos 0 ≤ℤ int_rem_euclid n d) × (int_rem_euclid n d <ℤ d)
rem_bounds (pos a) (pos zero) h = absurd (omega (arith, ints, h))
rem_bounds (pos a) (pos (suc d)) h = (omega (arith, ints), omega (arith, ints))
rem_bounds (negsuc a) (pos zero) h = absurd (omega (arith, ints, h))
rem_bounds (negsuc a) (pos (suc d)) h = (omega (arith, ints), omega (arith, ints))
rem_bounds n (negsuc d) h = absurd (omega (arith, ints, h))

-- the quotients differ
pub ratio_apart : (n1 d1 n2 d2 : ℤ) → pos 0 <ℤ d1 → pos 0 <ℤ d2 → ¬ (int_div_euclid n1 d1 ≡ int_div_euclid n2 d2) →
    int_cmp (int_div_euclid n1 d1) (int_div_euclid n2 d2) ≡ int_cmp (n1 *ℤ d2) (n2 *ℤ d1)
ratio_apart n1 d1 n2 d2 e1 e2 ne =
    let p = int_div_euclid n1 d1 in
    let q = int_div_euclid n2 d2 in
    let r = int_rem_euclid n1 d1 in
    let s = int_rem_euclid n2 d2 in
    let b1 = rem_bounds n1 d1 e1 in
    let b2 = rem_bounds n2 d2 e2 in
    let a1 = euclid n1 d1 e1 in
    let a2 = euclid n2 d2 e2 in
    cmp_along p q (n1 *ℤ d2) (n2 *ℤ d1)
    (λ h. subst (λ (x : ℤ). (x *ℤ d2) <ℤ (n2 *ℤ d1)) a1 (subst (λ (y : ℤ). (((p *ℤ d1) +ℤ r) *ℤ d2) <ℤ (y *ℤ d1)) a2 (ordered p q r s d1 d2 h b1.1 b2.0 e1 e2)))
    (λ e. absurd (ne e))
    (λ h. subst (λ (x : ℤ). (x *ℤ d1) <ℤ (n1 *ℤ d2)) a2 (subst (λ (y : ℤ). (((q *ℤ d2) +ℤ s) *ℤ d1) <ℤ (y *ℤ d2)) a1 (ordered q p s r d2 d1 h b2.1 b1.0 e2 e1)))

shift_lt : (z a b : ℤ) → a <ℤ b → (z +ℤ a) <ℤ (z +ℤ b)
shift_lt z a b h = omega (arith, ints)

-- the quotients are equal: the remainders decide, over the divisors
pub ratio_same : (n1 d1 n2 d2 : ℤ) → pos 0 <ℤ d1 → pos 0 <ℤ d2 → int_div_euclid n1 d1 ≡ int_div_euclid n2 d2 →
    int_cmp (d2 *ℤ int_rem_euclid n1 d1) (d1 *ℤ int_rem_euclid n2 d2) ≡ int_cmp (n1 *ℤ d2) (n2 *ℤ d1)
ratio_same n1 d1 n2 d2 e1 e2 same =
    let p = int_div_euclid n1 d1 in
    let q = int_div_euclid n2 d2 in
    let r = int_rem_euclid n1 d1 in
    let s = int_rem_euclid n2 d2 in
    let left : ((p *ℤ (d1 *ℤ d2)) +ℤ (d2 *ℤ r)) ≡ n1 *ℤ d2 =
    ring (v p ⊗ (v d1 ⊗ v d2) ⊕ v d2 ⊗ v r) ((v p ⊗ v d1 ⊕ v r) ⊗ v d2) (omega arith) ∙ ap (λ x. x *ℤ d2) (euclid n1 d1 e1) in
    let right : ((p *ℤ (d1 *ℤ d2)) +ℤ (d1 *ℤ s)) ≡ n2 *ℤ d1 =
    ap (λ x. (x *ℤ (d1 *ℤ d2)) +ℤ (d1 *ℤ s)) same ∙ ring (v q ⊗ (v d1 ⊗ v d2) ⊕ v d1 ⊗ v s) ((v q ⊗ v d2 ⊕ v s) ⊗ v d1) (omega arith) ∙ ap (λ x. x *ℤ d1) (euclid n2 d2 e2) in
    let z = p *ℤ (d1 *ℤ d2) in
    cmp_along (d2 *ℤ r) (d1 *ℤ s) (n1 *ℤ d2) (n2 *ℤ d1)
    (λ h. subst (λ (x : ℤ). x <ℤ (n2 *ℤ d1)) left (subst (λ (y : ℤ). (z +ℤ (d2 *ℤ r)) <ℤ y) right (shift_lt z (d2 *ℤ r) (d1 *ℤ s) h)))
    (λ e. sym left ∙ ap (λ x. z +ℤ x) e ∙ right)
    (λ h. subst (λ (x : ℤ). x <ℤ (n1 *ℤ d2)) right (subst (λ (y : ℤ). (z +ℤ (d1 *ℤ s)) <ℤ y) left (shift_lt z (d1 *ℤ s) (d2 *ℤ r) h)))

times_zero : (a : ℤ) → a *ℤ pos 0 ≡ pos 0
times_zero a = omega (arith, ints)

zero_left : (s d1 d2 : ℤ) → pos 0 <ℤ d1 → pos 0 ≤ℤ s → int_cmp (pos 0) s ≡ int_cmp (d2 *ℤ pos 0) (d1 *ℤ s)
zero_left s d1 d2 e1 s0 = cmp_along (pos 0) s (d2 *ℤ pos 0) (d1 *ℤ s)
    (λ h. subst (λ (x : ℤ). x <ℤ (d1 *ℤ s)) (sym (times_zero d2)) (times_positive d1 s e1 h))
    (λ e. times_zero d2 ∙ sym (times_zero d1) ∙ ap (λ x. d1 *ℤ x) e)
    (λ h. absurd (omega (arith, ints, h)))

zero_right : (r d1 d2 : ℤ) → pos 0 <ℤ d2 → pos 0 ≤ℤ r → int_cmp r (pos 0) ≡ int_cmp (d2 *ℤ r) (d1 *ℤ pos 0)
zero_right r d1 d2 e2 r0 = cmp_along r (pos 0) (d2 *ℤ r) (d1 *ℤ pos 0)
    (λ h. absurd (omega (arith, ints, h)))
    (λ e. ap (λ x. d2 *ℤ x) e ∙ times_zero d2 ∙ sym (times_zero d1))
    (λ h. subst (λ (x : ℤ). x <ℤ (d2 *ℤ r)) (sym (times_zero d1)) (times_positive d2 r e2 h))

-- one of them is 0
pub ratio_end : (r s d1 d2 : ℤ) → pos 0 <ℤ d1 → pos 0 <ℤ d2 → pos 0 ≤ℤ r → pos 0 ≤ℤ s → (r ≡ pos 0) ⊎ (s ≡ pos 0) → int_cmp r s ≡ int_cmp (d2 *ℤ r) (d1 *ℤ s)
ratio_end r s d1 d2 e1 e2 r0 s0 (inl z) = subst (λ (x : ℤ). int_cmp x s ≡ int_cmp (d2 *ℤ x) (d1 *ℤ s)) (sym z) (zero_left s d1 d2 e1 s0)
ratio_end r s d1 d2 e1 e2 r0 s0 (inr z) = subst (λ (x : ℤ). int_cmp r x ≡ int_cmp (d2 *ℤ r) (d1 *ℤ x)) (sym z) (zero_right r d1 d2 e2 r0)
