-- Division of a sum of products by a modulus, column by column.
use Rattle.std.proofs.Common.{Bool, List, [], add-one, ap, arith, false, get_or, length, nat_eq, neg_ℤ, negsuc, of_z, pos, refl, subst, suc, sym, take, to_z, unsigned_abs, zero, FitsSigned, ℕ, ℤ, ◌%◌}
use Rattle.std.proofs.Common.{◌*ℤ◌, ◌*◌, ◌+ℤ◌, ◌+◌, ◌<ℤ◌, ◌<◌, ◌∙◌, ◌∷◌, ◌≡◌, ◌≤ℤ◌, ◌≤◌, ◌^◌}
use Rattle.std.proofs.lemmas.Int.{fits_signed_mul, int_rem_euclid_is, ints, to_z-of_z, unsigned_abs-mul}
use Rattle.std.proofs.{Math.Dec.eqb-suc-zero, Math.Nat.add-mod-mod, Math.Nat.mul-le-mul, Math.Nat.mul-le-mul_right, lemmas.List.take_all}
use Rattle.std.specs.{Int.int_div_euclid, Int.int_rem_euclid, Int.w128, List.All, Prelude.◌↔◌, Prelude.IsTrue}
use Rattle.lra_duality.specs.Crates.{lra_linear_spec.Range.InRange, lra_linear_spec.Vectors.product}
use Rattle.lra_duality.proofs.Crates.lra_linear_spec.Products.{product_none}
use Rattle.lra_duality.proofs.Crates.lra_linear_spec.Ring.{ring, v, ⊖, ◌⊕◌, ◌⊗◌}
use Rattle.lra_row.proofs.Ratio.{euclid, rem_bounds}
use Rattle.lra_duality.specs.Residues.{IsMultiple, IsResidue}

-- ---- the product of the first columns
pub product_more : (xs ys : List ℤ) (i : ℕ) (x y : ℤ) → i < length xs → length xs ≡ length ys → x ≡ get_or xs i x → y ≡ get_or ys i y →
    product (take (suc i) xs) (take (suc i) ys) ≡ product (take i xs) (take i ys) +ℤ (x *ℤ y)
product_more [] ys i x y h n e f = absurd (omega (arith, h))
product_more (a ∷ xs) [] i x y h n e f = absurd (omega (arith, n))
product_more (a ∷ xs) (b ∷ ys) zero x y h n e f =
    ap (λ z. (z *ℤ b) +ℤ pos 0) (sym e) ∙ ap (λ z. (x *ℤ z) +ℤ pos 0) (sym f) ∙ ring (v x ⊗ v y ⊕ v (pos 0)) (v (pos 0) ⊕ v x ⊗ v y) (omega arith)
product_more (a ∷ xs) (b ∷ ys) (suc i) x y h n e f =
    ap (λ z. (a *ℤ b) +ℤ z) (product_more xs ys i x y (omega (arith, h)) (omega (arith, n)) e f) ∙
    ring (v a ⊗ v b ⊕ (v (product (take i xs) (take i ys)) ⊕ v x ⊗ v y)) ((v a ⊗ v b ⊕ v (product (take i xs) (take i ys))) ⊕ v x ⊗ v y) (omega arith)

-- ---- one more column
pub residue_start : (m : ℤ) (xs ys : List ℤ) → pos 0 <ℤ m → IsResidue m (product (take 0 xs) (take 0 ys)) (pos 0)
residue_start m xs ys h = record { low = omega (arith, ints); below = h; times = pos 0; is = ring (v (pos 0)) (v (pos 0) ⊕ v m ⊗ v (pos 0)) (omega arith) }

pub residue_step : (m z s x y a b t : ℤ) → pos 0 <ℤ m → IsResidue m z s → a ≡ int_rem_euclid x m → b ≡ int_rem_euclid y m → t ≡ int_rem_euclid (s +ℤ (a *ℤ b)) m → IsResidue m (z +ℤ (x *ℤ y)) t
residue_step m z s x y a b t h i ea eb et =
    let dx = int_div_euclid x m in
    let dy = int_div_euclid y m in
    let dt = int_div_euclid (s +ℤ (a *ℤ b)) m in
    let ex : (dx *ℤ m) +ℤ a ≡ x = ap (λ w. (dx *ℤ m) +ℤ w) ea ∙ euclid x m h in
    let ey : (dy *ℤ m) +ℤ b ≡ y = ap (λ w. (dy *ℤ m) +ℤ w) eb ∙ euclid y m h in
    let es : (dt *ℤ m) +ℤ t ≡ s +ℤ (a *ℤ b) = ap (λ w. (dt *ℤ m) +ℤ w) et ∙ euclid (s +ℤ (a *ℤ b)) m h in
    let r = rem_bounds (s +ℤ (a *ℤ b)) m h in
    record {
      low = subst (λ w. pos 0 ≤ℤ w) (sym et) r.0;
      below = subst (λ w. w <ℤ m) (sym et) r.1;
      times = dt +ℤ (i.times +ℤ (((dx *ℤ dy) *ℤ m) +ℤ ((dx *ℤ b) +ℤ (a *ℤ dy))));
      is = ap (λ w. w +ℤ (x *ℤ y)) i.is ∙ ap (λ w. (s +ℤ (m *ℤ i.times)) +ℤ (w *ℤ y)) (sym ex) ∙ ap (λ w. (s +ℤ (m *ℤ i.times)) +ℤ (((dx *ℤ m) +ℤ a) *ℤ w)) (sym ey) ∙
          ring ((v s ⊕ v m ⊗ v i.times) ⊕ (v dx ⊗ v m ⊕ v a) ⊗ (v dy ⊗ v m ⊕ v b))
          ((v s ⊕ v a ⊗ v b) ⊕ v m ⊗ (v i.times ⊕ ((v dx ⊗ v dy) ⊗ v m ⊕ (v dx ⊗ v b ⊕ v a ⊗ v dy)))) (omega arith) ∙
          ap (λ w. w +ℤ (m *ℤ (i.times +ℤ (((dx *ℤ dy) *ℤ m) +ℤ ((dx *ℤ b) +ℤ (a *ℤ dy)))))) (sym es) ∙
          ring ((v dt ⊗ v m ⊕ v t) ⊕ v m ⊗ (v i.times ⊕ ((v dx ⊗ v dy) ⊗ v m ⊕ (v dx ⊗ v b ⊕ v a ⊗ v dy))))
          (v t ⊕ v m ⊗ (v dt ⊕ (v i.times ⊕ ((v dx ⊗ v dy) ⊗ v m ⊕ (v dx ⊗ v b ⊕ v a ⊗ v dy))))) (omega arith);
    }

pub residue_more : (m s x y a b t : ℤ) (xs ys : List ℤ) (i : ℕ) → pos 0 <ℤ m → i < length xs → length xs ≡ length ys → x ≡ get_or xs i x → y ≡ get_or ys i y →
    IsResidue m (product (take i xs) (take i ys)) s → a ≡ int_rem_euclid x m → b ≡ int_rem_euclid y m → t ≡ int_rem_euclid (s +ℤ (a *ℤ b)) m →
    IsResidue m (product (take (i + 1) xs) (take (i + 1) ys)) t
residue_more m s x y a b t xs ys i h l n ex ey r ea eb et =
    subst (λ (j : ℕ). IsResidue m (product (take j xs) (take j ys)) t) (sym (add-one i))
    (subst (λ z. IsResidue m z t) (sym (product_more xs ys i x y l n ex ey)) (residue_step m (product (take i xs) (take i ys)) s x y a b t h r ea eb et))

pub residue_end : (m s : ℤ) (xs ys : List ℤ) (i : ℕ) → length xs ≤ i → length xs ≡ length ys → IsResidue m (product (take i xs) (take i ys)) s → IsResidue m (product xs ys) s
residue_end m s xs ys i h n r =
    subst (λ (l : List ℤ). IsResidue m (product xs l) s) (take_all i ys (omega (arith, h, n))) (subst (λ (l : List ℤ). IsResidue m (product l (take i ys)) s) (take_all i xs h) r)

-- ---- as words: a product and a sum that wrap
pub wrapped : (s a b : ℕ) → pos ((s + (a * b) % 2 ^ 64) % 2 ^ 64) ≡ int_rem_euclid (pos s +ℤ (pos a *ℤ pos b)) (pos (2 ^ 64))
wrapped s a b =
    ap pos (add-mod-mod s (a * b) (2 ^ 64)) ∙
    sym (int_rem_euclid_is (pos s +ℤ (pos a *ℤ pos b)) (pos (2 ^ 64)) (2 ^ 64) 0 (s + a * b) (omega arith) refl (omega (arith, ints)))

-- ---- numbers below 2 ^ 63
below_size : (z m : ℤ) → pos 0 ≤ℤ z → z <ℤ m → m <ℤ pos (2 ^ 63) → unsigned_abs z ≤ 2 ^ 63
below_size (pos n) (pos m) h l k = omega (arith, ints, l, k)
below_size (pos n) (negsuc m) h l k = absurd (omega (arith, ints, l))
below_size (negsuc n) m h l k = absurd (omega (arith, ints, h))

pub product_fits : (a b m : ℤ) → pos 0 ≤ℤ a → a <ℤ m → pos 0 ≤ℤ b → b <ℤ m → m <ℤ pos (2 ^ 63) → FitsSigned w128 (a *ℤ b)
product_fits a b m la ha lb hb k = fits_signed_mul w128 a b (2 ^ 63) (2 ^ 63) (below_size a m la ha k) (below_size b m lb hb k) (omega arith)

pub sum_fits : (s a b m : ℤ) → pos 0 ≤ℤ s → s <ℤ m → pos 0 ≤ℤ a → a <ℤ m → pos 0 ≤ℤ b → b <ℤ m → m <ℤ pos (2 ^ 63) → FitsSigned w128 (s +ℤ (a *ℤ b))
sum_fits s a b m ls hs la ha lb hb k =
    let small : unsigned_abs (a *ℤ b) ≤ 2 ^ 63 * 2 ^ 63 = subst (λ n. n ≤ 2 ^ 63 * 2 ^ 63) (sym (unsigned_abs-mul a b)) (mul-le-mul (below_size a m la ha k) (below_size b m lb hb k)) in
    added s (a *ℤ b) (below_size s m ls hs k) small
  where
    added : (x y : ℤ) → unsigned_abs x ≤ 2 ^ 63 → unsigned_abs y ≤ 2 ^ 63 * 2 ^ 63 → FitsSigned w128 (x +ℤ y)
    added x y h k = omega (arith, ints, h, k)

-- ---- a number that the primes divide
multiple_of_residue : (m z r : ℤ) → IsResidue m z r → r ≡ pos 0 → IsMultiple m z
multiple_of_residue m z r i e = (i.times, i.is ∙ ap (λ w. w +ℤ (m *ℤ i.times)) e ∙ ring (v (pos 0) ⊕ v m ⊗ v i.times) (v m ⊗ v i.times) (omega arith))

-- a multiple of m that is at least 0 and below m is 0
small_multiple : (m r t : ℤ) → pos 0 ≤ℤ r → r <ℤ m → r ≡ m *ℤ t → r ≡ pos 0
small_multiple m r (pos zero) h l e = e ∙ ring (v m ⊗ v (pos 0)) (v (pos 0)) (omega arith)
small_multiple (pos m) r (pos (suc t)) h l e = let k : m ≤ m * suc t = grind arith in absurd (omega (arith, ints, l, e, k))
small_multiple (negsuc m) r (pos (suc t)) h l e = absurd (omega (arith, ints, h, l))
small_multiple (pos m) r (negsuc t) h l e = below m t (e ∙ ring (v (pos m) ⊗ v (negsuc t)) (⊖ (v (pos m) ⊗ v (pos (suc t)))) (omega arith))
  where
    below : (m t : ℕ) → r ≡ neg_ℤ (pos m *ℤ pos (suc t)) → r ≡ pos 0
    below m t f = omega (arith, ints, h, f)
small_multiple (negsuc m) r (negsuc t) h l e = absurd (omega (arith, ints, h, l))

pub residue_decides : (m z r : ℤ) (b : Bool) → IsResidue m z r → IsTrue b ↔ (r ≡ pos 0) → IsTrue b ↔ IsMultiple m z
residue_decides m z r b i h = (
  λ t. multiple_of_residue m z r i (h.0 t),
  λ k. h.1 (small_multiple m r (k.0 +ℤ neg_ℤ i.times) i.low i.below
      (ring (v r) ((v r ⊕ v m ⊗ v i.times) ⊕ ⊖ (v m ⊗ v i.times)) (omega arith) ∙ ap (λ w. w +ℤ neg_ℤ (m *ℤ i.times)) (sym i.is ∙ k.1) ∙
      ring (v m ⊗ v k.0 ⊕ ⊖ (v m ⊗ v i.times)) (v m ⊗ (v k.0 ⊕ ⊖ (v i.times))) (omega arith))),
)

-- two numbers without a common divisor that divide z: so does their product
both_divide : (a b u w : ℤ) (z : ℤ) → (u *ℤ a) +ℤ (w *ℤ b) ≡ pos 1 → IsMultiple a z → IsMultiple b z → IsMultiple (a *ℤ b) z
both_divide a b u w z e x y = (
  (u *ℤ y.0) +ℤ (w *ℤ x.0),
  ring (v z) (v (pos 1) ⊗ v z) (omega arith) ∙ ap (λ o. o *ℤ z) (sym e) ∙
      ring ((v u ⊗ v a ⊕ v w ⊗ v b) ⊗ v z) ((v u ⊗ v a) ⊗ v z ⊕ (v w ⊗ v b) ⊗ v z) (omega arith) ∙ ap (λ o. ((u *ℤ a) *ℤ o) +ℤ ((w *ℤ b) *ℤ z)) y.1 ∙
      ap (λ o. ((u *ℤ a) *ℤ (b *ℤ y.0)) +ℤ ((w *ℤ b) *ℤ o)) x.1 ∙
      ring ((v u ⊗ v a) ⊗ (v b ⊗ v y.0) ⊕ (v w ⊗ v b) ⊗ (v a ⊗ v x.0)) ((v a ⊗ v b) ⊗ (v u ⊗ v y.0 ⊕ v w ⊗ v x.0)) (omega arith),
)

-- the size of a product of rows
product_size : (xs ys : List ℤ) → All InRange xs → All InRange ys → unsigned_abs (product xs ys) ≤ length xs * (2 ^ 127 * 2 ^ 127)
product_size [] ys hx hy = omega arith
product_size (x ∷ xs) [] hx hy = subst (λ z. unsigned_abs z ≤ suc (length xs) * (2 ^ 127 * 2 ^ 127)) (sym (product_none (x ∷ xs))) (omega arith)
product_size (x ∷ xs) (y ∷ ys) hx hy =
    let first : unsigned_abs (x *ℤ y) ≤ 2 ^ 127 * 2 ^ 127 = subst (λ n. n ≤ 2 ^ 127 * 2 ^ 127) (sym (unsigned_abs-mul x y))
    (mul-le-mul (below (hx 0 (pos 0) (omega arith))) (below (hy 0 (pos 0) (omega arith)))) in
    let rest = product_size xs ys (λ k d h. hx (suc k) d (omega (arith, h))) (λ k d h. hy (suc k) d (omega (arith, h))) in
    let sum = abs_sum (x *ℤ y) (product xs ys) in
    omega (arith, first, rest, sum)
  where
    below : {n : ℕ} → n < 2 ^ 127 → n ≤ 2 ^ 127
    below h = omega (arith, h)

    abs_sum : (a b : ℤ) → unsigned_abs (a +ℤ b) ≤ unsigned_abs a + unsigned_abs b
    abs_sum a b = omega (arith, ints)

-- ---- the primes
abbrev pub primes_product : ℤ
primes_product = (((pos 9223372036854775783 *ℤ pos 9223372036854775643) *ℤ pos 9223372036854775549) *ℤ pos 9223372036854775507) *ℤ pos 9223372036854775433

all_divide : (z : ℤ) → IsMultiple (pos 9223372036854775783) z → IsMultiple (pos 9223372036854775643) z → IsMultiple (pos 9223372036854775549) z → IsMultiple (pos 9223372036854775507) z →
    IsMultiple (pos 9223372036854775433) z → IsMultiple primes_product z
all_divide z a b c d e =
    let x0 = both_divide (pos 9223372036854775783) (pos 9223372036854775643) (pos 2174080551544339973) (neg_ℤ (pos 2174080551544340006)) z refl a b in
    let x1 = both_divide ((pos 9223372036854775783) *ℤ pos 9223372036854775643) (pos 9223372036854775549) (pos 4196139478669109789) (neg_ℤ (pos 38702555530299044527770171516701769960)) z refl x0 c in
    let x2 = both_divide (((pos 9223372036854775783) *ℤ pos 9223372036854775643) *ℤ pos 9223372036854775549) (pos 9223372036854775507) (pos 819472669938580582)
    (neg_ℤ (pos 69713024938430293038392042366666904902793431121555883063)) z refl x1 d in
    let x3 = both_divide ((((pos 9223372036854775783) *ℤ pos 9223372036854775643) *ℤ pos 9223372036854775549) *ℤ pos 9223372036854775507) (pos 9223372036854775433) (neg_ℤ (pos 2202752423125968076))
    (pos 1728362632228903720095167625791543564795259349802584446300484881273155478621) z refl x2 e in
    x3

-- a multiple of a number above its size is 0
zero_multiple : (m z t : ℤ) (n : ℕ) → unsigned_abs z < n → pos n ≤ℤ m → z ≡ m *ℤ t → z ≡ pos 0
zero_multiple (negsuc m) z t n h l e = absurd (omega (arith, ints, l))
zero_multiple (pos m) z (pos zero) n h l e = e ∙ ring (v (pos m) ⊗ v (pos 0)) (v (pos 0)) (omega arith)
zero_multiple (pos m) z (pos (suc t)) n h l e =
    let s : unsigned_abs z ≡ m * suc t = ap unsigned_abs e ∙ unsigned_abs-mul (pos m) (pos (suc t)) in
    let k : m ≤ m * suc t = at_least m t in
    absurd (omega (arith, ints, s, k, h, l))
  where
    at_least : (m t : ℕ) → m ≤ m * suc t
    at_least m t = grind arith
zero_multiple (pos m) z (negsuc t) n h l e =
    let s : unsigned_abs z ≡ m * suc t = ap unsigned_abs e ∙ unsigned_abs-mul (pos m) (negsuc t) in
    let k : m ≤ m * suc t = at_least m t in
    absurd (omega (arith, ints, s, k, h, l))
  where
    at_least : (m t : ℕ) → m ≤ m * suc t
    at_least m t = grind arith

pub all_vanish : (xs ys : List ℤ) → All InRange xs → All InRange ys → length xs < 2 ^ 60 → IsMultiple primes_product (product xs ys) → product xs ys ≡ pos 0
all_vanish xs ys hx hy short m =
    let size = product_size xs ys hx hy in
    let small : unsigned_abs (product xs ys) < 2 ^ 60 * (2 ^ 127 * 2 ^ 127) = fewer (length xs) (unsigned_abs (product xs ys)) (2 ^ 127 * 2 ^ 127) (omega arith) short size in
    zero_multiple primes_product (product xs ys) m.0 (2 ^ 60 * (2 ^ 127 * 2 ^ 127)) small (omega (arith, ints)) m.1
  where
    fewer : (n s k : ℕ) → 0 < k → n < 2 ^ 60 → s ≤ n * k → s < 2 ^ 60 * k
    fewer n s k p h l = let m : suc n * k ≤ 2 ^ 60 * k = mul-le-mul_right k h in omega (arith, m, l, p)

-- ---- as the code states it: some prime doesn't divide the product, or all do
multiple_zero : (m z : ℤ) → z ≡ pos 0 → IsMultiple m z
multiple_zero m z e = (pos 0, e ∙ ring (v (pos 0)) (v m ⊗ v (pos 0)) (omega arith))

pub one_left : (m z : ℤ) (b : Bool) → b ≡ false → IsTrue b ↔ IsMultiple m z → IsTrue b ↔ (z ≡ pos 0)
one_left m z b e h = (λ t. cc, λ k. h.1 (multiple_zero m z k))

pub last_left : (xs ys : List ℤ) (b : Bool) → All InRange xs → All InRange ys → length xs < 2 ^ 60 → IsMultiple (pos 9223372036854775783) (product xs ys) →
    IsMultiple (pos 9223372036854775643) (product xs ys) → IsMultiple (pos 9223372036854775549) (product xs ys) → IsMultiple (pos 9223372036854775507) (product xs ys) →
    IsTrue b ↔ IsMultiple (pos 9223372036854775433) (product xs ys) → IsTrue b ↔ (product xs ys ≡ pos 0)
last_left xs ys b hx hy short m n o p h = (
  λ t. all_vanish xs ys hx hy short (all_divide (product xs ys) m n o p (h.0 t)),
  λ k. h.1 (multiple_zero (pos 9223372036854775433) (product xs ys) k),
)

-- ---- as the code computes it
pub parts_fit : (x y m a b : ℤ) → pos 0 <ℤ m → m <ℤ pos (2 ^ 63) → a ≡ int_rem_euclid x m → b ≡ int_rem_euclid y m → FitsSigned w128 (a *ℤ b)
parts_fit x y m a b h k ea eb =
    let r = rem_bounds x m h in
    let s = rem_bounds y m h in
    product_fits a b m (subst (λ z. pos 0 ≤ℤ z) (sym ea) r.0) (subst (λ z. z <ℤ m) (sym ea) r.1) (subst (λ z. pos 0 ≤ℤ z) (sym eb) s.0) (subst (λ z. z <ℤ m) (sym eb) s.1) k

pub whole_fits : (x y m a b s z : ℤ) → pos 0 <ℤ m → m <ℤ pos (2 ^ 63) → a ≡ int_rem_euclid x m → b ≡ int_rem_euclid y m → IsResidue m z s → FitsSigned w128 (s +ℤ (a *ℤ b))
whole_fits x y m a b s z h k ea eb i =
    let r = rem_bounds x m h in
    let t = rem_bounds y m h in
    sum_fits s a b m i.low i.below (subst (λ w. pos 0 ≤ℤ w) (sym ea) r.0) (subst (λ w. w <ℤ m) (sym ea) r.1) (subst (λ w. pos 0 ≤ℤ w) (sym eb) t.0) (subst (λ w. w <ℤ m) (sym eb) t.1) k

pub not_minus_one : (m : ℤ) → FitsSigned w128 m → pos 0 <ℤ m → of_z w128 m ≡ 340282366920938463463374607431768211455 → ⊥
not_minus_one m f h e = let g : m ≡ negsuc 0 = sym (to_z-of_z w128 m f) ∙ ap (to_z w128) e in omega (arith, ints, g, h)

pub zero_bits : (r : ℤ) → FitsSigned w128 r → IsTrue (nat_eq (of_z w128 r) 0) ↔ (r ≡ pos 0)
zero_bits r f = (
  λ h. let e : of_z w128 r ≡ 0 = said (of_z w128 r) h in sym (to_z-of_z w128 r f) ∙ ap (to_z w128) e,
  λ e. ap (λ (z : ℤ). nat_eq (of_z w128 z) 0) e,
)
  where
    said : (n : ℕ) → IsTrue (nat_eq n 0) → n ≡ 0
    said zero h = refl
    said (suc n) h = let f : nat_eq (suc n) 0 ≡ false = eqb-suc-zero n in cc
