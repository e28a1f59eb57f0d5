-- The value of a form by the terms of its coefficients, and by its shape.
use Rattle.std.proofs.Common.{◌≡◌, ℕ, zero, suc, ◌+◌, ◌*◌, ◌/◌, ◌%◌, ◌<◌, ◌≤◌, ◌⊎◌, ℤ, pos, negsuc, ◌+ℤ◌, ◌*ℤ◌, List}
use Rattle.std.proofs.Common.{[], ◌∷◌, length, inl, inr, refl, ap, sym, ◌∙◌, arith, cond}
use Rattle.std.proofs.{lemmas.Bool.Decides.eqb_tells, lemmas.Int.ints}
use Rattle.std.specs.Prelude.{neg_ℤ}
use Rattle.lra_linear_spec.specs.Vectors.{entry, dot, product}
use Rattle.lra_linear_spec.proofs.Ring.{mul_add}
use Rattle.lra_dbm.specs.Tight.{signed_value}
use Rattle.lra_octagon.specs.Forms.{Term, terms_at, terms_from, shape_of}
use Rattle.lra_octagon.specs.declared.forms.FormShape.{FormShape}
use Rattle.lra_octagon.specs.declared.forms.FormShape.TheVariants.{Constant, One, Two, Other}

-- ---- the value of a form

abbrev pub term_sum : List Term → List ℤ → ℤ
term_sum [] s = pos 0
term_sum (t ∷ ts) s = (pos t.magnitude *ℤ signed_value s t.signed) +ℤ term_sum ts s

pub plus_value : (s : List ℤ) (k : ℕ) → signed_value s (2 * k) ≡ entry s k
unfolding signed_value
plus_value s k = let a : (2 * k) % 2 ≡ 0 = omega arith in let b : (2 * k) / 2 ≡ k = omega arith in rw (a, b) refl

pub minus_value : (s : List ℤ) (k : ℕ) → signed_value s (2 * k + 1) ≡ neg_ℤ (entry s k)
unfolding signed_value
minus_value s k =
    let a : (2 * k + 1) % 2 ≡ 1 = omega arith in let b : (2 * k + 1) / 2 ≡ k = omega arith in rw (a, b) refl

zero_times : (x : ℤ) → pos 0 *ℤ x ≡ pos 0
zero_times (pos x) = grind (arith, ints)
zero_times (negsuc x) = grind (arith, ints)

neg_times : (m : ℕ) (x : ℤ) → negsuc m *ℤ x ≡ pos (suc m) *ℤ neg_ℤ x
neg_times m (pos zero) = grind (arith, ints)
neg_times m (pos (suc x)) = grind (arith, ints)
neg_times m (negsuc x) = grind (arith, ints)

one_term : (c : ℤ) (k : ℕ) (s : List ℤ) (x d : ℤ) (ts : List Term) → x ≡ entry s k → d ≡ term_sum ts s →
    (c *ℤ x) +ℤ d ≡ term_sum (terms_at k c ts) s
one_term (pos zero) k s x d ts e f = let z = zero_times x in omega (arith, ints, z, f)
one_term (pos (suc m)) k s x d ts e f = rw (plus_value s k, e, f) refl
one_term (negsuc m) k s x d ts e f = rw (minus_value s k, e, f, neg_times m (entry s k)) refl

dot_terms : (cs : List ℤ) (k : ℕ) (s : List ℤ) (u : ℕ → ℤ) → ((j : ℕ) → u j ≡ entry s (k + j)) →
    dot cs u ≡ term_sum (terms_from k cs) s
dot_terms [] k s u e = refl
dot_terms (c ∷ cs) k s u e = one_term c k s (u 0) (dot cs (λ j. u (suc j))) (terms_from (suc k) cs)
    (e 0 ∙ ap (entry s) (omega arith))
    (dot_terms cs (suc k) s (λ j. u (suc j)) (λ j. e (suc j) ∙ ap (entry s) (omega arith)))

pub product_terms : (cs s : List ℤ) → product cs s ≡ term_sum (terms_from 0 cs) s
product_terms cs s = dot_terms cs 0 s (entry s) (λ j. ap (entry s) (omega arith))

-- ---- shapes

abbrev pub magnitude_of : FormShape → ℕ
magnitude_of Constant = 0
magnitude_of (One m i) = m
magnitude_of (Two m i j) = m
magnitude_of Other = 0

abbrev pub first_of : FormShape → ℕ
first_of Constant = 0
first_of (One m i) = i
first_of (Two m i j) = i
first_of Other = 0

abbrev pub second_of : FormShape → ℕ
second_of Constant = 0
second_of (One m i) = 0
second_of (Two m i j) = j
second_of Other = 0

-- two terms have the shape of a sum only if their magnitudes are equal
pub record AreTwo (t u : Term) (m i j : ℕ) : Type 0 where
  pub first_magnitude : t.magnitude ≡ m
  pub second_magnitude : u.magnitude ≡ m
  pub first_signed : t.signed ≡ i
  pub second_signed : u.signed ≡ j

pub two_or_other : (t u : Term) (r : FormShape) → shape_of (t ∷ u ∷ []) ≡ r →
    ((r ≡ Two t.magnitude t.signed u.signed) × (t.magnitude ≡ u.magnitude)) ⊎ (r ≡ Other)
two_or_other t u r e = elim (eqb_tells t.magnitude u.magnitude) [
  | inl q ↦ inl (sym e ∙ ap (λ b. cond b (Two t.magnitude t.signed u.signed) Other) q.0, q.1)
  | inr q ↦ inr (sym e ∙ ap (λ b. cond b (Two t.magnitude t.signed u.signed) Other) q.0)
]

pub are_two : (t u : Term) (m i j : ℕ) → shape_of (t ∷ u ∷ []) ≡ Two m i j → AreTwo t u m i j
are_two t u m i j e = elim (two_or_other t u (Two m i j) e) [
  | inl q ↦ record {
    first_magnitude = sym (ap magnitude_of q.0);
    second_magnitude = sym q.1 ∙ sym (ap magnitude_of q.0);
    first_signed = sym (ap first_of q.0);
    second_signed = sym (ap second_of q.0);
  }
  | inr q ↦ absurd (cc)
]

constant_sum : (ts : List Term) (s : List ℤ) → shape_of ts ≡ Constant → term_sum ts s ≡ pos 0
constant_sum [] s e = refl
constant_sum (t ∷ []) s e = absurd (cc)
constant_sum (t ∷ u ∷ []) s e = elim (two_or_other t u Constant e)
    [ inl q ↦ absurd (let w = q.0 in cc) | inr q ↦ absurd (cc) ]
constant_sum (t ∷ u ∷ w ∷ ts) s e = absurd (cc)

one_sum : (ts : List Term) (m i : ℕ) (s : List ℤ) → shape_of ts ≡ One m i → term_sum ts s ≡ pos m *ℤ signed_value s i
one_sum [] m i s e = absurd (cc)
one_sum (t ∷ []) m i s e =
    let a : t.magnitude ≡ m = ap magnitude_of e in let b : t.signed ≡ i = ap first_of e in rw (a, b)
    (omega (arith, ints))
one_sum (t ∷ u ∷ []) m i s e = elim (two_or_other t u (One m i) e)
    [ inl q ↦ absurd (let w = q.0 in cc) | inr q ↦ absurd (cc) ]
one_sum (t ∷ u ∷ w ∷ ts) m i s e = absurd (cc)

two_sum : (ts : List Term) (m i j : ℕ) (s : List ℤ) → shape_of ts ≡ Two m i j →
    term_sum ts s ≡ pos m *ℤ (signed_value s i +ℤ signed_value s j)
two_sum [] m i j s e = absurd (cc)
two_sum (t ∷ []) m i j s e = absurd (cc)
two_sum (t ∷ u ∷ []) m i j s e = let a = are_two t u m i j e in
    rw (a.first_magnitude, a.second_magnitude, a.first_signed, a.second_signed)
    (let d = mul_add (pos m) (signed_value s i) (signed_value s j) in omega (arith, ints))
two_sum (t ∷ u ∷ w ∷ ts) m i j s e = absurd (cc)

pub constant_value : (cs s : List ℤ) → Constant ≡ shape_of (terms_from 0 cs) → product cs s ≡ pos 0
constant_value cs s e = product_terms cs s ∙ constant_sum (terms_from 0 cs) s (sym e)

pub one_value : (cs s : List ℤ) (m i : ℕ) → One m i ≡ shape_of (terms_from 0 cs) →
    product cs s ≡ pos m *ℤ signed_value s i
one_value cs s m i e = product_terms cs s ∙ one_sum (terms_from 0 cs) m i s (sym e)

pub two_value : (cs s : List ℤ) (m i j : ℕ) → Two m i j ≡ shape_of (terms_from 0 cs) →
    product cs s ≡ pos m *ℤ (signed_value s i +ℤ signed_value s j)
two_value cs s m i j e = product_terms cs s ∙ two_sum (terms_from 0 cs) m i j s (sym e)

-- ---- each term is of a column that is there

abbrev AreBelow : ℕ → List Term → Type 0
AreBelow b [] = Unit {0}
AreBelow b (t ∷ ts) = (t.signed < b) × AreBelow b ts

term_below : (k : ℕ) (c : ℤ) (b : ℕ) (ts : List Term) → 2 * k + 1 < b → AreBelow b ts → AreBelow b (terms_at k c ts)
term_below k (pos zero) b ts h f = f
term_below k (pos (suc m)) b ts h f = (omega (arith, h), f)
term_below k (negsuc m) b ts h f = (h, f)

terms_below : (k : ℕ) (cs : List ℤ) (b : ℕ) → 2 * (k + length cs) ≤ b → AreBelow b (terms_from k cs)
terms_below k [] b h = tt
terms_below k (c ∷ cs) b h =
    term_below k c b (terms_from (suc k) cs) (omega (arith, h)) (terms_below (suc k) cs b (omega (arith, h)))

one_under : (ts : List Term) (b m i : ℕ) → AreBelow b ts → One m i ≡ shape_of ts → i < b
one_under [] b m i f e = absurd (cc)
one_under (t ∷ []) b m i f e = let q : i ≡ t.signed = ap first_of e in rw q f.0
one_under (t ∷ u ∷ []) b m i f e = elim (two_or_other t u (One m i) (sym e))
    [ inl q ↦ absurd (let w = q.0 in cc) | inr q ↦ absurd (cc) ]
one_under (t ∷ u ∷ w ∷ ts) b m i f e = absurd (cc)

two_under : (ts : List Term) (b m i j : ℕ) → AreBelow b ts → Two m i j ≡ shape_of ts → (i < b) × (j < b)
two_under [] b m i j f e = absurd (cc)
two_under (t ∷ []) b m i j f e = absurd (cc)
two_under (t ∷ u ∷ []) b m i j f e =
    let a = are_two t u m i j (sym e) in rw (← a.first_signed, ← a.second_signed) (f.0, f.1.0)
two_under (t ∷ u ∷ w ∷ ts) b m i j f e = absurd (cc)

pub one_below : (cs : List ℤ) (m i : ℕ) → One m i ≡ shape_of (terms_from 0 cs) → i < 2 * length cs
one_below cs m i e = one_under (terms_from 0 cs) (2 * length cs) m i (terms_below 0 cs (2 * length cs) (omega arith)) e

pub two_below : (cs : List ℤ) (m i j : ℕ) → Two m i j ≡ shape_of (terms_from 0 cs)
    → (i < 2 * length cs) × (j < 2 * length cs)
two_below cs m i j e =
    two_under (terms_from 0 cs) (2 * length cs) m i j (terms_below 0 cs (2 * length cs) (omega arith)) e
