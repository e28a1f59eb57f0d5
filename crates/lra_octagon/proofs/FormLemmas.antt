-- The shape of a form as it is read, and what its signed variables and magnitudes are.
use Rattle.std.proofs.Common.{◌≡◌, ℕ, zero, suc, ◌+◌, ◌*◌, ◌<◌, ◌≤◌, ◌^◌, ℤ, pos, negsuc, List, [], ◌∷◌, ◌++◌, length, inl, inr, add-one, refl, ap, sym, ◌∙◌, arith, cond, Bool, true, false}
use Rattle.std.proofs.lemmas.List.Elements.{All-tail}
use Rattle.std.specs.{List.All, Prelude.◌==◌}
use Rattle.lra_linear_spec.specs.Range.{InRange}
use Rattle.lra_octagon.specs.FormValues.{are_two, first_of, magnitude_of, two_or_other}
use Rattle.lra_octagon.specs.declared.forms.FormShape.TheVariants.{Constant, One, Two, Other}
use Rattle.lra_octagon.specs.{Forms.ShapeFits, Forms.Term, Forms.terms_at, Forms.terms_from, Forms.shape_of, declared.forms.FormShape.FormShape}

-- ---- one more coefficient

abbrev pub shape_with : FormShape → ℕ → ℕ → FormShape
shape_with Constant m i = One m i
shape_with (One a h) m i = cond (a == m) (Two a h i) Other
shape_with (Two a h j) m i = Other
shape_with Other m i = Other

no_more : (t : Bool) (a h j m i : ℕ) → shape_with (cond t (Two a h j) Other) m i ≡ Other
no_more true a h j m i = refl
no_more false a h j m i = refl

shape_more : (ts : List Term) (i m : ℕ) → shape_of (ts ++ (record { signed = i; magnitude = m } ∷ [])) ≡
    shape_with (shape_of ts) m i
shape_more [] i m = refl
shape_more (t ∷ []) i m = refl
shape_more (t ∷ u ∷ []) i m = sym (no_more (t.magnitude == u.magnitude) t.magnitude t.signed u.signed m i)
shape_more (t ∷ u ∷ w ∷ ts) i m = refl

pub with_term : (s : FormShape) (k i m : ℕ) (c : ℤ) (r : FormShape) →
    terms_at k c [] ≡ record { signed = i; magnitude = m } ∷ [] → r ≡ shape_with s m i
    → (ts : List Term) → s ≡ shape_of ts → r ≡ shape_of (ts ++ terms_at k c [])
with_term s k i m c r e g ts f = g ∙ ap (λ z. shape_with z m i) f ∙ sym (shape_more ts i m) ∙
    ap (λ z. shape_of (ts ++ z)) (sym e)

nothing_more : (ts : List Term) → ts ++ [] ≡ ts
nothing_more [] = refl
nothing_more (t ∷ ts) = ap (λ z. t ∷ z) (nothing_more ts)

pub same_shape : (s : FormShape) (k : ℕ) (c : ℤ) → c ≡ pos 0 → (ts : List Term) → s ≡ shape_of ts →
    s ≡ shape_of (ts ++ terms_at k c [])
same_shape s k c e ts f = f ∙ ap shape_of (sym (nothing_more ts)) ∙ ap (λ z. shape_of (ts ++ terms_at k z [])) (sym e)

at_front : (k : ℕ) (c : ℤ) (ts : List Term) → terms_at k c ts ≡ terms_at k c [] ++ ts
at_front k (pos zero) ts = refl
at_front k (pos (suc m)) ts = refl
at_front k (negsuc m) ts = refl

terms_step : (k : ℕ) (c : ℤ) (cs : List ℤ) → terms_from k (c ∷ cs) ≡ terms_at k c [] ++ terms_from (k + 1) cs
terms_step k c cs = at_front k c (terms_from (suc k) cs) ∙
    ap (λ z. terms_at k c [] ++ terms_from z cs) (sym (add-one k))

both_parts : (ts us ws : List Term) → ts ++ (us ++ ws) ≡ (ts ++ us) ++ ws
both_parts [] us ws = refl
both_parts (t ∷ ts) us ws = ap (λ z. t ∷ z) (both_parts ts us ws)

-- the shape of what was read so far
pub record ShapeRead (shape : FormShape) (all rest : List Term) : Type 0 where
  pub before : List Term
  pub is : shape ≡ shape_of before
  pub all_is : all ≡ before ++ rest

pub read_starts : (all : List Term) → ShapeRead Constant all all
read_starts all = record { before = []; is = refl; all_is = refl }

pub read_more : (s r : FormShape) (all : List Term) (k : ℕ) (c : ℤ) (cs : List ℤ) →
    ((ts : List Term) → s ≡ shape_of ts → r ≡ shape_of (ts ++ terms_at k c []))
    → ShapeRead s all (terms_from k (c ∷ cs)) → ShapeRead r all (terms_from (k + 1) cs)
read_more s r all k c cs more read = record {
  before = read.before ++ terms_at k c [];
  is = more read.before read.is;
  all_is = read.all_is ∙ ap (λ z. read.before ++ z) (terms_step k c cs) ∙
      both_parts read.before (terms_at k c []) (terms_from (k + 1) cs);
}

pub read_all : (s : FormShape) (all : List Term) → ShapeRead s all [] → s ≡ shape_of all
read_all s all read = read.is ∙ ap shape_of (sym (nothing_more read.before) ∙ sym read.all_is)

-- ---- signed variables and magnitudes of a form

pub record TermFits (b : ℕ) (t : Term) : Type 0 where
  pub below : t.signed < b
  pub some : 0 < t.magnitude
  pub range : t.magnitude < 2 ^ 127

abbrev pub TermsFit : ℕ → List Term → Type 0
TermsFit b [] = Unit {0}
TermsFit b (t ∷ ts) = TermFits b t × TermsFit b ts

term_fits : (k : ℕ) (c : ℤ) (b : ℕ) (ts : List Term) → 2 * k + 1 < b → InRange c → TermsFit b ts →
    TermsFit b (terms_at k c ts)
term_fits k (pos zero) b ts h r f = f
term_fits k (pos (suc m)) b ts h r f = (record { below = omega arith; some = omega arith; range = r }, f)
term_fits k (negsuc m) b ts h r f = (record { below = h; some = omega arith; range = r }, f)

terms_fit : (k : ℕ) (cs : List ℤ) (b : ℕ) → 2 * (k + length cs) ≤ b → All InRange cs → TermsFit b (terms_from k cs)
terms_fit k [] b h r = tt
terms_fit k (c ∷ cs) b h r = term_fits k c b (terms_from (suc k) cs) (omega arith) (r 0 c (omega arith))
    (terms_fit (suc k) cs b (omega arith) (All-tail InRange c cs r))

one_fits : (ts : List Term) (b m i : ℕ) → TermsFit b ts → One m i ≡ shape_of ts → (i < b) × (0 < m) × (m < 2 ^ 127)
one_fits [] b m i f e = absurd (cc)
one_fits (t ∷ []) b m i f e =
    let p : m ≡ t.magnitude = ap magnitude_of e in let q : i ≡ t.signed = ap first_of e in rw (p, q)
    (f.0.below, f.0.some, f.0.range)
one_fits (t ∷ u ∷ []) b m i f e = elim (two_or_other t u (One m i) (sym e))
    [ inl q ↦ absurd (let w = q.0 in cc) | inr q ↦ absurd (cc) ]
one_fits (t ∷ u ∷ w ∷ ts) b m i f e = absurd (cc)

two_fits : (ts : List Term) (b m i j : ℕ) → TermsFit b ts → Two m i j ≡ shape_of ts → (i < b) × (j < b) × (0 < m) ×
    (m < 2 ^ 127)
two_fits [] b m i j f e = absurd (cc)
two_fits (t ∷ []) b m i j f e = absurd (cc)
two_fits (t ∷ u ∷ []) b m i j f e = let a = are_two t u m i j (sym e) in
    rw (← a.first_magnitude, ← a.first_signed, ← a.second_signed) (f.0.below, f.1.0.below, f.0.some, f.0.range)
two_fits (t ∷ u ∷ w ∷ ts) b m i j f e = absurd (cc)

pub one_in_range : (n : ℕ) (cs : List ℤ) (m i : ℕ) → length cs ≡ n → All InRange cs →
    One m i ≡ shape_of (terms_from 0 cs) → (i < 2 * n) × (0 < m) × (m < 2 ^ 127)
one_in_range n cs m i w r e = one_fits (terms_from 0 cs) (2 * n) m i (terms_fit 0 cs (2 * n) (omega arith) r) e

pub two_in_range : (n : ℕ) (cs : List ℤ) (m i j : ℕ) → length cs ≡ n → All InRange cs →
    Two m i j ≡ shape_of (terms_from 0 cs)
    → (i < 2 * n) × (j < 2 * n) × (0 < m) × (m < 2 ^ 127)
two_in_range n cs m i j w r e = two_fits (terms_from 0 cs) (2 * n) m i j (terms_fit 0 cs (2 * n) (omega arith) r) e

pub shape_fits : (cs : List ℤ) (s : FormShape) → s ≡ shape_of (terms_from 0 cs) → All InRange cs → ShapeFits (2 * length cs) s
shape_fits cs Constant e r = tt
shape_fits cs (One m i) e r = one_in_range (length cs) cs m i refl r e
shape_fits cs (Two m i j) e r = two_in_range (length cs) cs m i j refl r e
shape_fits cs Other e r = tt
