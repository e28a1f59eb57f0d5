-- Tests of the constant alone, and equalities as two tests.
use Rattle.std.proofs.Common.{◌≡◌, ℕ, zero, suc, ℤ, pos, negsuc, List, [], ◌∷◌, length, map, Option, None, Bool, true, false, cond, ◌⊎◌, inl, inr, refl, sym, ap, ◌∙◌, arith}
use Rattle.std.proofs.{lemmas.Bool.false≢true, lemmas.Int.ints}
use Rattle.std.specs.Prelude.{◌+ℤ◌, ◌*ℤ◌, ◌≤ℤ◌, neg_ℤ, int_lt}
use Rattle.lra_box.specs.Crates.lra_linear_forms.Form.{Form, form_value, HoldsAt}
use Rattle.lra_box.specs.Crates.{lra_linear_spec.Vectors.product, lra_linear_spec.declared.ConKind.TheVariants.Eq}
use Rattle.lra_box.proofs.Crates.lra_linear_forms.FormLemmas.{product_negated}
use Rattle.lra_domain.specs.{declared.Exactness.Exactness, declared.Exactness.TheVariants.Exact, declared.Exactness.TheVariants.Flagged}
use Rattle.lra_box.specs.Refine.{refined, some_occurs, ge_tested, tested, RefinePasses, TestPasses}
use Rattle.lra_box.specs.{Answers.TestedTo, Content.BoundsAreValid, Covering.within_refl, Covering.within_trans, declared.interval.Interval.Interval}
use Rattle.lra_box.proofs.MonotoneLemmas.{ge_tested_within}

refined_none : (a : ℤ) (cs : List ℤ) (k : ℕ) → refined a cs k None ≡ None
refined_none a cs zero = refl
refined_none a cs (suc k) = let r = refined_none a cs k in rw r refl

tested_none : (a : ℤ) (cs : List ℤ) → ge_tested a cs None ≡ None
tested_none a cs = by_tests (some_occurs cs) (int_lt a (pos 0))
  where
    by_tests : (s t : Bool) → cond s (refined a cs (length cs) None) (cond t None None) ≡ None
    by_tests true t = refined_none a cs (length cs)
    by_tests false true = refl
    by_tests false false = refl

-- an empty box stays empty
pub none_tested : (a : ℤ) (cs : List ℤ) (passes : Type 0) (keeps : List ℤ → Type 0) → TestedTo (ge_tested a cs None) passes keeps None None Exact
none_tested a cs passes keeps = record {
  exact = λ e. sym (tested_none a cs);
  flagged = λ e. cc;
  covers = rw (tested_none a cs) tt;
  stores = λ s h k. h;
  sound = tt;
  fit = λ n f. tt;
}

zero_times : (x : ℤ) → pos 0 *ℤ x ≡ pos 0
zero_times x = grind (arith, ints)

times_zero : (c : ℤ) → c *ℤ pos 0 ≡ pos 0
times_zero (pos c) = grind (arith, ints)
times_zero (negsuc c) = grind (arith, ints)

-- if no variable occurs the form is its constant
product_of_zeros : (cs s : List ℤ) → some_occurs cs ≡ false → product cs s ≡ pos 0
product_of_zeros [] s h = refl
product_of_zeros (pos zero ∷ cs) [] h = let p = product_of_zeros cs [] h in omega (arith, ints)
product_of_zeros (pos zero ∷ cs) (x ∷ xs) h = let p = product_of_zeros cs xs h in let z = zero_times x in omega (arith, ints)
product_of_zeros (pos (suc c) ∷ cs) s h = absurd (false≢true (sym h))
product_of_zeros (negsuc c ∷ cs) s h = absurd (false≢true (sym h))

negative : (a p : ℤ) → int_lt a (pos 0) ≡ true → p ≡ pos 0 → pos 0 ≤ℤ (a +ℤ p) → ⊥
negative a p h e k = grind (arith, ints)

pub constant_fails : (a : ℤ) (cs : List ℤ) (b : Option (List Interval)) (passes : Type 0) → some_occurs cs ≡ false → int_lt a (pos 0) ≡ true
    → TestedTo (ge_tested a cs b) passes (λ s. pos 0 ≤ℤ (a +ℤ product cs s)) b None Exact
constant_fails a cs b passes o h = record {
  exact = λ e. rw (o, h) refl;
  flagged = λ e. cc;
  covers = rw (o, h) tt;
  stores = λ s k p. absurd (negative a (product cs s) h (product_of_zeros cs s o) p);
  sound = tt;
  fit = λ n f. tt;
}

pub constant_holds : (a : ℤ) (cs : List ℤ) (b : Option (List Interval)) (passes : Type 0) (keeps : List ℤ → Type 0) → some_occurs cs ≡ false → int_lt a (pos 0) ≡ false
    → BoundsAreValid b → TestedTo (ge_tested a cs b) passes keeps b b Exact
constant_holds a cs b passes keeps o h sound = record {
  exact = λ e. rw (o, h) refl;
  flagged = λ e. cc;
  covers = rw (o, h) (within_refl b);
  stores = λ s k p. k;
  sound = sound;
  fit = λ n f. f;
}

length_negated : (cs : List ℤ) → length (map neg_ℤ cs) ≡ length cs
length_negated [] = refl
length_negated (c ∷ cs) = omega (arith, length_negated cs)

zero_both : (a p v w q : ℤ) → v ≡ a +ℤ p → v ≡ pos 0 → q ≡ neg_ℤ p → w ≡ neg_ℤ a +ℤ q → (pos 0 ≤ℤ v) × (pos 0 ≤ℤ w)
zero_both a p v w q is_v zero_v is_q is_w = (omega (arith, ints), omega (arith, ints))

-- an equality as two tests
pub equal_tested : (f : Form) (old mid new : Option (List Interval)) (e1 e2 e : Exactness)
    → TestedTo (ge_tested f.constant f.coefficients old) (RefinePasses f.constant f.coefficients (length f.coefficients) old) (λ s. pos 0 ≤ℤ (f.constant +ℤ product f.coefficients s)) old mid e1
    → TestedTo (ge_tested (neg_ℤ f.constant) (map neg_ℤ f.coefficients) mid) (RefinePasses (neg_ℤ f.constant) (map neg_ℤ f.coefficients) (length (map neg_ℤ f.coefficients)) mid)
    (λ s. pos 0 ≤ℤ (neg_ℤ f.constant +ℤ product (map neg_ℤ f.coefficients) s)) mid new e2
    → (e ≡ Exact → (e1 ≡ Exact) × (e2 ≡ Exact)) → (e ≡ Flagged → (e1 ≡ Flagged) ⊎ ((e1 ≡ Exact) × (e2 ≡ Flagged)))
    → TestedTo (tested Eq f old) (TestPasses Eq f old) (HoldsAt Eq f) old new e
equal_tested f old mid new e1 e2 e one two both either = record {
  exact = λ k. let w = both k in two.exact w.1 ∙ ap (ge_tested (neg_ℤ f.constant) (map neg_ℤ f.coefficients)) (one.exact w.0);
  flagged = λ k. strained (either k);
  covers = within_trans _ _ _ (ge_tested_within (neg_ℤ f.constant) (map neg_ℤ f.coefficients) _ _ one.covers) two.covers;
  stores = λ s h k.
      let z = zero_both f.constant (product f.coefficients s) (form_value f s) (neg_ℤ f.constant +ℤ product (map neg_ℤ f.coefficients) s) (product (map neg_ℤ f.coefficients) s) refl k
      (product_negated f.coefficients s) refl in
      two.stores s (one.stores s h z.0) z.1;
  sound = two.sound;
  fit = λ n h. two.fit n (one.fit n h);
}
  where
    strained : (e1 ≡ Flagged) ⊎ ((e1 ≡ Exact) × (e2 ≡ Flagged)) → TestPasses Eq f old
    strained (inl h) = inl (one.flagged h)
    strained (inr h) = inr (rw (← one.exact h.0, ← length_negated f.coefficients) (two.flagged h.1))
