-- What tests give: of a constant, of one signed variable, of the sum of two; and a test `e = 0` as two tests.
use Rattle.std.proofs.Common.{◌≡◌, ℕ, zero, suc, ◌*◌, ◌<◌, inl, inr, ℤ, pos, ◌+ℤ◌, ◌*ℤ◌, List, map, Option, None, Some, refl, ap, sym, ◌∙◌, subst, arith, cond, Bool, true, false}
use Rattle.std.proofs.{lemmas.Bool.false≢true, lemmas.Int.ints}
use Rattle.std.specs.{Int.int_div_euclid, Prelude.◌-ℤ◌, Prelude.◌≤ℤ◌, Prelude.neg_ℤ, Prelude.int_lt, Prelude.◌⊎◌}
use Rattle.lra_linear_spec.specs.{Vectors.product, declared.ConKind.TheVariants.Ge, declared.ConKind.TheVariants.Eq}
use Rattle.lra_octagon.specs.Crates.lra_linear_forms.Form.{Form, form_value}
use Rattle.lra_octagon.proofs.Crates.lra_linear_forms.FormLemmas.{product_negated}
use Rattle.lra_domain.specs.{Abstraction.TransfersTo, Actions.test, declared.Exactness.Exactness, declared.Exactness.TheVariants.Exact, declared.Exactness.TheVariants.Flagged}
use Rattle.lra_box.specs.{Bounds.full_interval, Bounds.form, Refine.ge_tested, declared.interval.Interval.Interval}
use Rattle.lra_box.proofs.RefineLemmas.{tightened_holds}
use Rattle.lra_dbm.specs.Tight.{Entries, opposite, signed_value, IsStore}
use Rattle.lra_dbm.specs.{Cells.Cells, Cells.entries, Cells.entered, Cells.IsMatrix, Closure.IsClosure, Entry.◌⊑◌, Pointwise.CellsWithin}
use Rattle.lra_dbm.proofs.Closures.{tight_has, tight_within, within_stores}
use Rattle.lra_dbm.proofs.{CellLemmas.opposite_below, Closed.signed_opposite, EntryLemmas.le_trans, Lowering.enter_lowers, Lowering.enter_at}
use Rattle.lra_octagon.specs.Tables.{at_least, quotient, intervals, bounded, BoundsTo, TestsTo, MatrixTestPasses, minus_form}
use Rattle.lra_octagon.specs.declared.forms.FormShape.TheVariants.{Constant, One, Two, Other}
use Rattle.lra_octagon.specs.{Abstraction.octagon_abstraction, Answers.MatrixFits, Answers.MatrixTestedTo, Closed.ClosedTo, Content.content, Content.CellsFit, Content.has_store, Content.MatrixWithin}
use Rattle.lra_octagon.specs.{FormValues.constant_value, FormValues.one_value, FormValues.two_value, Forms.shape, declared.forms.FormShape.FormShape}
use Rattle.lra_octagon.proofs.{EnterLemmas.entered_store, FitLemmas.bounds_self}

-- ---- entered bounds

-- a store of a matrix with an entered bound is one of the matrix, and meets the bound
pub entered_back : (n i j : ℕ) (v : Option ℤ) (cells : Cells) (s : List ℤ) → i < 2 * n → j < 2 * n → IsMatrix n cells → IsStore n (entries n (entered i j v cells)) s
    → IsStore n (entries n cells) s × (Some (signed_value s j -ℤ signed_value s i) ⊑ v)
entered_back n i j v cells s h k is store = (
  record { width = store.width; below = λ a b p q. le_trans (store.below a b p q) ((enter_lowers n i j v cells h k is).at a b) },
  le_trans (store.below i j h k) (enter_at n i j v cells h k is),
)

-- a wider matrix keeps more stores when the same bound is entered
pub entered_wider : (n i j : ℕ) (v : Option ℤ) (small big : Cells) (s : List ℤ) → i < 2 * n → j < 2 * n → IsMatrix n small → IsMatrix n big → CellsWithin small big
    → IsStore n (entries n (entered i j v small)) s → IsStore n (entries n (entered i j v big)) s
entered_wider n i j v small big s h k is fit w store =
    let back = entered_back n i j v small s h k is store in
    entered_store n i j v big s h k fit (within_stores n small big s w back.0) back.1

-- a closure lies in what a matrix with all its stores is closed to
pub closed_below : (n : ℕ) (m : Entries) (old : Cells) (v new : Option Cells) (x : Exactness) → IsClosure n m v → ((s : List ℤ) → IsStore n m s → IsStore n (entries n old) s)
    → ClosedTo n old new x → MatrixWithin v new
closed_below n m old None new x p has q = tt
closed_below n m old (Some cs) None x p has q = let r = tight_has n cs p.is p.tight in absurd (q.stores r.0 (has r.0 (p.same r.0 r.1)))
closed_below n m old (Some cs) (Some ds) x p has q = tight_within n cs ds p.is p.tight q.fit.is.full (λ s k. q.stores s (has s (p.same s k)))

pub none_below : (v new : Option Cells) → v ≡ None → MatrixWithin v new
none_below v new e = subst (λ (o : Option Cells). MatrixWithin o new) (sym e) tt

pair_covers : (n i j : ℕ) (q : Option ℤ) (old c : Cells) (v new : Option Cells) (x : Exactness) → i < 2 * n → j < 2 * n → IsMatrix n old → ClosedTo n (entered i j q old) new x
    → IsMatrix n c → CellsWithin c old → IsClosure n (entries n (entered i j q c)) v → MatrixWithin v new
pair_covers n i j q old c v new x h k is closed fits w t =
    closed_below n (entries n (entered i j q c)) (entered i j q old) v new x t (λ s store. entered_wider n i j q c old s h k fits is w store) closed

-- ---- values of forms

quotient_low : (m : ℕ) (k v : ℤ) → 0 < m → pos 0 ≤ℤ (k +ℤ (pos m *ℤ v)) → neg_ℤ (int_div_euclid k (pos m)) ≤ℤ v
quotient_low zero k v p h = absurd (omega arith)
quotient_low (suc m) k v p h = (tightened_holds (pos (suc m)) (Some k) full_interval v k (tt, tt) (omega (arith, ints)) (omega (arith, ints))).0

one_meets : (s : List ℤ) (m i : ℕ) (k p : ℤ) → 0 < m → p ≡ pos m *ℤ signed_value s i → pos 0 ≤ℤ (k +ℤ p)
    → Some (signed_value s (opposite i) -ℤ signed_value s i) ⊑ Some (int_div_euclid k (pos m) +ℤ int_div_euclid k (pos m))
one_meets s m i k p some e h =
    let low = quotient_low m k (signed_value s i) some (rw e at h) in
    rw (signed_opposite s i) (record { at_most = omega (arith, ints) })

two_meets : (s : List ℤ) (m i j : ℕ) (k p : ℤ) → 0 < m → p ≡ pos m *ℤ (signed_value s i +ℤ signed_value s j) → pos 0 ≤ℤ (k +ℤ p)
    → Some (signed_value s (opposite j) -ℤ signed_value s i) ⊑ Some (int_div_euclid k (pos m))
two_meets s m i j k p some e h =
    let low = quotient_low m k (signed_value s i +ℤ signed_value s j) some (rw e at h) in
    rw (signed_opposite s j) (record { at_most = omega (arith, ints) })

-- ---- tests `e >= 0`

pub tested_none : (n : ℕ) (e : Form) (s : FormShape) → MatrixTestedTo n e s None None Exact
tested_none n e s = record {
  stores = λ l h p. h;
  covers = λ b v fits w t. nothing b v w t;
  exact = λ f. refl;
  flagged = λ f. absurd (cc);
  fit = tt;
}
  where
    nothing : (b v : Option Cells) → MatrixWithin b None → TestsTo n e s b v → MatrixWithin v None
    nothing None v w t = none_below v None t
    nothing (Some c) v w t = absurd w

pub tested_negative : (n : ℕ) (e : Form) (old : Cells) → Constant ≡ shape e → int_lt e.constant (pos 0) ≡ true →
    MatrixTestedTo n e Constant (Some old) None Exact
tested_negative n e old is low = record {
  stores = λ l h p. let zero = constant_value e.coefficients l is in absurd (fails l p zero);
  covers = λ b v fits w t. nothing b v t;
  exact = λ f. rw low refl;
  flagged = λ f. absurd (cc);
  fit = tt;
}
  where
    fails : (l : List ℤ) → pos 0 ≤ℤ form_value e l → product e.coefficients l ≡ pos 0 → ⊥
    fails l p z = let h : pos 0 ≤ℤ (e.constant +ℤ pos 0) = rw z at p in let q : int_lt e.constant (pos 0) ≡ false = grind (arith, ints) in false≢true (sym q ∙ low)

    nothing : (b v : Option Cells) → TestsTo n e Constant b v → MatrixWithin v None
    nothing None v t = none_below v None t
    nothing (Some c) v t = none_below v None (t ∙ ap (λ z. cond z None (Some c)) low)

pub tested_constant : (n : ℕ) (e : Form) (old : Cells) → int_lt e.constant (pos 0) ≡ false → CellsFit n (Some old) → MatrixTestedTo n e Constant (Some old) (Some old) Exact
tested_constant n e old low fit = record {
  stores = λ l h p. h;
  covers = λ b v fits w t. same b v w t;
  exact = λ f. rw low refl;
  flagged = λ f. absurd (cc);
  fit = fit;
}
  where
    same : (b v : Option Cells) → MatrixWithin b (Some old) → TestsTo n e Constant b v → MatrixWithin v (Some old)
    same None v w t = none_below v (Some old) t
    same (Some c) v w t = subst (λ (o : Option Cells). MatrixWithin o (Some old)) (sym (t ∙ ap (λ z. cond z None (Some c)) low)) w

pub tested_one : (n m i : ℕ) (e : Form) (old : Cells) (new : Option Cells) (x : Exactness) → One m i ≡ shape e → i < 2 * n → 0 < m → IsMatrix n old
    → ClosedTo n (at_least i i (quotient e m +ℤ quotient e m) old) new x → MatrixTestedTo n e (One m i) (Some old) new x
tested_one n m i e old new x shaped row some is closed = record {
  stores = λ l h p. closed.stores l (entered_store n i (opposite i) _ old l row (opposite_below n i row) is h
      (one_meets l m i e.constant (product e.coefficients l) some (one_value e.coefficients l m i shaped) p));
  covers = λ b v fits w t. covers b v fits w t;
  exact = closed.exact;
  flagged = closed.flagged;
  fit = closed.fit;
}
  where
    covers : (b v : Option Cells) → MatrixFits n b → MatrixWithin b (Some old) → TestsTo n e (One m i) b v → MatrixWithin v new
    covers None v fits w t = none_below v new t
    covers (Some c) v fits w t = pair_covers n i (opposite i) _ old c v new x row (opposite_below n i row) is closed fits w t

pub tested_two : (n m i j : ℕ) (e : Form) (old : Cells) (new : Option Cells) (x : Exactness) → Two m i j ≡ shape e → i < 2 * n → j < 2 * n → 0 < m → IsMatrix n old
    → ClosedTo n (at_least i j (quotient e m) old) new x → MatrixTestedTo n e (Two m i j) (Some old) new x
tested_two n m i j e old new x shaped row column some is closed = record {
  stores = λ l h p. closed.stores l (entered_store n i (opposite j) _ old l row (opposite_below n j column) is h
      (two_meets l m i j e.constant (product e.coefficients l) some (two_value e.coefficients l m i j shaped) p));
  covers = λ b v fits w t. covers b v fits w t;
  exact = closed.exact;
  flagged = closed.flagged;
  fit = closed.fit;
}
  where
    covers : (b v : Option Cells) → MatrixFits n b → MatrixWithin b (Some old) → TestsTo n e (Two m i j) b v → MatrixWithin v new
    covers None v fits w t = none_below v new t
    covers (Some c) v fits w t = pair_covers n i (opposite j) _ old c v new x row (opposite_below n j column) is closed fits w t

-- ---- tests as changes

matrix_fits : (n : ℕ) (o : Option Cells) → CellsFit n o → MatrixFits n o
matrix_fits n None fit = tt
matrix_fits n (Some cells) fit = fit.is

closure_fits : (n : ℕ) (m : Entries) (o : Option Cells) → IsClosure n m o → MatrixFits n o
closure_fits n m None p = tt
closure_fits n m (Some cells) p = p.is

cond_fits : (n : ℕ) (t : Bool) (c : Cells) → IsMatrix n c → MatrixFits n (cond t None (Some c))
cond_fits n true c is = tt
cond_fits n false c is = is

same_fits : (n : ℕ) (a b : Option Cells) → a ≡ b → MatrixFits n b → MatrixFits n a
same_fits n a b e fits = subst (λ (o : Option Cells). MatrixFits n o) (sym e) fits

pub meets_ge : (n : ℕ) (e : Form) (old new : Option Cells) (x : Exactness) → CellsFit n old → MatrixTestedTo n e (shape e) old new x →
    TransfersTo octagon_abstraction (test Ge e) (content n old) x (content n new)
meets_ge n e old new x fit tested = record {
  formed = tested.fit;
  keeps = λ s t h k. subst (λ (z : List ℤ). has_store n new z) (sym k.1) (tested.stores s h k.0);
  covers = λ v d. (d.0, tested.covers old v.cells (matrix_fits n old fit) (bounds_self old) d.1);
  exact = λ f. (refl, tested.exact f);
  flagged = tested.flagged;
}

bounds_fit : (n : ℕ) (c : Cells) (o : Option (List Interval)) (b : Option Cells) → BoundsTo n c o b → MatrixFits n b
bounds_fit n c None b t = same_fits n b None t tt
bounds_fit n c (Some is) b t = closure_fits n (bounded is (entries n c)) b t

tests_fit : (n : ℕ) (e : Form) (s : FormShape) (a b : Option Cells) → MatrixFits n a → TestsTo n e s a b → MatrixFits n b
tests_fit n e s None b fits t = same_fits n b None t tt
tests_fit n e Constant (Some c) b fits t = same_fits n b (cond (int_lt e.constant (pos 0)) None (Some c)) t (cond_fits n (int_lt e.constant (pos 0)) c fits)
tests_fit n e (One m i) (Some c) b fits t = closure_fits n (entries n (at_least i i (quotient e m +ℤ quotient e m) c)) b t
tests_fit n e (Two m i j) (Some c) b fits t = closure_fits n (entries n (at_least i j (quotient e m) c)) b t
tests_fit n e Other (Some c) b fits t = bounds_fit n c (ge_tested e.constant e.coefficients (Some (intervals n (entries n c)))) b t

zero_both : (k p q v : ℤ) → v ≡ k +ℤ p → v ≡ pos 0 → q ≡ neg_ℤ p → (pos 0 ≤ℤ (k +ℤ p)) × (pos 0 ≤ℤ (neg_ℤ k +ℤ q))
zero_both k p q v is_v is_zero is_q = (omega (arith, ints), omega (arith, ints))

-- an equality as two tests
pub meets_eq : (n : ℕ) (e : Form) (old mid new : Option Cells) (x y z : Exactness) → CellsFit n old → MatrixTestedTo n e (shape e) old mid x
    → MatrixTestedTo n (minus_form e) (shape (minus_form e)) mid new y
    → (z ≡ Exact → (x ≡ Exact) × (y ≡ Exact)) → (z ≡ Flagged → (x ≡ Flagged) ⊎ ((x ≡ Exact) × (y ≡ Flagged)))
    → TransfersTo octagon_abstraction (test Eq e) (content n old) z (content n new)
meets_eq n e old mid new x y z fit one two both either = record {
  formed = two.fit;
  keeps = λ s t h k.
      let w = zero_both e.constant (product e.coefficients s) (product (map neg_ℤ e.coefficients) s) (form_value e s) refl k.0 (product_negated e.coefficients s) in
      subst (λ (l : List ℤ). has_store n new l) (sym k.1) (two.stores s (one.stores s h w.0) w.1);
  covers = λ v d. (
    d.0,
    two.covers d.1.0 v.cells (tests_fit n e (shape e) old d.1.0 (matrix_fits n old fit) d.1.1)
        (one.covers old d.1.0 (matrix_fits n old fit) (bounds_self old) d.1.1) d.1.2,
  );
  exact = λ f. let w = both f in (refl, (mid, one.exact w.0, two.exact w.1));
  flagged = λ f. strained (either f);
}
  where
    strained : (x ≡ Flagged) ⊎ ((x ≡ Exact) × (y ≡ Flagged)) → MatrixTestPasses Eq n e old
    strained (inl h) = inl (one.flagged h)
    strained (inr h) = inr (mid, one.exact h.0, two.flagged h.1)

-- a form by its constant and its coefficients
pub tested_as : (n : ℕ) (e : Form) (k : ℤ) (cs : List ℤ) (old new : Option Cells) (x : Exactness) → k ≡ e.constant → cs ≡ e.coefficients
    → MatrixTestedTo n (form k cs) (shape (form k cs)) old new x → MatrixTestedTo n e (shape e) old new x
tested_as n e k cs old new x p q tested = subst (λ (a : ℤ). MatrixTestedTo n (form a e.coefficients) (shape (form a e.coefficients)) old new x) p
    (subst (λ (b : List ℤ). MatrixTestedTo n (form k b) (shape (form k b)) old new x) q tested)
