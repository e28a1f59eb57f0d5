-- Tests by way of the unary bounds.
use Rattle.std.proofs.Common.{◌≡◌, ℕ, zero, suc, ◌+◌, ◌-◌, ◌<◌, ◌⊎◌, ℤ, pos, negsuc, List, [], ◌∷◌, length, Option, None, Some, inl, inr, refl, ap, sym, ◌∙◌, subst, arith, cond, Bool, true, false}
use Rattle.std.proofs.lemmas.Bool.{false≢true}
use Rattle.std.specs.Prelude.{◌≤ℤ◌, ◌+ℤ◌, int_lt, slice_index_or, slice_set}
use Rattle.lra_linear_spec.specs.Vectors.{product}
use Rattle.lra_octagon.specs.Crates.lra_linear_forms.Form.{Form, form_value}
use Rattle.lra_domain.specs.{declared.Exactness.Exactness, declared.Exactness.TheVariants.Exact, declared.Exactness.TheVariants.Flagged}
use Rattle.lra_box.specs.Refine.{others_most, place_refined, refine_place, refined, some_occurs, ge_tested, RefinePasses}
use Rattle.lra_box.specs.Tables.{IntervalWithin, IntervalsWithin, BoundsWithin as IntervalBoundsWithin}
use Rattle.lra_box.specs.{Answers.TestedTo as BoxTestedTo, Bounds.full_interval, Bounds.crossed, Covering.within_refl, Covering.within_trans, declared.interval.Interval.Interval}
use Rattle.lra_box.proofs.WithinLemmas.{at_within, set_one, crossed_within}
use Rattle.lra_box.proofs.{MonotoneLemmas.tightened_in, MonotoneLemmas.ge_tested_within, RefineLemmas.none_stays, RefineLemmas.in_at, SoundLemmas.not_crossed}
use Rattle.lra_dbm.specs.{Cells.Cells, Cells.entries, Closure.IsClosure, Pointwise.CellsWithin, Tight.Entries, Tight.IsStore}
use Rattle.lra_dbm.proofs.{Closures.within_stores, Closures.tight_has, Closures.tight_within, EntryLemmas.le_trans}
use Rattle.lra_octagon.specs.Tables.{intervals, some_crossed, bounded, BoundsTo, TestsTo, BoundsPass, FirstTestPasses}
use Rattle.lra_octagon.specs.{Answers.MatrixTestedTo, Closed.ClosedTo, Content.CellsFit, Content.has_store, Content.MatrixWithin, Entering.BoundsAll, Entering.BoundedTo, Forms.terms_from}
use Rattle.lra_octagon.specs.{Forms.shape_of, Forms.shape, StoreBounds.in_intervals, declared.forms.FormShape.TheVariants.Other}
use Rattle.lra_octagon.proofs.{TestLemmas.none_below, UnaryLemmas.intervals_wider, UnaryLemmas.upper_holds, UnaryLemmas.upper_wider, UnaryLemmas.bounded_back, UnaryLemmas.same_entries_closure}

-- ---- a variable occurs

no_terms : (k : ℕ) (cs : List ℤ) → some_occurs cs ≡ false → terms_from k cs ≡ []
no_terms k [] h = refl
no_terms k (pos zero ∷ cs) h = no_terms (suc k) cs h
no_terms k (pos (suc m) ∷ cs) h = absurd (cc)
no_terms k (negsuc m ∷ cs) h = absurd (cc)

pub other_occurs : (cs : List ℤ) → shape_of (terms_from 0 cs) ≡ Other → some_occurs cs ≡ true
other_occurs cs h = decide (some_occurs cs) refl
  where
    decide : (t : Bool) → some_occurs cs ≡ t → some_occurs cs ≡ true
    decide true e = e
    decide false e = absurd (let f = sym (ap shape_of (no_terms 0 cs e)) ∙ h in cc)

occurs_table : (a : ℤ) (cs : List ℤ) (b : Option (List Interval)) → some_occurs cs ≡ true → ge_tested a cs b ≡ refined a cs (length cs) b
occurs_table a cs b h = ap (λ t. cond t (refined a cs (length cs) b) (cond (int_lt a (pos 0)) None b)) h

-- ---- a crossed interval stays crossed

place_in : (a : ℤ) (cs : List ℤ) (k : ℕ) (js is : List Interval) → IntervalsWithin js is → IntervalWithin (place_refined a cs k js) (slice_index_or is k full_interval)
place_in a cs k js is w = tightened_in (slice_index_or cs k (pos 0)) (others_most a cs k js) (slice_index_or js k full_interval) (slice_index_or is k full_interval) (at_within js is k w)

refine_in : (a : ℤ) (cs : List ℤ) (k : ℕ) (o : Option (List Interval)) (is : List Interval) → IntervalBoundsWithin o (Some is) → IntervalBoundsWithin (refine_place a cs k o) (Some is)
refine_in a cs k None is w = tt
refine_in a cs k (Some js) is w = by_crossed (crossed (place_refined a cs k js))
  where
    by_crossed : (t : Bool) → IntervalBoundsWithin (cond t None (Some (slice_set js k (place_refined a cs k js)))) (Some is)
    by_crossed true = tt
    by_crossed false = within_trans (Some (slice_set js k (place_refined a cs k js))) (Some js) (Some is) (set_one js k (place_refined a cs k js) (place_in a cs k js js (within_refl (Some js)))) w

refined_in : (a : ℤ) (cs : List ℤ) (k : ℕ) (is : List Interval) → IntervalBoundsWithin (refined a cs k (Some is)) (Some is)
refined_in a cs zero is = within_refl (Some is)
refined_in a cs (suc k) is = refine_in a cs k (refined a cs k (Some is)) is (refined_in a cs k is)

refine_crossed : (a : ℤ) (cs : List ℤ) (k : ℕ) (o : Option (List Interval)) (is : List Interval) → crossed (slice_index_or is k full_interval) ≡ true → IntervalBoundsWithin o (Some is)
    → refine_place a cs k o ≡ None
refine_crossed a cs k None is h w = refl
refine_crossed a cs k (Some js) is h w =
    ap (λ t. cond t None (Some (slice_set js k (place_refined a cs k js))))
    (crossed_within (place_refined a cs k js) (slice_index_or is k full_interval) (place_in a cs k js is w) h)

abbrev CrossedAt : List Interval → Type 0
CrossedAt is = (k : ℕ) × (k < length is) × (crossed (slice_index_or is k full_interval) ≡ true)

crossed_at : (is : List Interval) → some_crossed is ≡ true → CrossedAt is
crossed_at [] h = absurd (cc)
crossed_at (i ∷ is) h = decide (crossed i) refl (crossed_at is)
  where
    decide : (t : Bool) → crossed i ≡ t → (some_crossed is ≡ true → CrossedAt is) → CrossedAt (i ∷ is)
    decide true e later = (0, omega arith, e)
    decide false e later = let r = later (sym (ap (λ t. cond t true (some_crossed is)) e) ∙ h) in (suc r.0, (let q = r.1 in omega arith), r.2)

pub crossed_none : (a : ℤ) (cs : List ℤ) (is : List Interval) → some_crossed is ≡ true → length is ≡ length cs → some_occurs cs ≡ true → ge_tested a cs (Some is) ≡ None
crossed_none a cs is h e occurs =
    let r = crossed_at is h in
    let stop = none_stays a cs (suc r.0) (length cs - suc r.0) (Some is) (refine_crossed a cs r.0 (refined a cs r.0 (Some is)) is r.2 (refined_in a cs r.0 is)) in
    let all : (length cs - suc r.0) + suc r.0 ≡ length cs = (let q = r.1 in omega arith) in
    occurs_table a cs (Some is) occurs ∙ subst (λ n. refined a cs n (Some is) ≡ None) all stop

-- ---- tests

is_none : (o : Option (List Interval)) → IntervalBoundsWithin o None → o ≡ None
is_none None w = refl
is_none (Some is) w = absurd w

none_bounds : (n : ℕ) (c : Cells) (o : Option (List Interval)) (v new : Option Cells) → IntervalBoundsWithin o None → BoundsTo n c o v → MatrixWithin v new
none_bounds n c None v new w t = none_below v new t
none_bounds n c (Some is) v new w t = absurd w

pub tested_nothing : (n : ℕ) (e : Form) (old : Cells) (x : Exactness) → ge_tested e.constant e.coefficients (Some (intervals n (entries n old))) ≡ None
    → ((l : List ℤ) → has_store n (Some old) l → pos 0 ≤ℤ form_value e l → ⊥)
    → (x ≡ Flagged → RefinePasses e.constant e.coefficients (length e.coefficients) (Some (intervals n (entries n old)))) →
    MatrixTestedTo n e Other (Some old) None x
tested_nothing n e old x none fails passes = record {
  stores = λ l h p. fails l h p;
  covers = λ b v fits w t. covers b v w t;
  exact = λ f. subst (λ (o : Option (List Interval)). BoundsTo n old o None) (sym none) refl;
  flagged = λ f. inl (passes f);
  fit = tt;
}
  where
    covers : (b v : Option Cells) → MatrixWithin b (Some old) → TestsTo n e Other b v → MatrixWithin v None
    covers None v w t = none_below v None t
    covers (Some c) v w t = none_bounds n c (ge_tested e.constant e.coefficients (Some (intervals n (entries n c)))) v None
        (subst (λ (o : Option (List Interval)). IntervalBoundsWithin (ge_tested e.constant e.coefficients (Some (intervals n (entries n c)))) o) none
        (ge_tested_within e.constant e.coefficients (Some (intervals n (entries n c))) (Some (intervals n (entries n old))) (intervals_wider n c old w))) t

-- an interval is crossed from the start
pub tested_crossed : (n : ℕ) (e : Form) (old : Cells) → shape e ≡ Other → length (intervals n (entries n old)) ≡ length e.coefficients
    → some_crossed (intervals n (entries n old)) ≡ true → MatrixTestedTo n e Other (Some old) None Exact
tested_crossed n e old other long crossing =
    let r = crossed_at (intervals n (entries n old)) crossing in
    tested_nothing n e old Exact (crossed_none e.constant e.coefficients (intervals n (entries n old)) crossing long (other_occurs e.coefficients other))
    (λ l h p. let i = not_crossed (slice_index_or (intervals n (entries n old)) r.0 full_interval) _ (in_at (intervals n (entries n old)) l r.0 (in_intervals n (entries n old) l h) r.1) in
    false≢true (sym i ∙ r.2))
    (λ f. absurd (cc))

-- refining found a crossed interval
pub tested_refuted : (n : ℕ) (e : Form) (old : Cells) (x : Exactness) → shape e ≡ Other
    → BoxTestedTo (refined e.constant e.coefficients (length e.coefficients) (Some (intervals n (entries n old)))) (RefinePasses e.constant e.coefficients (length e.coefficients)
    (Some (intervals n (entries n old)))) (λ s. pos 0 ≤ℤ (e.constant +ℤ product e.coefficients s)) (Some (intervals n (entries n old))) None x
    → MatrixTestedTo n e Other (Some old) None x
tested_refuted n e old x other box = tested_nothing n e old x
    (occurs_table e.constant e.coefficients (Some (intervals n (entries n old))) (other_occurs e.coefficients other) ∙ is_none _ box.covers)
    (λ l h p. box.stores l (in_intervals n (entries n old) l h) p)
    box.flagged

-- what lies in a closure of a matrix with bounds; also of a narrower matrix, with narrower bounds
pub closure_in : (n : ℕ) (m : Entries) (v new : Option Cells) → IsClosure n m v → CellsFit n new → ((s : List ℤ) → IsStore n m s → has_store n new s) → MatrixWithin v new
closure_in n m None new p fit has = tt
closure_in n m (Some cs) None p fit has = let r = tight_has n cs p.is p.tight in absurd (has r.0 (p.same r.0 r.1))
closure_in n m (Some cs) (Some ds) p fit has = tight_within n cs ds p.is p.tight fit.is.full (λ s k. has s (p.same s k))

-- the intervals were entered, and the matrix closed
pub bounded_to : (n : ℕ) (js : List Interval) (old mid : Cells) (new : Option Cells) (y z u : Exactness) → BoundsAll n js old mid y → ClosedTo n mid new z
    → (u ≡ Exact → (y ≡ Exact) × (z ≡ Exact)) → (u ≡ Flagged → (y ≡ Flagged) ⊎ ((y ≡ Exact) × (z ≡ Flagged))) → BoundedTo n js old new u
bounded_to n js old mid new y z u all closed exact flagged = record {
  stores = λ s h up. closed.stores s (all.stores s h up);
  exact = λ f. let q = exact f in same_entries_closure n (entries n mid) (bounded js (entries n old)) new (all.exact q.0).entries (closed.exact q.1);
  flagged = λ f. elim (flagged f) [ inl g ↦ inl (all.flagged g) | inr g ↦ inr (mid, all.exact g.0, closed.flagged g.1) ];
  fit = closed.fit;
}

pub bounds_below : (n : ℕ) (js : List Interval) (c old : Cells) (o : Option (List Interval)) (v new : Option Cells) (u : Exactness) → CellsWithin c old
    → IntervalBoundsWithin o (Some js) → BoundsTo n c o v → BoundedTo n js old new u → MatrixWithin v new
bounds_below n js c old None v new u w i t all = none_below v new t
bounds_below n js c old (Some is) v new u w i t all = closure_in n (bounded is (entries n c)) v new t all.fit
    (λ s k. let b = bounded_back n is (entries n c) s k in all.stores s (within_stores n c old s w b.0) (λ j l. le_trans (b.1 j l) (upper_wider is js j i)))

pub tested_other : (n : ℕ) (e : Form) (js : List Interval) (old : Cells) (new : Option Cells) (x u w : Exactness) → shape e ≡ Other → length js ≡ n
    → BoxTestedTo (refined e.constant e.coefficients (length e.coefficients) (Some (intervals n (entries n old)))) (RefinePasses e.constant e.coefficients (length e.coefficients)
    (Some (intervals n (entries n old)))) (λ s. pos 0 ≤ℤ (e.constant +ℤ product e.coefficients s)) (Some (intervals n (entries n old))) (Some js) x
    → BoundedTo n js old new u
    → (w ≡ Exact → (x ≡ Exact) × (u ≡ Exact)) → (w ≡ Flagged → (x ≡ Flagged) ⊎ ((x ≡ Exact) × (u ≡ Flagged)))
    → MatrixTestedTo n e Other (Some old) new w
tested_other n e js old new x u w other long box all exact flagged = record {
  stores = λ l h p. all.stores l h (λ j k. upper_holds js l j (box.stores l (in_intervals n (entries n old) l h) p) (omega arith));
  covers = λ b v fits i t. covers b v i t;
  exact = λ f. let p = exact f in subst (λ (o : Option (List Interval)). BoundsTo n old o new) (box.exact p.0 ∙ sym table) (all.exact p.1);
  flagged = λ f. strained (flagged f);
  fit = all.fit;
}
  where
    table : ge_tested e.constant e.coefficients (Some (intervals n (entries n old))) ≡ refined e.constant e.coefficients (length e.coefficients) (Some (intervals n (entries n old)))
    table = occurs_table e.constant e.coefficients (Some (intervals n (entries n old))) (other_occurs e.coefficients other)

    covers : (b v : Option Cells) → MatrixWithin b (Some old) → TestsTo n e Other b v → MatrixWithin v new
    covers None v i t = none_below v new t
    covers (Some c) v i t = bounds_below n js c old (ge_tested e.constant e.coefficients (Some (intervals n (entries n c)))) v new u i
        (within_trans (ge_tested e.constant e.coefficients (Some (intervals n (entries n c)))) (ge_tested e.constant e.coefficients (Some (intervals n (entries n old)))) (Some js)
        (ge_tested_within e.constant e.coefficients (Some (intervals n (entries n c))) (Some (intervals n (entries n old))) (intervals_wider n c old i))
        (subst (λ (o : Option (List Interval)). IntervalBoundsWithin o (Some js)) (sym table) box.covers)) t all

    strained : (x ≡ Flagged) ⊎ ((x ≡ Exact) × (u ≡ Flagged)) → FirstTestPasses n e Other (Some old)
    strained (inl f) = inl (box.flagged f)
    strained (inr f) = inr (subst (λ (o : Option (List Interval)). BoundsPass n old o) (box.exact f.0 ∙ sym table) (all.flagged f.1))
