-- What assignments give: x as a signed variable plus a number, and x in the bounds of a form.
use Rattle.std.proofs.Common.{◌≡◌, ◌≢◌, ℕ, zero, suc, ◌+◌, ◌*◌, ◌/◌, ◌%◌, ◌<◌, ◌⊎◌, inl, inr, ℤ, pos, ◌+ℤ◌, ◌*ℤ◌, List, length, Option, None, Some, refl, ap, sym, ◌∙◌, subst, arith, cond, Bool, true}
use Rattle.std.proofs.Common.{false, replicate}
use Rattle.std.proofs.{Math.ListN.length-set, lemmas.Bool.Decides.eqb_tells, lemmas.Int.ints, lemmas.List.get_or-set_same, lemmas.List.get_or-set_other, lemmas.List.get_or-replicate}
use Rattle.std.specs.{List.All, Prelude.◌==◌, Prelude.◌-ℤ◌, Prelude.neg_ℤ, Prelude.slice_set, Prelude.slice_index_or}
use Rattle.lra_linear_spec.specs.{Range.InRange, Vectors.entry, Vectors.product}
use Rattle.lra_linear_spec.proofs.Products.{entry_set_same}
use Rattle.lra_octagon.specs.Crates.lra_linear_forms.Form.{Form, form_value}
use Rattle.lra_domain.specs.{Abstraction.TransfersTo, Actions.assign, declared.Exactness.Exactness, declared.Exactness.TheVariants.Exact, declared.Exactness.TheVariants.Flagged}
use Rattle.lra_box.specs.Bounds.{form, full_interval, InInterval, EndsInRange, end_sum, SumPasses, IsBound}
use Rattle.lra_box.specs.declared.interval.Side.TheVariants.{Low, High}
use Rattle.lra_box.specs.{Covering.intervals_within_refl, Sums.end_sum_holds, Tables.IntervalWithin, Tables.IntervalsWithin, declared.ends.Bound.Bound as End, declared.interval.Interval.Interval}
use Rattle.lra_box.proofs.{AssignLemmas.low_covers, AssignLemmas.high_covers, BoxLemmas.bound_holds, WithinLemmas.set_within}
use Rattle.lra_dbm.specs.{Answers.is_flagged, Cells.Cells, Cells.entries, Cells.entered, Cells.DbmContent as Matrix, Closure.IsClosure, Entry.◌⊑◌, Entry.◌⊞◌, Shifting.added_to, Shifting.origin}
use Rattle.lra_dbm.specs.{Shifting.shifted, Shifting.ShiftedTo, Tight.Entries, Tight.opposite, Tight.with_sign, Tight.signed_value, Tight.IsStore}
use Rattle.lra_dbm.proofs.Shifts.{added_plus, added_minus, added_other, source_other, source_below, shifted_diagonal}
use Rattle.lra_dbm.proofs.{CellLemmas.inside_or_out, Clears.in_pair, Clears.opposite_plus, Closed.signed_opposite, EntryLemmas.le_same, EntryLemmas.le_none, EntryLemmas.le_trans}
use Rattle.lra_dbm.proofs.{EntryLemmas.sum_grows, Lowering.enter_matrix, Lowering.le_within_range, PointwiseLemmas.within_refl, PointwiseLemmas.entries_within}
use Rattle.lra_octagon.specs.Tables.{upper_of, upper, alone, intervals, form_interval, equated, Forgets, assignment_of, AssignsTo, MatrixAssignPasses, SomePasses, BoundedPasses, bounded}
use Rattle.lra_octagon.specs.declared.assigning.Assignment.TheVariants.{Equate, Shift, Bound}
use Rattle.lra_octagon.specs.declared.forms.FormShape.TheVariants.{Constant, One, Two, Other}
use Rattle.lra_octagon.specs.{Abstraction.octagon_abstraction, Answers.MatrixAssignedTo, Answers.ConfinedTo, Closed.EquatedTo, Content.content, Content.matrix_view, Content.IsOctagon}
use Rattle.lra_octagon.specs.{Content.has_store, Content.MatrixWithin, FormValues.one_value, FormValues.plus_value, FormValues.minus_value, Forms.terms_from, Forms.shape_of, Forms.shape}
use Rattle.lra_octagon.specs.{Single.one_forgets, StoreBounds.in_intervals, StoreBounds.length_intervals, declared.assigning.Assignment.Assignment, declared.forms.FormShape.FormShape}
use Rattle.lra_octagon.proofs.StoreLemmas.{signed_other, forgotten_store}
use Rattle.lra_octagon.proofs.{EnterLemmas.entered_store, FormLemmas.one_in_range, OtherLemmas.bounds_below, TestLemmas.none_below, TestLemmas.closed_below, UnaryLemmas.side_holds}

-- ---- what an assignment does

is_equate : (x i : ℕ) (s : FormShape) → Equate i ≡ assignment_of x s → (One 1 i ≡ s) × (i / 2 ≢ x)
is_equate x i Constant e = absurd (cc)
is_equate x i (Two m j k) e = absurd (cc)
is_equate x i Other e = absurd (cc)
is_equate x i (One m j) e = elim (eqb_tells m 1) [
  | inr f ↦ absurd (let g = e ∙ ap (λ t. cond t (cond (j / 2 == x) (Shift (j % 2 == 1)) (Equate j)) Bound) f.0 in cc)
  | inl f ↦ (let g = e ∙ ap (λ t. cond t (cond (j / 2 == x) (Shift (j % 2 == 1)) (Equate j)) Bound) f.0 in elim (eqb_tells (j / 2) x) [
    | inl h ↦ absurd (let k = g ∙ ap (λ t. cond t (Shift (j % 2 == 1)) (Equate j)) h.0 in cc)
    | inr h ↦ (let k = g ∙ ap (λ t. cond t (Shift (j % 2 == 1)) (Equate j)) h.0 in let same : i ≡ j = cc in (rw (f.1, same) refl, rw same h.1))
  ])
]

pub record IsShift (x : ℕ) (flips : Bool) (s : FormShape) : Type 0 where
  pub signed : ℕ
  pub one : One 1 signed ≡ s
  pub own : signed / 2 ≡ x
  pub sign : flips ≡ (signed % 2 == 1)

pub is_shift : (x : ℕ) (flips : Bool) (s : FormShape) → Shift flips ≡ assignment_of x s → IsShift x flips s
is_shift x flips Constant e = absurd (cc)
is_shift x flips (Two m j k) e = absurd (cc)
is_shift x flips Other e = absurd (cc)
is_shift x flips (One m j) e = elim (eqb_tells m 1) [
  | inr f ↦ absurd (let g = e ∙ ap (λ t. cond t (cond (j / 2 == x) (Shift (j % 2 == 1)) (Equate j)) Bound) f.0 in cc)
  | inl f ↦ (let g = e ∙ ap (λ t. cond t (cond (j / 2 == x) (Shift (j % 2 == 1)) (Equate j)) Bound) f.0 in elim (eqb_tells (j / 2) x) [
    | inl h ↦ (let k = g ∙ ap (λ t. cond t (Shift (j % 2 == 1)) (Equate j)) h.0 in
        record { signed = j; one = ap (λ z. One z j) (sym f.1); own = h.1; sign = cc })
    | inr h ↦ absurd (let k = g ∙ ap (λ t. cond t (Shift (j % 2 == 1)) (Equate j)) h.0 in cc)
  ])
]

-- ---- x becomes another variable's signed variable plus a number

set_plus : (s : List ℤ) (x : ℕ) (v : ℤ) → x < length s → signed_value (slice_set s x v) (2 * x) ≡ v
set_plus s x v h = plus_value (slice_set s x v) x ∙ entry_set_same s x v h

set_minus : (s : List ℤ) (x : ℕ) (v : ℤ) → x < length s → signed_value (slice_set s x v) (2 * x + 1) ≡ neg_ℤ v
set_minus s x v h = minus_value (slice_set s x v) x ∙ ap neg_ℤ (entry_set_same s x v h)

one_times : (x p : ℤ) → p ≡ pos 1 *ℤ x → p ≡ x
one_times x p e = e ∙ omega (arith, ints)

entered_up : (a b v c : ℤ) → a ≡ v → v ≡ c +ℤ b → Some (a -ℤ b) ⊑ Some c
entered_up a b v c e f = record { at_most = omega (arith, ints) }

entered_down : (a b v c : ℤ) → a ≡ v → v ≡ c +ℤ b → Some (b -ℤ a) ⊑ Some (neg_ℤ c)
entered_down a b v c e f = record { at_most = omega (arith, ints) }

equated_store : (n x i : ℕ) (c v : ℤ) (old cells : Cells) (s : List ℤ) → x < n → i < 2 * n → i / 2 ≢ x → InRange c → Forgets n x old cells
    → IsStore n (entries n old) s → v ≡ c +ℤ signed_value s i → IsStore n (entries n (equated x i c cells)) (slice_set s x v)
equated_store n x i c v old cells s place row other fits forgets store is =
    let wide : x < length s = (let w = store.width in omega arith) in
    let row_x : 2 * x < 2 * n = omega arith in
    let t = forgotten_store n x (entries n old) (entries n cells) s v forgets.entries store in
    let value : v ≡ c +ℤ signed_value (slice_set s x v) i = is ∙ ap (λ z. c +ℤ z) (sym (signed_other s x i v other)) in
    let one = entered_store n i (2 * x) (Some c) cells (slice_set s x v) row row_x forgets.is t
    (entered_up (signed_value (slice_set s x v) (2 * x)) (signed_value (slice_set s x v) i) v c (set_plus s x v wide) value) in
    entered_store n (2 * x) i (Some (neg_ℤ c)) (entered i (2 * x) (Some c) cells) (slice_set s x v) row_x row (enter_matrix n i (2 * x) (Some c) cells row row_x forgets.is fits) one
    (entered_down (signed_value (slice_set s x v) (2 * x)) (signed_value (slice_set s x v) i) v c (set_plus s x v wide) value)

assigned_equate : (n x i : ℕ) (e : Form) (old : Cells) (new : Option Cells) (u : Exactness) → x < n → i < 2 * n → One 1 i ≡ shape e → i / 2 ≢ x → InRange e.constant
    → EquatedTo n x i e.constant old new u → MatrixAssignedTo n x e (Equate i) old new u
assigned_equate n x i e old new u place row one other fits by = record {
  stores = λ s h. by.2.stores (slice_set s x (form_value e s)) (equated_store n x i e.constant (form_value e s) old by.0 s place row other fits by.1 h
      (ap (λ z. e.constant +ℤ z) (one_times (signed_value s i) (product e.coefficients s) (one_value e.coefficients s 1 i one))));
  covers = λ v t. closed_below n (entries n (equated x i e.constant t.0)) (equated x i e.constant by.0) v new u t.2
      (λ s k. subst (λ (z : Cells). IsStore n (entries n (equated x i e.constant z)) s) (one_forgets n x old t.0 by.0 t.1 by.1) k) by.2;
  exact = λ f. (by.0, by.1, by.2.exact f);
  flagged = λ f. (by.0, by.1, by.2.flagged f);
  fit = by.2.fit;
}

-- ---- x becomes x + c or -x + c

source_true : (x i : ℕ) → i / 2 ≡ x → origin true x i ≡ opposite i
source_true x i e = elim (eqb_tells (i / 2) x) as (λ _. origin true x i ≡ opposite i) [ inl f ↦ rw f.0 refl | inr f ↦ absurd (f.1 e) ]

plus_half : (x : ℕ) → 2 * x / 2 ≡ x
plus_half x = omega arith

minus_half : (x : ℕ) → (2 * x + 1) / 2 ≡ x
minus_half x = omega arith

-- the value of x's own signed variable, by the place from which it comes
own_value : (flips : Bool) (s : List ℤ) (x i : ℕ) → i / 2 ≡ x → flips ≡ (i % 2 == 1) → (signed_value s i ≡ signed_value s (origin flips x (2 * x)))
    × (neg_ℤ (signed_value s i) ≡ signed_value s (origin flips x (2 * x + 1)))
own_value flips s x i own sign = elim (in_pair x i own) [
  | inl p ↦ (let even : (i % 2 == 1) ≡ false = (let q : i % 2 ≡ 0 = omega arith in ap (λ z. z == 1) q) in
      let no = sign ∙ even in (
        ap (signed_value s) p ∙ ap (λ t. signed_value s (origin t x (2 * x))) (sym no),
        ap (λ z. neg_ℤ (signed_value s z)) p ∙ ap neg_ℤ (plus_value s x) ∙ sym (minus_value s x) ∙ ap (λ t. signed_value s (origin t x (2 * x + 1))) (sym no),
      ))
  | inr p ↦ (let odd : (i % 2 == 1) ≡ true = (let q : i % 2 ≡ 1 = omega arith in ap (λ z. z == 1) q) in
      let yes' = sign ∙ odd in (
        ap (signed_value s) (p ∙ sym (opposite_plus x)) ∙ ap (signed_value s) (sym (source_true x (2 * x) (plus_half x))) ∙ ap (λ t. signed_value s (origin t x (2 * x))) (sym yes'),
        ap (λ z. neg_ℤ (signed_value s z)) p ∙ sym (signed_opposite s (2 * x + 1)) ∙ ap (signed_value s) (sym (source_true x (2 * x + 1) (minus_half x)))
            ∙ ap (λ t. signed_value s (origin t x (2 * x + 1))) (sym yes'),
      ))
]

pub shifted_value : (flips : Bool) (s : List ℤ) (x i : ℕ) (c v : ℤ) (a : ℕ) → x < length s → i / 2 ≡ x → flips ≡ (i % 2 == 1) → v ≡ c +ℤ signed_value s i
    → signed_value (slice_set s x v) a ≡ signed_value s (origin flips x a) +ℤ added_to x c a
shifted_value flips s x i c v a wide own sign is = elim (eqb_tells (a / 2) x) [
  | inr f ↦ signed_other s x a v f.1 ∙ plus_none (signed_value s a) ∙ ap (λ z. signed_value s z +ℤ pos 0) (sym (source_other flips x a f.1))
      ∙ ap (λ z. signed_value s (origin flips x a) +ℤ z) (sym (added_other x c a f.1))
  | inl f ↦ elim (in_pair x a f.1) [
    | inl p ↦ rw p (set_plus s x v wide ∙ is ∙ swap c (signed_value s i) ∙ ap (λ z. z +ℤ c) (own_value flips s x i own sign).0
        ∙ ap (λ z. signed_value s (origin flips x (2 * x)) +ℤ z) (sym (added_plus x c)))
    | inr p ↦ rw p (set_minus s x v wide ∙ ap neg_ℤ is ∙ negated c (signed_value s i) ∙ ap (λ z. z +ℤ neg_ℤ c) (own_value flips s x i own sign).1
        ∙ ap (λ z. signed_value s (origin flips x (2 * x + 1)) +ℤ z) (sym (added_minus x c)))
  ]
]
  where
    plus_none : (p : ℤ) → p ≡ p +ℤ pos 0
    plus_none p = omega (arith, ints)

    swap : (p q : ℤ) → p +ℤ q ≡ q +ℤ p
    swap p q = omega (arith, ints)

    negated : (p q : ℤ) → neg_ℤ (p +ℤ q) ≡ neg_ℤ q +ℤ neg_ℤ p
    negated p q = omega (arith, ints)

difference_moves : (a b p q d e : ℤ) → a ≡ p +ℤ d → b ≡ q +ℤ e → Some (a -ℤ b) ≡ Some (p -ℤ q) ⊞ Some (d -ℤ e)
difference_moves a b p q d e f g = ap Some (omega (arith, ints))

pub shifted_store : (n : ℕ) (flips : Bool) (x i : ℕ) (c v : ℤ) (old new : Cells) (p : Bool) (s : List ℤ) → x < n → i / 2 ≡ x → flips ≡ (i % 2 == 1)
    → ShiftedTo n flips x c old new p → IsStore n (entries n old) s → v ≡ c +ℤ signed_value s i → IsStore n (entries n new) (slice_set s x v)
shifted_store n flips x i c v old new p s place own sign to store is =
    let wide : x < length s = (let w = store.width in omega arith) in record {
      width = length-set {A = ℤ} s x v ∙ store.width;
      below = λ a b h k. le_trans (le_same (difference_moves (signed_value (slice_set s x v) b) (signed_value (slice_set s x v) a) (signed_value s (origin flips x b))
          (signed_value s (origin flips x a)) (added_to x c b) (added_to x c a) (shifted_value flips s x i c v b wide own sign is) (shifted_value flips s x i c v a wide own sign is)))
          (le_trans (sum_grows (store.below (origin flips x a) (origin flips x b) (source_below n flips x a h) (source_below n flips x b k)) (le_same refl))
          (le_trans (le_within_range (shifted flips x c (entries n old) a b)) (le_same (sym (to.entries a b h k)))));
    }

shifted_fits : (n : ℕ) (flips : Bool) (x : ℕ) (c : ℤ) (old new : Cells) (p : Bool) → IsOctagon n old → ShiftedTo n flips x c old new p → IsOctagon n new
shifted_fits n flips x c old new p fit to = record {
  is = to.is;
  diagonal = λ a. elim (inside_or_out n a a) [
    | inl h ↦ to.entries a a h.0 h.1 ∙ shifted_diagonal n flips x c old a fit.is ∙ fit.diagonal (origin flips x a)
    | inr far ↦ far new ∙ sym (far old) ∙ fit.diagonal a
  ];
}

assigned_shift : (n x : ℕ) (flips : Bool) (e : Form) (old new : Cells) (u : Exactness) → x < n → IsShift x flips (shape e) → IsOctagon n old
    → ShiftedTo n flips x e.constant old new (is_flagged u) → MatrixAssignedTo n x e (Shift flips) old (Some new) u
assigned_shift n x flips e old new u place own fit to = record {
  stores = λ s h. shifted_store n flips x own.signed e.constant (form_value e s) old new (is_flagged u) s place own.own own.sign to h
      (ap (λ z. e.constant +ℤ z) (one_times (signed_value s own.signed) (product e.coefficients s) (one_value e.coefficients s 1 own.signed own.one)));
  covers = λ v t. covers v t;
  exact = λ f. record { is = to.is; entries = to.exact (ap is_flagged f) };
  flagged = λ f. to.flagged (ap is_flagged f);
  fit = shifted_fits n flips x e.constant old new (is_flagged u) fit to;
}
  where
    covers : (v : Option Cells) → AssignsTo n x e (Shift flips) old v → MatrixWithin v (Some new)
    covers None t = absurd t
    covers (Some cells) t = entries_within n cells new t.is.full to.is.full
        (λ a b h k. le_trans (le_same (t.entries a b h k)) (le_trans (le_within_range (shifted flips x e.constant (entries n old) a b)) (le_same (sym (to.entries a b h k)))))

-- ---- x gets the bounds of the form

alone_at : (n x : ℕ) (i : Interval) → x < n → slice_index_or (alone n x i) x full_interval ≡ i
alone_at n x i h = get_or-set_same (replicate n full_interval) x i full_interval (let w = length-replicated n in omega (arith, w))
  where
    length-replicated : (k : ℕ) → length (replicate k full_interval) ≡ k
    length-replicated zero = refl
    length-replicated (suc k) = ap suc (length-replicated k)

alone_other : (n x k : ℕ) (i : Interval) → k < n → k ≢ x → slice_index_or (alone n x i) k full_interval ≡ full_interval
alone_other n x k i h ne = get_or-set_other (replicate n full_interval) x k i full_interval ne ∙ get_or-replicate n k full_interval full_interval h

open_upper : (r : ℕ) → upper_of r full_interval ≡ None
open_upper zero = refl
open_upper (suc r) = refl

alone_holds : (n x : ℕ) (i : Interval) (s : List ℤ) (v : ℤ) (j : ℕ) → x < n → j < 2 * n → entry s x ≡ v → InInterval i v → Some (signed_value s j) ⊑ upper (alone n x i) j
unfolding signed_value
alone_holds n x i s v j place h is holds = elim (eqb_tells (j / 2) x) [
  | inl e ↦ le_trans (le_same (ap (λ z. Some (with_sign (j % 2) (entry s z))) e.1 ∙ ap (λ z. Some (with_sign (j % 2) z)) is))
      (le_trans (side_holds (j % 2) i v holds) (le_same (sym (ap (λ z. upper_of (j % 2) (slice_index_or (alone n x i) z full_interval)) e.1 ∙ ap (upper_of (j % 2)) (alone_at n x i place)))))
  | inr e ↦ le_trans (le_none (Some (with_sign (j % 2) (entry s (j / 2)))))
      (le_same (sym (ap (upper_of (j % 2)) (alone_other n x (j / 2) i (omega arith) e.1) ∙ open_upper (j % 2))))
]

alone_within : (n x : ℕ) (i j : Interval) → IntervalWithin i j → IntervalsWithin (alone n x i) (alone n x j)
alone_within n x i j w = set_within (replicate n full_interval) (replicate n full_interval) x i j (intervals_within_refl (replicate n full_interval)) w

pub alone_ends : (n x : ℕ) (i : Interval) (is : List Interval) → x < n → EndsInRange i → is ≡ alone n x i → (k : ℕ) → EndsInRange (slice_index_or is k full_interval)
alone_ends n x i is place fits e k = rw e (elim (eqb_tells k x) as (λ _. EndsInRange (slice_index_or (alone n x i) k full_interval)) [
  | inl f ↦ rw (f.1, alone_at n x i place) fits
  | inr f ↦ rw (get_or-set_other (replicate n full_interval) x k i full_interval f.1) (open_ends n k)
])
  where
    open_ends : (m k : ℕ) → EndsInRange (slice_index_or (replicate m full_interval) k full_interval)
    open_ends zero k = (tt, tt)
    open_ends (suc m) zero = (tt, tt)
    open_ends (suc m) (suc k) = open_ends m k

abbrev pub ends_of : End → End → Interval
ends_of low high = record { low = low.value; high = high.value }

pub assigned_bound : (n x : ℕ) (e : Form) (old : Cells) (low high : End) (new : Option Cells) (u w z : Exactness) → x < n → length e.coefficients ≡ n
    → IsBound (end_sum Low e.constant e.coefficients (intervals n (entries n old))) (SumPasses Low e.constant e.coefficients (intervals n (entries n old))) low
    → IsBound (end_sum High e.constant e.coefficients (intervals n (entries n old))) (SumPasses High e.constant e.coefficients (intervals n (entries n old))) high
    → ConfinedTo n x (ends_of low high) old new u
    → (w ≡ Exact → (low.exactness ≡ Exact) × (high.exactness ≡ Exact)) → (w ≡ Flagged → (low.exactness ≡ Flagged) ⊎ ((low.exactness ≡ Exact) × (high.exactness ≡ Flagged)))
    → (z ≡ Exact → (w ≡ Exact) × (u ≡ Exact)) → (z ≡ Flagged → (w ≡ Flagged) ⊎ ((w ≡ Exact) × (u ≡ Flagged)))
    → MatrixAssignedTo n x e Bound old new z
assigned_bound n x e old low high new u w z place width is_low is_high to both either exact flagged = record {
  stores = λ s h.
      let inside = in_intervals n (entries n old) s h in
      let long = width ∙ sym (length_intervals n (entries n old)) in
      let wide : x < length s = (let q = h.width in omega arith) in
      to.2.stores (slice_set s x (form_value e s)) (forgotten_store n x (entries n old) (entries n to.0) s (form_value e s) to.1.entries h)
      (λ j k. alone_holds n x (ends_of low high) (slice_set s x (form_value e s)) (form_value e s) j place k (entry_set_same s x (form_value e s) wide) (
        bound_holds Low _ _ low _ is_low (end_sum_holds Low e.constant e.coefficients (intervals n (entries n old)) s inside long),
        bound_holds High _ _ high _ is_high (end_sum_holds High e.constant e.coefficients (intervals n (entries n old)) s inside long),
      ));
  covers = λ v t. bounds_below n (alone n x (ends_of low high)) to.0 to.0 (Some (alone n x (form_interval n (entries n old) e))) v new u (within_refl to.0)
      (alone_within n x (form_interval n (entries n old) e) (ends_of low high) (low_covers _ _ low low.exactness refl is_low, high_covers _ _ high high.exactness refl is_high))
      (subst (λ (c : Cells). IsClosure n (bounded (alone n x (form_interval n (entries n old) e)) (entries n c)) v) (one_forgets n x old t.0 to.0 t.1 to.1) t.2) to.2;
  exact = λ f. let p = exact f in let q = both p.0 in
      (to.0, to.1, subst (λ (i : Interval). IsClosure n (bounded (alone n x i) (entries n to.0)) new) (same q.0 q.1) (to.2.exact p.1));
  flagged = λ f. strained (flagged f);
  fit = to.2.fit;
}
  where
    same : low.exactness ≡ Exact → high.exactness ≡ Exact → ends_of low high ≡ form_interval n (entries n old) e
    same p q = rw (is_low.exact p, is_high.exact q) refl

    rest : (i : Interval) → SomePasses n (alone n x i) ⊎ BoundedPasses n (alone n x i) to.0 → i ≡ form_interval n (entries n old) e → MatrixAssignPasses n x e Bound old
    rest i (inl p) f = inr (inr (inl (subst (λ (k : Interval). SomePasses n (alone n x k)) f p)))
    rest i (inr p) f = inr (inr (inr (to.0, to.1, subst (λ (k : Interval). BoundedPasses n (alone n x k) to.0) f p)))

    sums : (low.exactness ≡ Flagged) ⊎ ((low.exactness ≡ Exact) × (high.exactness ≡ Flagged)) → MatrixAssignPasses n x e Bound old
    sums (inl p) = inl (is_low.flagged p).0
    sums (inr p) = inr (inl (is_high.flagged p.1).0)

    strained : (w ≡ Flagged) ⊎ ((w ≡ Exact) × (u ≡ Flagged)) → MatrixAssignPasses n x e Bound old
    strained (inl p) = sums (either p)
    strained (inr p) = let q = both p.0 in rest (ends_of low high) (to.2.flagged p.1) (same q.0 q.1)

-- ---- assignments as changes

pub meets_nothing : (n x : ℕ) (e : Form) → TransfersTo octagon_abstraction (assign x e) (content n None) Exact (content n None)
meets_nothing n x e = record {
  formed = tt;
  keeps = λ s t h k. absurd h;
  covers = λ v d. (d.0, none_below v.cells None d.1);
  exact = λ f. (refl, refl);
  flagged = λ f. absurd (cc);
}

-- a form by its constant and its coefficients
assigned_as : (n x : ℕ) (e : Form) (k : ℤ) (cs : List ℤ) (old : Cells) (new : Option Cells) (u : Exactness) → k ≡ e.constant → cs ≡ e.coefficients
    → MatrixAssignedTo n x (form k cs) (assignment_of x (shape (form k cs))) old new u → MatrixAssignedTo n x e (assignment_of x (shape e)) old new u
assigned_as n x e k cs old new u p q to =
    subst (λ (a : ℤ). MatrixAssignedTo n x (form a e.coefficients) (assignment_of x (shape (form a e.coefficients))) old new u) p
    (subst (λ (b : List ℤ). MatrixAssignedTo n x (form k b) (assignment_of x (shape (form k b))) old new u) q to)

meets_assign : (n x : ℕ) (e : Form) (old : Cells) (new : Option Cells) (u : Exactness) → MatrixAssignedTo n x e (assignment_of x (shape e)) old new u
    → TransfersTo octagon_abstraction (assign x e) (content n (Some old)) u (content n new)
meets_assign n x e old new u to = record {
  formed = to.fit;
  keeps = λ s t h k. subst (λ (l : List ℤ). has_store n new l) (sym k) (to.stores s h);
  covers = λ v d. (d.0, to.covers v.cells d.1);
  exact = λ f. (refl, to.exact f);
  flagged = to.flagged;
}

pub meets_some : (n x : ℕ) (e : Form) (k : ℤ) (cs : List ℤ) (b : Option Matrix) (m : Matrix) (new : Option Cells) (u : Exactness) → b ≡ Some m → k ≡ e.constant → cs ≡ e.coefficients
    → MatrixAssignedTo n x (form k cs) (assignment_of x (shape (form k cs))) m.cells new u →
    TransfersTo octagon_abstraction (assign x e) (content n (matrix_view b)) u (content n new)
meets_some n x e k cs b m new u is p q to =
    subst (λ (o : Option Matrix). TransfersTo octagon_abstraction (assign x e) (content n (matrix_view o)) u (content n new)) (sym is)
    (meets_assign n x e m.cells new u (assigned_as n x e k cs m.cells new u p q to))

-- ---- the assignment that a shape asks for

pub given_equate : (n x i : ℕ) (e : Form) (old : Cells) (new : Option Cells) (u : Exactness) → x < n → i < 2 * n → InRange e.constant → Equate i ≡ assignment_of x (shape e)
    → EquatedTo n x i e.constant old new u → MatrixAssignedTo n x e (assignment_of x (shape e)) old new u
given_equate n x i e old new u place row fits is by =
    let p = is_equate x i (shape e) is in
    subst (λ (a : Assignment). MatrixAssignedTo n x e a old new u) is (assigned_equate n x i e old new u place row p.0 p.1 fits by)

pub given_shift : (n x : ℕ) (flips : Bool) (e : Form) (old new : Cells) (u : Exactness) → x < n → IsOctagon n old → Shift flips ≡ assignment_of x (shape e)
    → ShiftedTo n flips x e.constant old new (is_flagged u) → MatrixAssignedTo n x e (assignment_of x (shape e)) old (Some new) u
given_shift n x flips e old new u place fit is to =
    subst (λ (a : Assignment). MatrixAssignedTo n x e a old (Some new) u) is (assigned_shift n x flips e old new u place (is_shift x flips (shape e) is) fit to)

pub equate_below : (n x i : ℕ) (cs : List ℤ) → length cs ≡ n → All InRange cs → Equate i ≡ assignment_of x (shape_of (terms_from 0 cs)) → i < 2 * n
equate_below n x i cs width range is = (one_in_range n cs 1 i width range (is_equate x i (shape_of (terms_from 0 cs)) is).0).0

pub intervals_width : (n : ℕ) (m : Entries) (is : List Interval) (cs : List ℤ) → length cs ≡ n → is ≡ intervals n m → length cs ≡ length is
intervals_width n m is cs w e = w ∙ sym (length_intervals n m) ∙ ap length (sym e)
