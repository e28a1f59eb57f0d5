-- What is defined of tight matrices is tight, and a test that lowers no entry of one is that one.
use Rattle.std.proofs.Common.{◌≡◌, ◌≢◌, ◌∙◌, ◌+◌, ◌-◌, ◌*◌, ◌/◌, ◌%◌, ◌<◌, ◌≤◌, ℕ, zero, suc, ℤ, pos, negsuc, ◌+ℤ◌, List, [], ◌∷◌, ◌++◌, length, map, take, Bool, true, false, cond, replicate, Option}
use Rattle.std.proofs.Common.{None, Some, inl, inr, refl, sym, ap, subst, arith}
use Rattle.std.proofs.{Math.ListN.length-set, lemmas.Bool.Decides.eqb_tells, lemmas.Bool.Decides.leb_tells, lemmas.Int.ints, lemmas.List.length-replicate}
use Rattle.std.specs.Prelude.{◌==◌, ◌||◌, ◌-ℤ◌, ◌≤ℤ◌, ◌⊎◌, neg_ℤ, int_lt, nat_lt, slice_set}
use Rattle.lra_linear_spec.specs.{Vectors.entry, declared.ConKind.ConKind, declared.ConKind.TheVariants.Ge, declared.ConKind.TheVariants.Eq}
use Rattle.lra_linear_spec.proofs.{CheckedArithmetic.in_range_yes, Products.entry_set_same}
use Rattle.lra_octagon.specs.Crates.lra_linear_forms.Form.{Form}
use Rattle.lra_domain.specs.{Actions.Action, Actions.ActionFits, Actions.assign, Actions.forget, Actions.test, Actions.embed, Actions.remove_last, Bounds.greater}
use Rattle.lra_box.specs.{Refine.ge_tested, declared.interval.Interval.Interval}
use Rattle.lra_dbm.specs.Cells.{Cells, IsMatrix, entered, entries, first_entries, forgotten, outside}
use Rattle.lra_dbm.specs.{Closure.IsClosure, Entry.◌⊑◌, Entry.◌⊞◌, Entry.EntryInRange, Entry.within_range, Pointwise.greater_cells, Shifting.ShiftedTo, Shifting.added_to, Shifting.origin}
use Rattle.lra_dbm.specs.{Shifting.shifted, Tight.Entries, Tight.opposite, Tight.with_sign, Tight.IsStore, Tight.IsTight, Tight.signed_value}
use Rattle.lra_dbm.proofs.PointwiseLemmas.{entries_greater, greater_is, greater_left, greater_right}
use Rattle.lra_dbm.proofs.{CellLemmas.inside_or_out, CellLemmas.opposite_below, Clears.in_pair, Clears.opposite_plus, Clears.opposite_minus, Closed.signed_opposite, Closures.all_are_stores}
use Rattle.lra_dbm.proofs.{Closures.tight_has, EntryLemmas.le_none, EntryLemmas.le_same, EntryLemmas.le_trans, Shifts.source_below}
use Rattle.lra_octagon.specs.Forms.{ShapeFits, Term, opposite_shape, shape, shape_of, terms_at, terms_from}
use Rattle.lra_octagon.specs.Tables.{Assigns, AssignsTo, Becomes, BoundsTo, Shifts, OctagonTransfersTo, Tests, TestsTo, alone, assignment_of, at_least, bounded, equated, form_interval, intervals}
use Rattle.lra_octagon.specs.declared.assigning.Assignment.TheVariants.{Equate, Shift, Bound}
use Rattle.lra_octagon.specs.declared.forms.FormShape.TheVariants.{Constant, One, Two, Other}
use Rattle.lra_octagon.specs.{Abstraction.octagon_abstraction, Content.CellsFit, Content.OctagonContent, Content.IsTopMatrix, Heads.ClosesTo, Heads.joined_cells, Least.IsTightOctagon}
use Rattle.lra_octagon.specs.{Least.IsTightOrNone, Tables.minus_form, Tables.quotient, Unchanged.ShapeUnchanged, declared.assigning.Assignment.Assignment, declared.forms.FormShape.FormShape}
use Rattle.lra_octagon.proofs.StoreLemmas.{signed_append, signed_other, signed_take, embedded_store, first_store, forgotten_store}
use Rattle.lra_octagon.proofs.{AssignLemmas.is_shift, AssignLemmas.shifted_store, AssignLemmas.shifted_value, EnterLemmas.entered_store, TestLemmas.entered_back}

-- ---- closures are tight
pub closure_tight : (n : ℕ) (m : Entries) (o : Option Cells) → IsClosure n m o → IsTightOrNone n o
closure_tight n m None c = tt
closure_tight n m (Some cells) c = c.tight

pub closed_tight : (n : ℕ) (h o : Option Cells) → ClosesTo n h o → IsTightOrNone n o
closed_tight n None o c = subst (λ (x : Option Cells). IsTightOrNone n x) (sym c) tt
closed_tight n (Some cells) o c = closure_tight n (entries n cells) o c.1

-- ---- joins: each entry is that of one of the two, and its stores are the join's
pub joined_tight : (n : ℕ) (a b : Option Cells) → CellsFit n a → CellsFit n b → IsTightOrNone n a → IsTightOrNone n b
    → IsTightOrNone n (joined_cells a b)
joined_tight n None b f g t u = u
joined_tight n (Some cs) None f g t u = t
joined_tight n (Some cs) (Some ds) f g t u = record {
  attained = λ i j h k c le. reach i j h k c
      (subst (λ (o : Option ℤ). Some c ⊑ o) (entries_greater n cs ds i j) le);
}
  where
    in_left : (s : List ℤ) → IsStore n (entries n cs) s → IsStore n (entries n (greater_cells cs ds)) s
    in_left s is = record {
      width = is.width;
      below = λ i j h k. le_trans (is.below i j h k)
          (le_trans (greater_left (entries n cs i j) (entries n ds i j)) (le_same (sym (entries_greater n cs ds i j))));
    }

    in_right : (s : List ℤ) → IsStore n (entries n ds) s → IsStore n (entries n (greater_cells cs ds)) s
    in_right s is = record {
      width = is.width;
      below = λ i j h k. le_trans (is.below i j h k)
          (le_trans (greater_right (entries n cs i j) (entries n ds i j)) (le_same (sym (entries_greater n cs ds i j))));
    }

    reach : (i j : ℕ) → i < 2 * n → j < 2 * n → (c : ℤ) → Some c ⊑ greater (entries n cs i j) (entries n ds i j)
        → (s : List ℤ) × IsStore n (entries n (greater_cells cs ds)) s × (c ≤ℤ (signed_value s j -ℤ signed_value s i))
    reach i j h k c le = elim (greater_is (entries n cs i j) (entries n ds i j)) [
      | inl e ↦ let r = t.attained i j h k c (subst (λ (o : Option ℤ). Some c ⊑ o) e le) in (r.0, in_left r.0 r.1, r.2)
      | inr e ↦ let r = u.attained i j h k c (subst (λ (o : Option ℤ). Some c ⊑ o) e le) in (r.0, in_right r.0 r.1, r.2)
    ]

-- ---- variables that go: an entry of the first ones is reached by the prefix of what reached it
first_inside : (n k : ℕ) (old : Cells) (i j : ℕ) → i < 2 * k → j < 2 * k → first_entries k (entries n old) i j ≡ entries n old i j
first_inside n k old i j h l = elim (leb_tells (suc i) (2 * k)) as (λ _. first_entries k (entries n old) i j ≡ entries n old i j) [
  | inr f ↦ absurd (let q = f.1 in omega arith)
  | inl f ↦ rw f.0 (elim (leb_tells (suc j) (2 * k)) as (λ _. cond (nat_lt j (2 * k)) (entries n old i j) (outside i j) ≡ entries n old i j) [
    | inr g ↦ absurd (let q = g.1 in omega arith)
    | inl g ↦ rw g.0 refl
  ])
]

far_enough : (c a b p q : ℤ) → a ≡ p → b ≡ q → c ≤ℤ (q -ℤ p) → c ≤ℤ (b -ℤ a)
far_enough c a b p q e f h = omega (arith, ints, e, f, h)

pub first_tight : (n k : ℕ) (old new : Option Cells) → k ≤ n → Becomes k (first_entries k) n old new → IsTightOrNone n old → IsTightOrNone k new
first_tight n k None new less b t = subst (λ (o : Option Cells). IsTightOrNone k o) (sym b) tt
first_tight n k (Some old) None less b t = absurd b
first_tight n k (Some old) (Some new) less b t = record {
  attained = λ i j h l c le.
      let r = t.attained i j (omega (arith, h, less)) (omega (arith, l, less)) c
      (subst (λ (o : Option ℤ). Some c ⊑ o) (b.1 i j ∙ first_inside n k old i j h l) le) in (
        take k r.0,
        first_store n k old new r.0 less b.1 r.1,
        far_enough c (signed_value (take k r.0) i) (signed_value (take k r.0) j) (signed_value r.0 i) (signed_value r.0 j)
            (signed_take k r.0 i h) (signed_take k r.0 j l) r.2,
      );
}

-- ---- shifts: an entry is reached by the store that reached the one that it was, shifted
less_sum : (d e : ℤ) (o : Option ℤ) → Some d ⊑ (o ⊞ Some e) → Some (d -ℤ e) ⊑ o
less_sum d e None h = le_none (Some (d -ℤ e))
less_sum d e (Some q) h = let m = h.at_most in record { at_most = omega (arith, ints, m) }

shifted_far : (d e a b p q x y : ℤ) → a ≡ p +ℤ x → b ≡ q +ℤ y → e ≡ y -ℤ x → (d -ℤ e) ≤ℤ (q -ℤ p) → d ≤ℤ (b -ℤ a)
shifted_far d e a b p q x y f g s h = omega (arith, ints, f, g, s, h)

pub shifted_tight : (n : ℕ) (flips : Bool) (x i : ℕ) (c : ℤ) (old new : Cells) → x < n → i / 2 ≡ x → flips ≡ (i % 2 == 1)
    → ShiftedTo n flips x c old new false → IsTight n (entries n old) → IsTight n (entries n new)
shifted_tight n flips x i c old new place own sign to t = record {
  attained = λ a b h k d le.
      let r = t.attained (origin flips x a) (origin flips x b) (source_below n flips x a h) (source_below n flips x b k)
      (d -ℤ (added_to x c b -ℤ added_to x c a))
      (less_sum d (added_to x c b -ℤ added_to x c a) (entries n old (origin flips x a) (origin flips x b))
      (subst (λ (o : Option ℤ). Some d ⊑ o) (to.exact refl a b h k) le)) in
      let v = c +ℤ signed_value r.0 i in
      let wide : x < length r.0 = (let w = r.1.width in omega arith) in (
        slice_set r.0 x v,
        shifted_store n flips x i c v old new false r.0 place own sign to r.1 refl,
        shifted_far d (added_to x c b -ℤ added_to x c a) (signed_value (slice_set r.0 x v) a) (signed_value (slice_set r.0 x v) b)
            (signed_value r.0 (origin flips x a)) (signed_value r.0 (origin flips x b)) (added_to x c a) (added_to x c b)
            (shifted_value flips r.0 x i c v a wide own sign refl) (shifted_value flips r.0 x i c v b wide own sign refl) refl r.2,
      );
}

-- ---- forgetting: an entry of x is infinite, and some number gives x what is asked
give_sign : (s : List ℤ) (x i : ℕ) (w : ℤ) → x < length s → i / 2 ≡ x → (v : ℤ) × (signed_value (slice_set s x v) i ≡ w)
unfolding signed_value
give_sign s x i w inside own = by_sign (i % 2) refl
  where
    turned : (z : ℤ) → neg_ℤ (neg_ℤ z) ≡ z
    turned z = omega (arith, ints)

    by_sign : (r : ℕ) → i % 2 ≡ r → (v : ℤ) × (with_sign (i % 2) (entry (slice_set s x v) (i / 2)) ≡ w)
    by_sign zero e = (w, rw (e, own) (entry_set_same s x w inside))
    by_sign (suc k) e = (neg_ℤ w, rw (e, own) (ap neg_ℤ (entry_set_same s x (neg_ℤ w) inside) ∙ turned w))

-- a number that is far from its opposite
far_apart : (c : ℤ) → (w : ℤ) × (c ≤ℤ (neg_ℤ w -ℤ w))
far_apart (pos k) = (neg_ℤ (pos k), omega (arith, ints))
far_apart (negsuc k) = (pos 0, omega (arith, ints))

far_low : (c a b q : ℤ) → a ≡ q -ℤ c → b ≡ q → c ≤ℤ (b -ℤ a)
far_low c a b q e f = omega (arith, ints, e, f)

far_high : (c a b p : ℤ) → a ≡ p → b ≡ p +ℤ c → c ≤ℤ (b -ℤ a)
far_high c a b p e f = omega (arith, ints, e, f)

the_opposite : (x i j : ℕ) → i / 2 ≡ x → j / 2 ≡ x → i ≢ j → j ≡ opposite i
the_opposite x i j f g ne = elim (in_pair x i f) [
  | inl p ↦ (elim (in_pair x j g) [
    | inl q ↦ absurd (ne (p ∙ sym q))
    | inr q ↦ q ∙ sym (opposite_plus x) ∙ ap opposite (sym p)
  ])
  | inr p ↦ (elim (in_pair x j g) [
    | inl q ↦ q ∙ sym (opposite_minus x) ∙ ap opposite (sym p)
    | inr q ↦ absurd (ne (p ∙ sym q))
  ])
]

-- if x may have each number, each difference from it and to it is reached
module _ (n x : ℕ) (new : Cells) (s : List ℤ) (i j : ℕ) (c : ℤ) (wide : x < length s)
    (free : (v : ℤ) → IsStore n (entries n new) (slice_set s x v)) where
  apart : i / 2 ≡ x → j / 2 ≡ x → i ≢ j → (t : List ℤ) × IsStore n (entries n new) t × (c ≤ℤ (signed_value t j -ℤ signed_value t i))
  apart f g ne =
      let w = far_apart c in
      let v = give_sign s x i w.0 wide f in (
        slice_set s x v.0,
        free v.0,
        far_enough c (signed_value (slice_set s x v.0) i) (signed_value (slice_set s x v.0) j) w.0 (neg_ℤ w.0) v.1
            (ap (signed_value (slice_set s x v.0)) (the_opposite x i j f g ne) ∙ signed_opposite (slice_set s x v.0) i ∙ ap neg_ℤ v.1) w.1,
      )

  low : i / 2 ≡ x → j / 2 ≢ x → (t : List ℤ) × IsStore n (entries n new) t × (c ≤ℤ (signed_value t j -ℤ signed_value t i))
  low f g = let v = give_sign s x i (signed_value s j -ℤ c) wide f in (
    slice_set s x v.0,
    free v.0,
    far_low c (signed_value (slice_set s x v.0) i) (signed_value (slice_set s x v.0) j) (signed_value s j) v.1 (signed_other s x j v.0 g),
  )

  high : i / 2 ≢ x → j / 2 ≡ x → (t : List ℤ) × IsStore n (entries n new) t × (c ≤ℤ (signed_value t j -ℤ signed_value t i))
  high f g = let v = give_sign s x j (signed_value s i +ℤ c) wide g in (
    slice_set s x v.0,
    free v.0,
    far_high c (signed_value (slice_set s x v.0) i) (signed_value (slice_set s x v.0) j) (signed_value s i) (signed_other s x i v.0 f) v.1,
  )

  free_reach : i ≢ j → (i / 2 ≡ x) ⊎ (j / 2 ≡ x)
      → (t : List ℤ) × IsStore n (entries n new) t × (c ≤ℤ (signed_value t j -ℤ signed_value t i))
  free_reach ne (inl f) = elim (eqb_tells (j / 2) x) [ inl g ↦ apart f g.1 ne | inr g ↦ low f g.1 ]
  free_reach ne (inr g) = elim (eqb_tells (i / 2) x) [ inl f ↦ apart f.1 g ne | inr f ↦ high f.1 g ]

-- an entry of the diagonal by any store
self_far : (c : ℤ) (s : List ℤ) (i j : ℕ) (o : Option ℤ) → i ≡ j → Some c ⊑ o → o ⊑ Some (pos 0) → c ≤ℤ (signed_value s j -ℤ signed_value s i)
self_far c s i j o same le diagonal =
    far_self c (signed_value s i) (signed_value s j) (ap (signed_value s) same) (le_trans le diagonal).at_most
  where
    far_self : (d a b : ℤ) → a ≡ b → d ≤ℤ pos 0 → d ≤ℤ (b -ℤ a)
    far_self d a b e h = omega (arith, ints, e, h)

on_diagonal : (n : ℕ) (cells : Cells) (i j : ℕ) → IsMatrix n cells → i ≡ j → entries n cells i j ⊑ Some (pos 0)
on_diagonal n cells i j is same = le_trans (le_same (ap (entries n cells i) (sym same))) (is.diagonal i)

forgotten_reach : (n x : ℕ) (old new : Cells) → x < n → IsMatrix n old → ((i j : ℕ) → entries n new i j ≡ forgotten x (entries n old) i j)
    → IsTight n (entries n old) → (i j : ℕ) → i < 2 * n → j < 2 * n → (c : ℤ) → Some c ⊑ forgotten x (entries n old) i j
    → (s : List ℤ) × IsStore n (entries n new) s × (c ≤ℤ (signed_value s j -ℤ signed_value s i))
forgotten_reach n x old new place is e t i j h k c le = elim (eqb_tells i j) [
  | inl d ↦ alike d.0 d.1
  | inr d ↦ (elim (eqb_tells (i / 2) x) [
    | inl f ↦ of_x d.1 (inl f.1)
    | inr f ↦ (elim (eqb_tells (j / 2) x) [ inl g ↦ of_x d.1 (inr g.1) | inr g ↦ other d.0 f.0 g.0 f.1 g.1 ])
  ])
]
  where
    old_store : (s : List ℤ) × IsStore n (entries n old) s
    old_store = tight_has n old is t

    changed : (s : List ℤ) (v : ℤ) → IsStore n (entries n old) s → IsStore n (entries n new) (slice_set s x v)
    changed s v store = forgotten_store n x (entries n old) (entries n new) s v e store

    alike : (i == j) ≡ true → i ≡ j → (s : List ℤ) × IsStore n (entries n new) s × (c ≤ℤ (signed_value s j -ℤ signed_value s i))
    alike told same =
        let is_old : forgotten x (entries n old) i j ≡ entries n old i j = rw told refl in (
          slice_set old_store.0 x (pos 0),
          changed old_store.0 (pos 0) old_store.1,
          self_far c (slice_set old_store.0 x (pos 0)) i j (entries n old i j) same (le_trans le (le_same is_old)) (on_diagonal n old i j is same),
        )

    of_x : i ≢ j → (i / 2 ≡ x) ⊎ (j / 2 ≡ x) → (s : List ℤ) × IsStore n (entries n new) s × (c ≤ℤ (signed_value s j -ℤ signed_value s i))
    of_x ne at =
        let wide : x < length old_store.0 = (let q = old_store.1.width in omega arith) in
        free_reach n x new old_store.0 i j c wide (λ v. changed old_store.0 v old_store.1) ne at

    other : (i == j) ≡ false → (i / 2 == x) ≡ false → (j / 2 == x) ≡ false → i / 2 ≢ x → j / 2 ≢ x
        → (s : List ℤ) × IsStore n (entries n new) s × (c ≤ℤ (signed_value s j -ℤ signed_value s i))
    other told p q f g =
        let is_old : forgotten x (entries n old) i j ≡ entries n old i j = rw told (rw p (rw q refl)) in
        let r = t.attained i j h k c (le_trans le (le_same is_old)) in (
          slice_set r.0 x (pos 0),
          changed r.0 (pos 0) r.1,
          far_enough c (signed_value (slice_set r.0 x (pos 0)) i) (signed_value (slice_set r.0 x (pos 0)) j) (signed_value r.0 i) (signed_value r.0 j)
              (signed_other r.0 x i (pos 0) f) (signed_other r.0 x j (pos 0) g) r.2,
        )

pub forgotten_tight : (n x : ℕ) (old new : Option Cells) → x < n → CellsFit n old → Becomes n (forgotten x) n old new → IsTightOrNone n old
    → IsTightOrNone n new
forgotten_tight n x None new place fit b t = subst (λ (o : Option Cells). IsTightOrNone n o) (sym b) tt
forgotten_tight n x (Some old) None place fit b t = absurd b
forgotten_tight n x (Some old) (Some new) place fit b t = record {
  attained = λ i j h k c le. forgotten_reach n x old new place fit.is b.1 t i j h k c (subst (λ (o : Option ℤ). Some c ⊑ o) (b.1 i j) le);
}

-- ---- the universe: every list of n numbers is a store
abbrev zeros : ℕ → List ℤ
zeros n = replicate n (pos 0)

length-zeros : (n : ℕ) → length (zeros n) ≡ n
length-zeros n = length-replicate n (pos 0)

pub whole_tight : (n : ℕ) (o : Option Cells) → IsTopMatrix n o → IsTightOrNone n o
whole_tight n None w = tt
whole_tight n (Some cells) w = record {
  attained = λ i j h k c le. elim (eqb_tells i j) [
    | inl d ↦ (zeros n, store (zeros n) (length-zeros n), self_far c (zeros n) i j (entries n cells i j) d.1 le (on_diagonal n cells i j w.0 d.1))
    | inr d ↦ free_reach n (i / 2) cells (zeros n) i j c (let q = length-zeros n in omega (arith, q, h))
        (λ v. store (slice_set (zeros n) (i / 2) v) (length-set {A = ℤ} (zeros n) (i / 2) v ∙ length-zeros n)) d.1 (inl refl)
  ];
}
  where
    store : (s : List ℤ) → length s ≡ n → IsStore n (entries n cells) s
    store s width = all_are_stores n (entries n cells) s w.1 width

-- ---- variables that come: they have no entry but those of the diagonal, so it is as if they were forgotten
far_free : (n x : ℕ) (old : Cells) → n ≤ x → (i j : ℕ) → entries n old i j ≡ forgotten x (entries n old) i j
far_free n x old far i j = elim (eqb_tells i j) as (λ _. entries n old i j ≡ forgotten x (entries n old) i j) [
  | inl d ↦ rw d.0 refl
  | inr d ↦ rw d.0 (elim (eqb_tells (i / 2) x) as (λ _. entries n old i j ≡ cond (i / 2 == x || j / 2 == x) None (entries n old i j)) [
    | inl f ↦ rw f.0 (gone d.0 (inl f.1))
    | inr f ↦ rw f.0 (elim (eqb_tells (j / 2) x) as (λ _. entries n old i j ≡ cond (j / 2 == x) None (entries n old i j)) [
      | inl g ↦ rw g.0 (gone d.0 (inr g.1))
      | inr g ↦ rw g.0 refl
    ])
  ])
]
  where
    near : (k : ℕ) → k < 2 * n → k / 2 ≢ x
    near k h e = omega (arith, h, e, far)

    one_near : (i < 2 * n) × (j < 2 * n) → (i / 2 ≡ x) ⊎ (j / 2 ≡ x) → ⊥
    one_near h (inl f) = near i h.0 f
    one_near h (inr g) = near j h.1 g

    gone : (i == j) ≡ false → (i / 2 ≡ x) ⊎ (j / 2 ≡ x) → entries n old i j ≡ None
    gone told at = elim (inside_or_out n i j) [
      | inl h ↦ absurd (one_near h at)
      | inr out ↦ out old ∙ rw told refl
    ]

embedded_reach : (n k : ℕ) (old new : Cells) → IsMatrix n old → ((i j : ℕ) → entries (n + k) new i j ≡ entries n old i j)
    → IsTight n (entries n old) → (i j : ℕ) → i < 2 * (n + k) → j < 2 * (n + k) → (c : ℤ) → Some c ⊑ entries n old i j
    → (s : List ℤ) × IsStore (n + k) (entries (n + k) new) s × (c ≤ℤ (signed_value s j -ℤ signed_value s i))
embedded_reach n k old new is e t i j h l c le = elim (leb_tells (suc i) (2 * n)) [
  | inr p ↦ outer (i / 2) (let q = p.1 in omega arith) (omega arith) (inl refl)
  | inl p ↦ (elim (leb_tells (suc j) (2 * n)) [
    | inr q ↦ outer (j / 2) (let o = q.1 in omega arith) (omega arith) (inr refl)
    | inl q ↦ inner p.1 q.1
  ])
]
  where
    longer : (s : List ℤ) → IsStore n (entries n old) s → IsStore (n + k) (entries (n + k) new) (s ++ zeros k)
    longer s store = embedded_store n k old new s (zeros k) (length-zeros k) e store

    inner : i < 2 * n → j < 2 * n → (s : List ℤ) × IsStore (n + k) (entries (n + k) new) s × (c ≤ℤ (signed_value s j -ℤ signed_value s i))
    inner p q =
        let r = t.attained i j p q c le in
        let w = r.1.width in (
          r.0 ++ zeros k,
          longer r.0 r.1,
          far_enough c (signed_value (r.0 ++ zeros k) i) (signed_value (r.0 ++ zeros k) j) (signed_value r.0 i) (signed_value r.0 j)
              (signed_append r.0 (zeros k) i (omega (arith, w, p))) (signed_append r.0 (zeros k) j (omega (arith, w, q))) r.2,
        )

    as_old : (s : List ℤ) → IsStore (n + k) (entries (n + k) new) s → IsStore (n + k) (entries n old) s
    as_old s store = record { width = store.width; below = λ a b p q. le_trans (store.below a b p q) (le_same (e a b)) }

    outer : (x : ℕ) → n ≤ x → x < n + k → (i / 2 ≡ x) ⊎ (j / 2 ≡ x)
        → (s : List ℤ) × IsStore (n + k) (entries (n + k) new) s × (c ≤ℤ (signed_value s j -ℤ signed_value s i))
    outer x far place at =
        let r = tight_has n old is t in
        let s = r.0 ++ zeros k in
        let store = longer r.0 r.1 in
        let wide : x < length s = (let q = store.width in omega (arith, q, place)) in
        elim (eqb_tells i j) [
          | inl d ↦ (s, store, self_far c s i j (entries n old i j) d.1 le (on_diagonal n old i j is d.1))
          | inr d ↦ free_reach (n + k) x new s i j c wide
              (λ v. forgotten_store (n + k) x (entries n old) (entries (n + k) new) s v (λ a b. e a b ∙ far_free n x old far a b) (as_old s store)) d.1 at
        ]

pub embedded_tight : (n k : ℕ) (old new : Option Cells) → CellsFit n old → Becomes (n + k) (λ m. m) n old new → IsTightOrNone n old
    → IsTightOrNone (n + k) new
embedded_tight n k None new fit b t = subst (λ (o : Option Cells). IsTightOrNone (n + k) o) (sym b) tt
embedded_tight n k (Some old) None fit b t = absurd b
embedded_tight n k (Some old) (Some new) fit b t = record {
  attained = λ i j h l c le. embedded_reach n k old new fit.is b.1 t i j h l c (le_trans le (le_same (b.1 i j)));
}

-- ---- assignments
within_fits : (o : Option ℤ) → EntryInRange o → within_range o ≡ o
within_fits None fits = refl
within_fits (Some v) fits = rw (in_range_yes v fits) refl

shifts_done : (n : ℕ) (flips : Bool) (x : ℕ) (c : ℤ) (old new : Cells) → Shifts n flips x c old new → ShiftedTo n flips x c old new false
shifts_done n flips x c old new by = record {
  is = by.is;
  exact = λ f. by.entries;
  flagged = λ f. absurd (cc);
  entries = λ i j h k. by.entries i j h k ∙ sym (within_fits (shifted flips x c (entries n old) i j)
      (subst (λ (o : Option ℤ). EntryInRange o) (by.entries i j h k) (by.is.range i j)));
}

assigned_tight : (n x : ℕ) (e : Form) (a : Assignment) (old : Cells) (new : Option Cells) → x < n → a ≡ assignment_of x (shape e)
    → AssignsTo n x e a old new → IsTight n (entries n old) → IsTightOrNone n new
assigned_tight n x e (Shift flips) old None place is by t = absurd by
assigned_tight n x e (Shift flips) old (Some new) place is by t =
    let own = is_shift x flips (shape e) is in
    shifted_tight n flips x own.signed e.constant old new place own.own own.sign (shifts_done n flips x e.constant old new by) t
assigned_tight n x e (Equate i) old new place is by t = closure_tight n (entries n (equated x i e.constant by.0)) new by.2
assigned_tight n x e Bound old new place is by t = closure_tight n (bounded (alone n x (form_interval n (entries n old) e)) (entries n by.0)) new by.2

pub assigns_tight : (n x : ℕ) (e : Form) (old new : Option Cells) → x < n → Assigns n x e old new → IsTightOrNone n old → IsTightOrNone n new
assigns_tight n x e None new place by t = subst (λ (o : Option Cells). IsTightOrNone n o) (sym by) tt
assigns_tight n x e (Some old) new place by t = assigned_tight n x e (assignment_of x (shape e)) old new place refl by t

-- all but shifts are closings, so nothing is asked of the old matrix
unshifted : (n x : ℕ) (e : Form) (a : Assignment) (old : Cells) (new : Option Cells) → ((flips : Bool) → a ≢ Shift flips)
    → AssignsTo n x e a old new → IsTightOrNone n new
unshifted n x e (Shift flips) old new ne by = absurd (ne flips refl)
unshifted n x e (Equate i) old new ne by = closure_tight n (entries n (equated x i e.constant by.0)) new by.2
unshifted n x e Bound old new ne by = closure_tight n (bounded (alone n x (form_interval n (entries n old) e)) (entries n by.0)) new by.2

pub unshifted_tight : (n x : ℕ) (e : Form) (old new : Option Cells) → ((flips : Bool) → assignment_of x (shape e) ≢ Shift flips)
    → Assigns n x e old new → IsTightOrNone n new
unshifted_tight n x e None new ne by = subst (λ (o : Option Cells). IsTightOrNone n o) (sym by) tt
unshifted_tight n x e (Some old) new ne by = unshifted n x e (assignment_of x (shape e)) old new ne by

-- ---- tests
bounds_tight : (n : ℕ) (old : Cells) (is : Option (List Interval)) (new : Option Cells) → BoundsTo n old is new → IsTightOrNone n new
bounds_tight n old None new by = subst (λ (o : Option Cells). IsTightOrNone n o) (sym by) tt
bounds_tight n old (Some is) new by = closure_tight n (bounded is (entries n old)) new by

tested_tight : (n : ℕ) (e : Form) (s : FormShape) (old new : Option Cells) → TestsTo n e s old new → IsTightOrNone n old → IsTightOrNone n new
tested_tight n e s None new by t = subst (λ (o : Option Cells). IsTightOrNone n o) (sym by) tt
tested_tight n e Constant (Some old) new by t =
    subst (λ (o : Option Cells). IsTightOrNone n o) (sym by) (either (int_lt e.constant (pos 0)))
  where
    either : (b : Bool) → IsTightOrNone n (cond b None (Some old))
    either true = tt
    either false = t
tested_tight n e (One m i) (Some old) new by t = closure_tight n (entries n (at_least i i (quotient e m +ℤ quotient e m) old)) new by
tested_tight n e (Two m i j) (Some old) new by t = closure_tight n (entries n (at_least i j (quotient e m) old)) new by
tested_tight n e Other (Some old) new by t = bounds_tight n old (ge_tested e.constant e.coefficients (Some (intervals n (entries n old)))) new by

pub tests_tight : (n : ℕ) (kind : ConKind) (e : Form) (old new : Option Cells) → Tests kind n e old new → IsTightOrNone n old → IsTightOrNone n new
tests_tight n Ge e old new by t = tested_tight n e (shape e) old new by t
tests_tight n Eq e old new by t =
    tested_tight n (minus_form e) (shape (minus_form e)) by.0 new by.2 (tested_tight n e (shape e) old by.0 by.1 t)

-- all but those of a constant are closings
varied : (n : ℕ) (e : Form) (s : FormShape) (old new : Option Cells) → s ≢ Constant → TestsTo n e s old new → IsTightOrNone n new
varied n e s None new ne by = subst (λ (o : Option Cells). IsTightOrNone n o) (sym by) tt
varied n e Constant (Some old) new ne by = absurd (ne refl)
varied n e (One m i) (Some old) new ne by = closure_tight n (entries n (at_least i i (quotient e m +ℤ quotient e m) old)) new by
varied n e (Two m i j) (Some old) new ne by = closure_tight n (entries n (at_least i j (quotient e m) old)) new by
varied n e Other (Some old) new ne by = bounds_tight n old (ge_tested e.constant e.coefficients (Some (intervals n (entries n old)))) new by

pub varied_tight : (n : ℕ) (kind : ConKind) (e : Form) (old new : Option Cells) → shape e ≢ Constant → Tests kind n e old new → IsTightOrNone n new
varied_tight n Ge e old new ne by = varied n e (shape e) old new ne by
varied_tight n Eq e old new ne by =
    tested_tight n (minus_form e) (shape (minus_form e)) by.0 new by.2 (varied n e (shape e) old by.0 ne by.1)

-- ---- a test that lowers no entry of a tight matrix is the matrix
pair_unchanged : (n i j : ℕ) (q : ℤ) (cells : Cells) → i < 2 * n → j < 2 * n → IsMatrix n cells → IsTight n (entries n cells)
    → entries n cells i j ⊑ Some q → IsClosure n (entries n (entered i j (Some q) cells)) (Some cells)
pair_unchanged n i j q cells h k is t below = record {
  is = is;
  tight = t;
  kept = λ s store. (entered_back n i j (Some q) cells s h k is store).0;
  same = λ s store. entered_store n i j (Some q) cells s h k is store (le_trans (store.below i j h k) below);
}

shape_unchanged : (n : ℕ) (e : Form) (s : FormShape) (cells : Cells) → ShapeFits (2 * n) s → IsMatrix n cells → IsTight n (entries n cells)
    → ShapeUnchanged n e s cells → TestsTo n e s (Some cells) (Some cells)
shape_unchanged n e Constant cells fits m t u =
    let above : pos 0 ≤ℤ e.constant = u in
    let not_below : int_lt e.constant (pos 0) ≡ false = grind (arith, ints) in rw not_below refl
shape_unchanged n e (One k i) cells fits m t u =
    pair_unchanged n i (opposite i) (quotient e k +ℤ quotient e k) cells fits.0 (opposite_below n i fits.0) m t u
shape_unchanged n e (Two k i j) cells fits m t u =
    pair_unchanged n i (opposite j) (quotient e k) cells fits.0 (opposite_below n j fits.1) m t u
shape_unchanged n e Other cells fits m t u = absurd u

pub unchanged_tests : (n : ℕ) (e : Form) (s : FormShape) (cells : Cells) → s ≡ shape e → ShapeFits (2 * n) s → IsMatrix n cells
    → IsTight n (entries n cells) → ShapeUnchanged n e s cells → TestsTo n e (shape e) (Some cells) (Some cells)
unchanged_tests n e s cells is fits m t u =
    subst (λ (x : FormShape). TestsTo n e x (Some cells) (Some cells)) is (shape_unchanged n e s cells fits m t u)

-- ---- the shape of the opposite form
abbrev turned : Term → Term
turned t = record { signed = opposite t.signed; magnitude = t.magnitude }

turned_at : (k : ℕ) (c : ℤ) (ts us : List Term) → us ≡ map turned ts → terms_at k (neg_ℤ c) us ≡ map turned (terms_at k c ts)
turned_at k (pos zero) ts us e = e
turned_at k (pos (suc m)) ts us e = rw (opposite_plus k, e) refl
turned_at k (negsuc m) ts us e = rw (opposite_minus k, e) refl

turned_from : (k : ℕ) (cs : List ℤ) → terms_from k (map neg_ℤ cs) ≡ map turned (terms_from k cs)
turned_from k [] = refl
turned_from k (c ∷ cs) = turned_at k c (terms_from (suc k) cs) (terms_from (suc k) (map neg_ℤ cs)) (turned_from (suc k) cs)

turned_shape : (ts : List Term) → shape_of (map turned ts) ≡ opposite_shape (shape_of ts)
turned_shape [] = refl
turned_shape (t ∷ []) = refl
turned_shape (t ∷ u ∷ []) = either (t.magnitude == u.magnitude)
  where
    either : (b : Bool) → cond b (Two t.magnitude (opposite t.signed) (opposite u.signed)) Other
        ≡ opposite_shape (cond b (Two t.magnitude t.signed u.signed) Other)
    either true = refl
    either false = refl
turned_shape (t ∷ u ∷ w ∷ ts) = refl

pub opposite_is : (e : Form) → shape (minus_form e) ≡ opposite_shape (shape e)
opposite_is e = ap shape_of (turned_from 0 e.coefficients) ∙ turned_shape (terms_from 0 e.coefficients)

-- so is a test of either kind that lowers none
pub met_ge : (n : ℕ) (kind : ConKind) (e : Form) (s : FormShape) (cells : Cells) → kind ≡ Ge → s ≡ shape e → ShapeFits (2 * n) s
    → IsMatrix n cells → IsTight n (entries n cells) → ShapeUnchanged n e s cells → Tests kind n e (Some cells) (Some cells)
met_ge n kind e s cells which is fits m t u =
    subst (λ (k : ConKind). Tests k n e (Some cells) (Some cells)) (sym which) (unchanged_tests n e s cells is fits m t u)

pub met_eq : (n : ℕ) (kind : ConKind) (e : Form) (s r : FormShape) (cells : Cells) → kind ≡ Eq → s ≡ shape e → r ≡ opposite_shape s
    → ShapeFits (2 * n) s → ShapeFits (2 * n) r → IsMatrix n cells → IsTight n (entries n cells)
    → ShapeUnchanged n e s cells → ShapeUnchanged n (minus_form e) r cells → Tests kind n e (Some cells) (Some cells)
met_eq n kind e s r cells which is turns fits fit m t u v =
    subst (λ (k : ConKind). Tests k n e (Some cells) (Some cells)) (sym which) (
      Some cells,
      unchanged_tests n e s cells is fits m t u,
      unchanged_tests n (minus_form e) r cells (turns ∙ ap opposite_shape is ∙ sym (opposite_is e)) fit m t v,
    )

-- ---- all changes
at_dims : (b : OctagonContent) (n : ℕ) → b.dims ≡ n → IsTightOrNone n b.cells → IsTightOctagon b
at_dims b n e t = subst (λ (k : ℕ). IsTightOrNone k b.cells) (sym e) t

pub steps_tight : (step : Action) (a b : OctagonContent) → CellsFit a.dims a.cells → ActionFits step a.dims → IsTightOctagon a → OctagonTransfersTo step a b
    → IsTightOctagon b
steps_tight (assign x e) a b fit fits t by = at_dims b a.dims by.0 (assigns_tight a.dims x e a.cells b.cells fits.0 by.1 t)
steps_tight (forget x) a b fit fits t by = at_dims b a.dims by.0 (forgotten_tight a.dims x a.cells b.cells fits fit by.1 t)
steps_tight (test kind e) a b fit fits t by = at_dims b a.dims by.0 (tests_tight a.dims kind e a.cells b.cells by.1 t)
steps_tight (embed k) a b fit fits t by = at_dims b (a.dims + k) by.0 (embedded_tight a.dims k a.cells b.cells fit by.1 t)
steps_tight (remove_last k) a b fit fits t by =
    at_dims b (a.dims - k) by.0 (first_tight a.dims (a.dims - k) a.cells b.cells (omega (arith, fits)) by.1 t)

-- ---- the laws of tight octagons
pub universe_tight : (n cap : ℕ) (a : OctagonContent) → octagon_abstraction.top n cap a → IsTightOctagon a
universe_tight n cap a w = at_dims a n w.0 (whole_tight n a.cells w.1)

pub void_tight : (n cap : ℕ) (a : OctagonContent) → octagon_abstraction.bottom n cap a → IsTightOctagon a
void_tight n cap a e = subst (λ (c : OctagonContent). IsTightOctagon c) (sym e) tt

pub join_tight : (a b c : OctagonContent) → octagon_abstraction.well_formed a → octagon_abstraction.well_formed b → a.dims ≡ b.dims → IsTightOctagon a →
    IsTightOctagon b
    → octagon_abstraction.joined a b c → IsTightOctagon c
join_tight a b c f g same t u e = subst (λ (d : OctagonContent). IsTightOctagon d) (sym e) (joined_tight a.dims a.cells b.cells f
    (subst (λ (k : ℕ). CellsFit k b.cells) (sym same) g) t (subst (λ (k : ℕ). IsTightOrNone k b.cells) (sym same) u))

pub value_tight : (h a : OctagonContent) → octagon_abstraction.valued h a → IsTightOctagon a
value_tight h a v = at_dims a h.dims v.0 (closed_tight h.dims h.cells a.cells v.1)
