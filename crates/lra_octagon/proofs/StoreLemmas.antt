-- Stores of matrices whose variables are forgotten, come or go.
use Rattle.std.proofs.Common.{◌≡◌, ◌≢◌, ℕ, zero, suc, ◌+◌, ◌-◌, ◌*◌, ◌/◌, ◌%◌, ◌≤◌, ◌<◌, inl, inr, ℤ, List, [], ◌∷◌, ◌++◌, length, length-append, take, Option, None, Some, refl, sym, ap, ◌∙◌, subst}
use Rattle.std.proofs.{Common.arith, Common.cond, Math.ListN.length-set, lemmas.Bool.Decides.eqb_tells, lemmas.Bool.Decides.leb_tells, lemmas.Int.ints}
use Rattle.std.specs.Prelude.{◌==◌, ◌||◌, ◌-ℤ◌, nat_lt, slice_set}
use Rattle.lra_linear_spec.specs.Vectors.{entry}
use Rattle.lra_linear_spec.proofs.Products.{entry_set_other}
use Rattle.lra_dbm.specs.{Cells.Cells, Cells.entries, Cells.outside, Cells.forgotten, Cells.first_entries, Entry.◌⊑◌, Tight.Entries, Tight.with_sign, Tight.signed_value, Tight.IsStore}
use Rattle.lra_dbm.proofs.{CellLemmas.inside_or_out, EntryLemmas.le_same, EntryLemmas.le_none, EntryLemmas.le_trans}
use Rattle.lra_octagon.specs.{Content.has_store, Tables.Becomes}

-- ---- numbers of a store

number_append : (s t : List ℤ) (k : ℕ) → k < length s → entry (s ++ t) k ≡ entry s k
number_append [] t k h = absurd (omega arith)
number_append (y ∷ s) t zero h = refl
number_append (y ∷ s) t (suc k) h = number_append s t k (omega arith)

number_take : (m : ℕ) (s : List ℤ) (k : ℕ) → k < m → entry (take m s) k ≡ entry s k
number_take zero s k h = absurd (omega arith)
number_take (suc m) [] k h = refl
number_take (suc m) (y ∷ s) zero h = refl
number_take (suc m) (y ∷ s) (suc k) h = number_take m s k (omega arith)

pub signed_other : (s : List ℤ) (x i : ℕ) (v : ℤ) → i / 2 ≢ x → signed_value (slice_set s x v) i ≡ signed_value s i
unfolding signed_value
signed_other s x i v ne = ap (with_sign (i % 2)) (entry_set_other s x (i / 2) v ne)

pub signed_append : (s t : List ℤ) (i : ℕ) → i < 2 * length s → signed_value (s ++ t) i ≡ signed_value s i
unfolding signed_value
signed_append s t i h = ap (with_sign (i % 2)) (number_append s t (i / 2) (omega arith))

pub signed_take : (m : ℕ) (s : List ℤ) (i : ℕ) → i < 2 * m → signed_value (take m s) i ≡ signed_value s i
unfolding signed_value
signed_take m s i h = ap (with_sign (i % 2)) (number_take m s (i / 2) (omega arith))

-- ---- differences

difference_same : (a b c d : ℤ) (o : Option ℤ) → a ≡ c → b ≡ d → Some (c -ℤ d) ⊑ o → Some (a -ℤ b) ⊑ o
difference_same a b c d o e f h = rw (e, f) h

self_difference : (a b : ℤ) (o : Option ℤ) → Some (b -ℤ b) ⊑ o → Some (a -ℤ a) ⊑ o
self_difference a b o h = let e : a -ℤ a ≡ b -ℤ b = omega (arith, ints) in rw e h

-- ---- forgetting

pub forgotten_store : (n x : ℕ) (m new : Entries) (s : List ℤ) (v : ℤ) → ((i j : ℕ) → new i j ≡ forgotten x m i j) → IsStore n m s → IsStore n new (slice_set s x v)
forgotten_store n x m new s v e is = record {
  width = length-set {A = ℤ} s x v ∙ is.width;
  below = λ i j h k. le_trans (at i j h k) (le_same (sym (e i j)));
}
  where
    at : (i j : ℕ) → i < 2 * n → j < 2 * n → Some (signed_value (slice_set s x v) j -ℤ signed_value (slice_set s x v) i) ⊑ forgotten x m i j
    at i j h k = elim (eqb_tells i j) as (λ _. Some (signed_value (slice_set s x v) j -ℤ signed_value (slice_set s x v) i) ⊑ forgotten x m i j) [
      | inl t ↦ rw t.0 (difference_same (signed_value (slice_set s x v) j) (signed_value (slice_set s x v) i) (signed_value (slice_set s x v) i) (signed_value (slice_set s x v) i) (m i j)
          (ap (signed_value (slice_set s x v)) (sym t.1)) refl
          (self_difference (signed_value (slice_set s x v) i) (signed_value s i) (m i j) (le_trans (is.below i i h h) (le_same (ap (m i) t.1)))))
      | inr t ↦ rw t.0 (elim (eqb_tells (i / 2) x) as (λ _. Some (signed_value (slice_set s x v) j -ℤ signed_value (slice_set s x v) i) ⊑ cond (i / 2 == x || j / 2 == x) None (m i j)) [
        | inl f ↦ rw f.0 (le_none (Some (signed_value (slice_set s x v) j -ℤ signed_value (slice_set s x v) i)))
        | inr f ↦ rw f.0 (elim (eqb_tells (j / 2) x) as (λ _. Some (signed_value (slice_set s x v) j -ℤ signed_value (slice_set s x v) i) ⊑ cond (j / 2 == x) None (m i j)) [
          | inl g ↦ rw g.0 (le_none (Some (signed_value (slice_set s x v) j -ℤ signed_value (slice_set s x v) i)))
          | inr g ↦ rw g.0 (difference_same (signed_value (slice_set s x v) j) (signed_value (slice_set s x v) i) (signed_value s j) (signed_value s i) (m i j)
              (signed_other s x j v g.1) (signed_other s x i v f.1) (is.below i j h k))
        ])
      ])
    ]

pub becomes_forgotten : (n x : ℕ) (old new : Option Cells) (s : List ℤ) (v : ℤ) → Becomes n (forgotten x) n old new → has_store n old s → has_store n new (slice_set s x v)
becomes_forgotten n x None new s v b h = absurd h
becomes_forgotten n x (Some old) None s v b h = absurd b
becomes_forgotten n x (Some old) (Some new) s v b h = forgotten_store n x (entries n old) (entries n new) s v b.1 h

-- ---- variables that come or go

pub embedded_store : (n k : ℕ) (old new : Cells) (s t : List ℤ) → length t ≡ k → ((i j : ℕ) → entries (n + k) new i j ≡ entries n old i j)
    → IsStore n (entries n old) s → IsStore (n + k) (entries (n + k) new) (s ++ t)
embedded_store n k old new s t long e is = record {
  width = length-append s t ∙ (let w = is.width in omega (arith, w, long));
  below = λ i j h l. le_trans (at i j) (le_same (sym (e i j)));
}
  where
    at : (i j : ℕ) → Some (signed_value (s ++ t) j -ℤ signed_value (s ++ t) i) ⊑ entries n old i j
    at i j = elim (inside_or_out n i j) [
      | inl l ↦ difference_same (signed_value (s ++ t) j) (signed_value (s ++ t) i) (signed_value s j) (signed_value s i) (entries n old i j) (signed_append s t j (let w = is.width in
          let q = l.1 in omega arith)) (signed_append s t i (let w = is.width in let q = l.0 in omega arith))
          (is.below i j l.0 l.1)
      | inr out ↦ le_trans (elim (eqb_tells i j) as (λ _. Some (signed_value (s ++ t) j -ℤ signed_value (s ++ t) i) ⊑ outside i j) [
        | inl f ↦ rw (f.0, f.1) (record { at_most = omega (arith, ints) })
        | inr f ↦ rw f.0 (le_none (Some (signed_value (s ++ t) j -ℤ signed_value (s ++ t) i)))
      ]) (le_same (sym (out old)))
    ]

pub becomes_embedded : (n k : ℕ) (old new : Option Cells) (s t : List ℤ) → length t ≡ k → Becomes (n + k) (λ m. m) n old new → has_store n old s → has_store (n + k) new (s ++ t)
becomes_embedded n k None new s t e b h = absurd h
becomes_embedded n k (Some old) None s t e b h = absurd b
becomes_embedded n k (Some old) (Some new) s t e b h = embedded_store n k old new s t e b.1 h

length_taken : (m : ℕ) (s : List ℤ) → m ≤ length s → length (take m s) ≡ m
length_taken zero s h = refl
length_taken (suc m) [] h = absurd (omega arith)
length_taken (suc m) (y ∷ s) h = omega (arith, length_taken m s (omega arith))

pub first_store : (n k : ℕ) (old new : Cells) (s : List ℤ) → k ≤ n → ((i j : ℕ) → entries k new i j ≡ first_entries k (entries n old) i j)
    → IsStore n (entries n old) s → IsStore k (entries k new) (take k s)
first_store n k old new s less e is = record {
  width = length_taken k s (let w = is.width in omega arith);
  below = λ i j h l. le_trans (difference_same (signed_value (take k s) j) (signed_value (take k s) i) (signed_value s j) (signed_value s i) (entries n old i j)
      (signed_take k s j l) (signed_take k s i h) (is.below i j (omega arith) (omega arith)))
      (le_same (sym (e i j ∙ inside i j h l)));
}
  where
    inside : (i j : ℕ) → i < 2 * k → j < 2 * k → first_entries k (entries n old) i j ≡ entries n old i j
    inside i j h l = elim (leb_tells (suc i) (2 * k)) as (λ _. first_entries k (entries n old) i j ≡ entries n old i j) [
      | inr f ↦ absurd (let q = f.1 in omega arith)
      | inl f ↦ rw f.0 (elim (leb_tells (suc j) (2 * k))
          as (λ _. cond (nat_lt j (2 * k)) (entries n old i j) (outside i j) ≡ entries n old i j) [ inr g ↦ absurd (let q = g.1 in omega arith) | inl g ↦ rw g.0 refl ])
    ]

pub becomes_first : (n k : ℕ) (old new : Option Cells) (s : List ℤ) → k ≤ n → Becomes (n - k) (first_entries (n - k)) n old new → has_store n old s → has_store (n - k) new (take (length s - k) s)
becomes_first n k None new s less b h = absurd h
becomes_first n k (Some old) None s less b h = absurd b
becomes_first n k (Some old) (Some new) s less b h =
    subst (λ (w : ℕ). IsStore (n - k) (entries (n - k) new) (take (w - k) s)) (sym h.width) (first_store n (n - k) old new s (omega arith) b.1 h)
