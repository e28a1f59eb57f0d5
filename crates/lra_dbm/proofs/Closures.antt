-- Closures: there is one, and it lies below each matrix that has its stores.
use Rattle.std.proofs.Common.{◌≡◌, ℕ, zero, suc, ◌*◌, ◌<◌, inl, inr, ℤ, pos, List, [], length, Option, None, Some, refl, sym, ap, arith}
use Rattle.std.proofs.{lemmas.Bool.Decides.eqb_tells, lemmas.Int.ints}
use Rattle.std.specs.Prelude.{◌-ℤ◌}
use Rattle.lra_dbm.specs.Tight.{Entries, IsStore, IsTight, signed_value}
use Rattle.lra_dbm.specs.{Cells.Cells, Cells.size, Cells.outside, Cells.entries, Cells.IsMatrix, Closure.IsTightWith, Closure.IsClosure, Entry.◌⊑◌, Pointwise.CellsWithin}
use Rattle.lra_dbm.proofs.EntryLemmas.{le_refl, le_same, le_none, le_trans}
use Rattle.lra_dbm.proofs.PointwiseLemmas.{within_both, within_entries, entries_within, tight_least}

-- every list of n numbers is a store if only the diagonal is finite
pub all_are_stores : (n : ℕ) (m : Entries) (s : List ℤ) → ((i j : ℕ) → m i j ≡ outside i j) → length s ≡ n → IsStore n m s
all_are_stores n m s e width = record {
  width = width;
  below = λ i j h k. le_trans (anywhere i j) (le_same (sym (e i j)));
}
  where
    anywhere : (i j : ℕ) → Some (signed_value s j -ℤ signed_value s i) ⊑ outside i j
    anywhere i j = elim (eqb_tells i j) as (λ _. Some (signed_value s j -ℤ signed_value s i) ⊑ outside i j) [
      | inl t ↦ rw (t.0, t.1) (record { at_most = omega (arith, ints) })
      | inr t ↦ rw t.0 (le_none (Some (signed_value s j -ℤ signed_value s i)))
    ]

pub within_stores : (n : ℕ) (cs ds : Cells) (s : List ℤ) → CellsWithin cs ds → IsStore n (entries n cs) s → IsStore n (entries n ds) s
within_stores n cs ds s w h = record { width = h.width; below = λ i j a b. le_trans (h.below i j a b) (within_entries n cs ds w i j) }

-- lists of cells with the same entries are equal
pub same_entries_cells : (n : ℕ) (cs ds : Cells) → length cs ≡ size n → length ds ≡ size n
    → ((i j : ℕ) → i < 2 * n → j < 2 * n → entries n cs i j ≡ entries n ds i j) → cs ≡ ds
same_entries_cells n cs ds e f same = within_both cs ds
    (entries_within n cs ds e f (λ i j h k. le_same (same i j h k)))
    (entries_within n ds cs f e (λ i j h k. le_same (sym (same i j h k))))

-- a tight matrix lies below each one that has its stores
pub tight_within : (n : ℕ) (cs ds : Cells) → IsMatrix n cs → IsTight n (entries n cs) → length ds ≡ size n
    → ((s : List ℤ) → IsStore n (entries n cs) s → IsStore n (entries n ds) s) → CellsWithin cs ds
tight_within n cs ds is tight full has = entries_within n cs ds is.full full (tight_least n (entries n cs) (entries n ds) tight has)

pub closure_below : (n : ℕ) (cells ds : Cells) → length cells ≡ size n → IsTightWith n (entries n cells) ds → CellsWithin ds cells
closure_below n cells ds full c = tight_within n ds cells c.is c.tight full c.same

-- a tight matrix has a store
pub tight_has : (n : ℕ) (cells : Cells) → IsMatrix n cells → IsTight n (entries n cells) → (s : List ℤ) × IsStore n (entries n cells) s
tight_has zero cells is tight = ([], record { width = refl; below = λ i j h k. absurd (omega arith) })
tight_has (suc n) cells is tight = some (entries (suc n) cells 0 0) (le_refl (entries (suc n) cells 0 0))
  where
    some : (o : Option ℤ) → o ⊑ entries (suc n) cells 0 0 → (s : List ℤ) × IsStore (suc n) (entries (suc n) cells) s
    some (Some c) h = let r = tight.attained 0 0 (omega arith) (omega arith) c h in (r.0, r.1)
    some None h = let r = tight.attained 0 0 (omega arith) (omega arith) (pos 0) (le_trans (le_none (Some (pos 0))) h) in (r.0, r.1)

-- there is one closure
pub same_closure : (n : ℕ) (m : Entries) (a b : Option Cells) → IsClosure n m a → IsClosure n m b → a ≡ b
same_closure n m None None p q = refl
same_closure n m None (Some ds) p q = let r = tight_has n ds q.is q.tight in absurd (p r.0 (q.same r.0 r.1))
same_closure n m (Some cs) None p q = let r = tight_has n cs p.is p.tight in absurd (q r.0 (p.same r.0 r.1))
same_closure n m (Some cs) (Some ds) p q = ap Some (within_both cs ds
    (tight_within n cs ds p.is p.tight q.is.full (λ s h. q.kept s (p.same s h)))
    (tight_within n ds cs q.is q.tight p.is.full (λ s h. p.kept s (q.same s h))))
