-- What entering the upper bounds of signed variables gives.
use Rattle.std.specs.Prelude.{◌≡◌, ℕ, ◌*◌, ◌<◌, ℤ, List, Option, Some, true, ◌⊎◌}
use Rattle.lra_domain.specs.declared.Exactness.{Exactness}
use Rattle.lra_domain.specs.declared.Exactness.TheVariants.{Exact, Flagged}
use Rattle.lra_box.specs.declared.interval.Interval.{Interval}
use Rattle.lra_dbm.specs.{Cells.Cells, Cells.entries, Cells.IsMatrix, Closure.IsClosure, Entry.◌⊑◌, Entry.◌⊞◌}
use Rattle.lra_dbm.specs.{Entry.lesser, Entry.passes_range, Tight.opposite, Tight.signed_value, Tight.IsStore}
use Rattle.lra_octagon.specs.Content.{CellsFit, has_store}
use Rattle.lra_octagon.specs.Tables.{upper, bounded, Bounds, SomePasses, BoundedPasses}

-- signed variable i was made at most v: its stores stay; twice v was entered, or left out if it passes the range
pub record BoundsOne (n i : ℕ) (v : Option ℤ) (old new : Cells) (e : Exactness) : Type 0 where
  pub is : IsMatrix n new
  pub stores : (s : List ℤ) → IsStore n (entries n old) s → Some (signed_value s i) ⊑ v → IsStore n (entries n new) s
  pub here : e ≡ Exact → entries n new (opposite i) i ≡ lesser (entries n old (opposite i) i) (v ⊞ v)
  pub apart : (a b : ℕ) → (a ≡ opposite i → b ≡ i → ⊥) → entries n new a b ≡ entries n old a b
  pub flagged : e ≡ Flagged → passes_range (v ⊞ v) ≡ true

-- each variable was made to lie in its interval
pub record BoundsAll (n : ℕ) (ends : List Interval) (old new : Cells) (e : Exactness) : Type 0 where
  pub is : IsMatrix n new
  pub stores : (s : List ℤ) → IsStore n (entries n old) s
      → ((j : ℕ) → j < 2 * n → Some (signed_value s j) ⊑ upper ends j) → IsStore n (entries n new) s
  pub exact : e ≡ Exact → Bounds n ends old new
  pub flagged : e ≡ Flagged → SomePasses n ends

-- each variable was made to lie in its interval, then the matrix closed
pub record BoundedTo (n : ℕ) (ends : List Interval) (old : Cells) (new : Option Cells) (e : Exactness) : Type 0 where
  pub stores : (s : List ℤ) → IsStore n (entries n old) s
      → ((j : ℕ) → j < 2 * n → Some (signed_value s j) ⊑ upper ends j) → has_store n new s
  pub exact : e ≡ Exact → IsClosure n (bounded ends (entries n old)) new
  pub flagged : e ≡ Flagged → SomePasses n ends ⊎ BoundedPasses n ends old
  pub fit : CellsFit n new
