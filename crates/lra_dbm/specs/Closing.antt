-- The five steps together, and what they are to give.
use Rattle.std.specs.Prelude.{◌≡◌, ℕ, ◌*◌, ◌||◌, Bool, true, false, cond, ℤ, pos, Some, List}
use Rattle.lra_dbm.specs.Steps.{Progress, shortest, negative_diagonal, all_rounded, crossed, crossing_passes}
use Rattle.lra_dbm.specs.{Cells.Cells, Cells.entries, Steps.all_strengthened, Tight.IsStore, Tight.IsTight}

-- whether closing found the matrix empty, and how far it came
pub record AfterClosing : Type 0 where
  pub empty : Bool
  pub progress : Progress

-- the sums of the bounds are looked at
abbrev pub after_crossing : ℕ → Progress → Progress
after_crossing n p = record p { flagged = p.flagged || crossing_passes p.cells (2 * n) }

-- there is no store, and that is exact, whatever number passed before
abbrev pub found_empty : Progress → AfterClosing
found_empty p = record { empty = true; progress = record p { flagged = false } }

abbrev pub from_rounded : ℕ → Progress → AfterClosing
from_rounded n p = cond (crossed p.cells (2 * n)) (found_empty p)
    (record { empty = false; progress = all_strengthened n (2 * n) (after_crossing n p) })

abbrev pub from_shortest : ℕ → Progress → AfterClosing
from_shortest n p = cond (negative_diagonal p.cells (2 * n)) (found_empty p) (from_rounded n (all_rounded (2 * n) p))

abbrev pub closing : ℕ → Cells → AfterClosing
closing n cells = from_shortest n (shortest n (2 * n) (record { cells = cells; flagged = false }))

-- after closing: no store if it answers that there is none, which is never flagged, else the same stores and a
-- diagonal of 0; and the matrix is tight if no number passed the range
pub record Closes (n : ℕ) (old new : Cells) (empty flagged : Bool) : Type 0 where
  pub none : empty ≡ true → (s : List ℤ) → IsStore n (entries n old) s → ⊥
  pub exact : empty ≡ true → flagged ≡ false
  pub kept : (s : List ℤ) → IsStore n (entries n old) s → IsStore n (entries n new) s
  pub same : (s : List ℤ) → IsStore n (entries n new) s → IsStore n (entries n old) s
  pub diagonal : empty ≡ false → (i : ℕ) → entries n new i i ≡ Some (pos 0)
  pub tight : empty ≡ false → flagged ≡ false → IsTight n (entries n new)
