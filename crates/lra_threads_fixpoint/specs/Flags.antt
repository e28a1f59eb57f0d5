-- What a first flag of all rounds reports.
use Rattle.std.specs.Prelude.{◌≡◌, ◌<◌, ◌-◌, ℕ, List, length, None, Some, slice_get}
use Rattle.lra_domain.specs.Interference.{Interference}
use Rattle.lra_box.specs.Content.{BoxContent}
use Rattle.lra_threads_fixpoint.specs.Intervals.{IntervalTable, TableWithin, next_table}
use Rattle.lra_threads_fixpoint.specs.{Interference.threads_interference, Rounds.ResultReadings, Rounds.IsRound}

-- The rounds go, each thread as IsFound says and without a flag, up to an analysis that exceeds a limit: of this
-- thread, at this point. Strains k others q: an analysis of the k-th thread among these others exceeds a limit at q.
pub data ComesToStrain {R : Type 0} (finding : ResultReadings R) (globals : ℕ)
    (IsFound : ℕ → Interference BoxContent → R → Type 0)
    (Strains : ℕ → Interference BoxContent → ℕ → Type 0) (count : ℕ) : ℕ → IntervalTable → ℕ → ℕ → Type 0 where
  here : (left : ℕ) (table : IntervalTable) (k q : ℕ) (before : List R) → k < count → length before ≡ k
      → ((j : ℕ) (r : R) → slice_get before j ≡ Some r →
      IsFound j (threads_interference globals j table) r × (finding.flag r ≡ None))
      → Strains k (threads_interference globals k table) q
      → ComesToStrain finding globals IsFound Strains count left table k q
  later : (left : ℕ) (table written : IntervalTable) (k q : ℕ) (found : List R)
      → IsRound finding globals IsFound count None table found written None → ¬ TableWithin written table
      → ComesToStrain finding globals IsFound Strains count (left - 1) (next_table left table written) k q
      → ComesToStrain finding globals IsFound Strains count left table k q
