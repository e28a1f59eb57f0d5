-- Threads are analysed in rounds, each thread among what the others wrote so far, until nothing is written that wasn't
-- reported. What an analysis of one thread is stands open here: a relation.
use Rattle.std.specs.Prelude.{◌≡◌, ◌-◌, ℕ, suc, List, [], ◌∷◌, length, map, Option, None, Some, slice_get}
use Rattle.lra_domain.specs.Interference.{Interference}
use Rattle.lra_box.specs.Content.{BoxContent}
use Rattle.lra_threads_fixpoint.specs.Interference.{threads_interference, written_by}
use Rattle.lra_threads_fixpoint.specs.Intervals.{IntervalTable, empty_table, TableWithin, next_table}

-- the rounds that join
abbrev pub joining_rounds : ℕ
joining_rounds = 2

-- What is found of a thread, R: its notes (variables, each with the value after a write to it), and its first flagged
-- point.
pub record ResultReadings (R : Type 0) : Type 0 where
  pub notes : R → List (ℕ × BoxContent)
  pub flag : R → Option ℕ

abbrev pub flag_of : ℕ → Option ℕ → Option (ℕ × ℕ) → Option (ℕ × ℕ)
flag_of k None later = later
flag_of k (Some q) later = Some (k, q)

-- the first thread from the k-th on with a flag, and its point
abbrev pub first_flag : {R : Type 0} → (R → Option ℕ) → ℕ → List R → Option (ℕ × ℕ)
first_flag flag k [] = None
first_flag flag k (r ∷ rs) = flag_of k (flag r) (first_flag flag (suc k) rs)

-- the first flag so far stays
abbrev pub flag_so_far : Option (ℕ × ℕ) → Option (ℕ × ℕ) → Option (ℕ × ℕ)
flag_so_far None flag = flag
flag_so_far (Some first) flag = Some first

-- the intervals of the round that settles, what it finds of each thread, and the first flag of all rounds: in the order
-- of rounds, in a round in that of threads
pub record ThreadsFixpoint (R : Type 0) : Type 0 where
  pub table : IntervalTable
  pub found : List R
  pub flag : Option (ℕ × ℕ)

-- what these threads write
abbrev pub written_in : {R : Type 0} → ResultReadings R → ℕ → List R → IntervalTable
written_in finding globals found = map (λ r. written_by globals (finding.notes r)) found

-- one for each thread; IsFound k others r: an analysis of the k-th thread among these others finds r
pub record AreThreadResults {R : Type 0} (globals : ℕ) (IsFound : ℕ → Interference BoxContent → R → Type 0) (count : ℕ)
    (table : IntervalTable)
    (found : List R) : Type 0 where
  pub all : length found ≡ count
  pub each : (k : ℕ) (r : R) → slice_get found k ≡ Some r → IsFound k (threads_interference globals k table) r

-- one round, with this first flag so far; what is written, and the first flag then
pub record IsRound {R : Type 0} (finding : ResultReadings R) (globals : ℕ)
    (IsFound : ℕ → Interference BoxContent → R → Type 0)
    (count : ℕ) (flag : Option (ℕ × ℕ)) (table : IntervalTable) (found : List R) (written : IntervalTable)
    (first : Option (ℕ × ℕ))
    : Type 0 where
  pub are_found : AreThreadResults globals IsFound count table found
  pub are_written : written ≡ written_in finding globals found
  pub is_first : first ≡ flag_so_far flag (first_flag finding.flag 0 found)

-- so many rounds of joining left, with this first flag so far, the rounds from these intervals end so
pub data RoundsEndIn {R : Type 0} (finding : ResultReadings R) (globals : ℕ)
    (IsFound : ℕ → Interference BoxContent → R → Type 0)
    (count : ℕ) : ℕ → Option (ℕ × ℕ) → IntervalTable → ThreadsFixpoint R → Type 0 where
  settled : (left : ℕ) (flag first : Option (ℕ × ℕ)) (table written : IntervalTable) (found : List R)
      → IsRound finding globals IsFound count flag table found written first → TableWithin written table
      → RoundsEndIn finding globals IsFound count left flag table
      (record { table = table; found = found; flag = first })
  unsettled : (left : ℕ) (flag first : Option (ℕ × ℕ)) (table written : IntervalTable) (found : List R)
      (end : ThreadsFixpoint R)
      → IsRound finding globals IsFound count flag table found written first → ¬ TableWithin written table
      → RoundsEndIn finding globals IsFound count (left - 1) first (next_table left table written) end
      → RoundsEndIn finding globals IsFound count left flag table end

-- from empty intervals
abbrev pub AllRounds : {R : Type 0} → ResultReadings R → ℕ → (ℕ → Interference BoxContent → R → Type 0) → ℕ →
    ThreadsFixpoint R → Type 0
AllRounds finding globals IsFound count end =
    RoundsEndIn finding globals IsFound count joining_rounds None (empty_table count globals) end
