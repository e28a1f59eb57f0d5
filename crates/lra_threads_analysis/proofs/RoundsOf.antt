-- What rounds end with, whatever is found of each thread.
use Rattle.std.proofs.Common.{◌≡◌, ◌-◌, ℕ, length, Option, None, List, refl}
use Rattle.lra_threads_analysis.specs.Crates.{lra_box.Content.BoxContent, lra_domain.Interference.Interference}
use Rattle.lra_threads_fixpoint.specs.Intervals.{IntervalTable, AreRowsWide, empty_table, next_table}
use Rattle.lra_threads_fixpoint.specs.Rounds.{ResultReadings, IsRound, RoundsEndIn, settled, unsettled, AllRounds, ThreadsFixpoint, joining_rounds}
use Rattle.lra_threads_fixpoint.proofs.FallLemmas.{first_table, next_fits}

module _ {R : Type 0} (finding : ResultReadings R) (globals : ℕ) (A : ℕ → Interference BoxContent → R → Type 0) where
  -- what is found may be reported in another way
  module _ (B : ℕ → Interference BoxContent → R → Type 0) (so : (k : ℕ) (o : Interference BoxContent) (r : R) → A k o r → B k o r) where
    round_told : (count : ℕ) (flag : Option (ℕ × ℕ)) (table : IntervalTable) (found : List R) (written : IntervalTable) (first : Option (ℕ × ℕ))
        → IsRound finding globals A count flag table found written first → IsRound finding globals B count flag table found written first
    round_told count flag table found written first round = record {
      are_found = record { all = round.are_found.all; each = λ k r is. so k _ r (round.are_found.each k r is) };
      are_written = round.are_written;
      is_first = round.is_first;
    }

    rounds_told : (count left : ℕ) (flag : Option (ℕ × ℕ)) (table : IntervalTable) (end : ThreadsFixpoint R) →
        RoundsEndIn finding globals A count left flag table end
        → RoundsEndIn finding globals B count left flag table end
    rounds_told count left flag table _ (settled _ _ first _ written found round within) =
        settled left flag first table written found (round_told count flag table found written first round) within
    rounds_told count left flag table end (unsettled _ _ first _ written found _ round moves rest) =
        unsettled left flag first table written found end (round_told count flag table found written first round) moves
        (rounds_told count (left - 1) first (next_table left table written) end rest)

    pub all_told : (count : ℕ) (end : ThreadsFixpoint R) → AllRounds finding globals A count end → AllRounds finding globals B count end
    all_told count end rounds = rounds_told count joining_rounds None (empty_table count globals) end rounds

  -- the table stays as wide and as long
  rounds_fit : (count left : ℕ) (flag : Option (ℕ × ℕ)) (table : IntervalTable) (end : ThreadsFixpoint R) →
      RoundsEndIn finding globals A count left flag table end
      → AreRowsWide globals table → length table ≡ count → AreRowsWide globals end.table × (length end.table ≡ count)
  rounds_fit count left flag table _ (settled _ _ first _ written found round within) wide long = (wide, long)
  rounds_fit count left flag table end (unsettled _ _ first _ written found _ round moves rest) wide long =
      let next = next_fits count globals left table written (next_table left table written) refl wide long in
      rounds_fit count (left - 1) first (next_table left table written) end rest next.0 next.1

  pub all_fit : (count : ℕ) (end : ThreadsFixpoint R) → AllRounds finding globals A count end → AreRowsWide globals end.table × (length end.table ≡ count)
  all_fit count end rounds =
      let first = first_table count globals count globals (empty_table count globals) refl refl refl in
      rounds_fit count joining_rounds None (empty_table count globals) end rounds first.1 first.2
