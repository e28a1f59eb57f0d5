-- Without a flag all rounds are as they are without flags; a first flag stands where an analysis exceeds a limit.
use Rattle.std.proofs.Common.{◌≡◌, ◌∙◌, ◌+◌, ◌-◌, ℕ, zero, suc, List, [], ◌∷◌, length, Option, None, Some, refl, ap, sym, subst, arith}
use Rattle.std.proofs.lemmas.Option.{same_Some, slice_get_within}
use Rattle.std.specs.Prelude.{slice_get}
use Rattle.lra_domain.specs.Interference.{Interference}
use Rattle.lra_box.specs.Content.{BoxContent}
use Rattle.lra_threads_fixpoint.specs.Intervals.{IntervalTable, TableWithin, empty_table, next_table}
use Rattle.lra_threads_fixpoint.specs.Rounds.{ResultReadings, ThreadsFixpoint, flag_of, first_flag, flag_so_far, written_in, AreThreadResults, IsRound, RoundsEndIn, settled, unsettled, AllRounds}
use Rattle.lra_threads_fixpoint.specs.{Flags.ComesToStrain, Flags.here, Flags.later, Interference.threads_interference, Rounds.joining_rounds}

so_far_none : (flag more : Option (ℕ × ℕ)) → flag_so_far flag more ≡ None → (flag ≡ None) × (more ≡ None)
so_far_none None more e = (refl, e)
so_far_none (Some q) more e = let wrong : ⊥ = cc in absurd wrong

flag_of_none : (k : ℕ) (o : Option ℕ) (more : Option (ℕ × ℕ)) → flag_of k o more ≡ None → (o ≡ None) × (more ≡ None)
flag_of_none k None more e = (refl, e)
flag_of_none k (Some q) more e = let wrong : ⊥ = cc in absurd wrong

first_none : {R : Type 0} (flag : R → Option ℕ) (k : ℕ) (found : List R) → first_flag flag k found ≡ None
    → (j : ℕ) (r : R) → slice_get found j ≡ Some r → flag r ≡ None
first_none flag k [] e j r is = let wrong : ⊥ = cc in absurd wrong
first_none {R} flag k (x ∷ xs) e zero r is =
    let same : x ≡ r = cc in subst (λ (y : R). flag y ≡ None) same (flag_of_none k (flag x) (first_flag flag (suc k) xs) e).0
first_none flag k (x ∷ xs) e (suc j) r is =
    first_none flag (suc k) xs (flag_of_none k (flag x) (first_flag flag (suc k) xs) e).1 j r is

module _ {R : Type 0} (finding : ResultReadings R) (globals : ℕ) (A B : ℕ → Interference BoxContent → R → Type 0)
    (exact : (k : ℕ) (o : Interference BoxContent) (r : R) → A k o r → finding.flag r ≡ None → B k o r) where
  unflagged_round : (count : ℕ) (flag : Option (ℕ × ℕ)) (table : IntervalTable) (found : List R) (written : IntervalTable) (first : Option (ℕ × ℕ))
      → IsRound finding globals A count flag table found written first → first ≡ None
      → (flag ≡ None) × IsRound finding globals B count flag table found written first
  unflagged_round count flag table found written first round e =
      let parts = so_far_none flag (first_flag finding.flag 0 found) (sym round.is_first ∙ e) in (
        parts.0,
        record {
          are_found = record {
            all = round.are_found.all;
            each = λ k r is. exact k (threads_interference globals k table) r (round.are_found.each k r is) (first_none finding.flag 0 found parts.1 k r is);
          };
          are_written = round.are_written;
          is_first = round.is_first;
        },
      )

  unflagged_from : (count left : ℕ) (flag : Option (ℕ × ℕ)) (table : IntervalTable) (end : ThreadsFixpoint R) →
      RoundsEndIn finding globals A count left flag table end
      → end.flag ≡ None → (flag ≡ None) × RoundsEndIn finding globals B count left flag table end
  unflagged_from count left flag table _ (settled _ _ first _ written found round within) e =
      let u = unflagged_round count flag table found written first round e in
      (u.0, settled left flag first table written found u.1 within)
  unflagged_from count left flag table end (unsettled _ _ first _ written found _ round moves rest) e =
      let r = unflagged_from count (left - 1) first _ end rest e in
      let u = unflagged_round count flag table found written first round r.0 in
      (u.0, unsettled left flag first table written found end u.1 moves r.1)

  pub unflagged : (count : ℕ) (end : ThreadsFixpoint R) → AllRounds finding globals A count end → end.flag ≡ None → AllRounds finding globals B count end
  unflagged count end rounds e = (unflagged_from count joining_rounds None (empty_table count globals) end rounds e).1

-- where a first flag stands -----------------------------------------------------------------------------------------

-- the first element with a flag, its number counted from n, and the elements before it
record FirstFlag {R : Type 0} (flag : R → Option ℕ) (n : ℕ) (found : List R) (k q : ℕ) : Type 0 where
  before : List R
  one : R
  place : n + length before ≡ k
  is_found : slice_get found (length before) ≡ Some one
  flagged : flag one ≡ Some q
  each : (j : ℕ) (r : R) → slice_get before j ≡ Some r → (slice_get found j ≡ Some r) × (flag r ≡ None)

by_flag : {R : Type 0} (flag : R → Option ℕ) (n : ℕ) (x : R) (xs : List R) (k q : ℕ) (o : Option ℕ) → flag x ≡ o
    → (first_flag flag (suc n) xs ≡ Some (k, q) → FirstFlag flag (suc n) xs k q)
    → flag_of n o (first_flag flag (suc n) xs) ≡ Some (k, q) → FirstFlag flag n (x ∷ xs) k q
by_flag flag n x xs k q (Some p) is rest e =
    let same : (n, p) ≡ (k, q) = same_Some (n, p) (k, q) e in
    let number : n ≡ k = ap (λ (w : ℕ × ℕ). w.0) same in
    let point : p ≡ q = ap (λ (w : ℕ × ℕ). w.1) same in
    record {
      before = [];
      one = x;
      place = omega (arith, number);
      is_found = refl;
      flagged = is ∙ ap (λ (y : ℕ). Some y) point;
      each = λ j r none. let wrong : ⊥ = cc in absurd wrong;
    }
by_flag {R} flag n x xs k q None is rest e =
    let first = rest e in
    let place = first.place in
    record {
      before = x ∷ first.before;
      one = first.one;
      place = omega (arith, place);
      is_found = first.is_found;
      flagged = first.flagged;
      each = each_more first;
    }
  where
    each_more : (first : FirstFlag flag (suc n) xs k q) (j : ℕ) (r : R) → slice_get (x ∷ first.before) j ≡ Some r
        → (slice_get (x ∷ xs) j ≡ Some r) × (flag r ≡ None)
    each_more first zero r e = (e, subst (λ (y : R). flag y ≡ None) (same_Some x r e) is)
    each_more first (suc j) r e = first.each j r e

first_some : {R : Type 0} (flag : R → Option ℕ) (n : ℕ) (found : List R) (k q : ℕ) → first_flag flag n found ≡ Some (k, q)
    → FirstFlag flag n found k q
first_some flag n [] k q e = let wrong : ⊥ = cc in absurd wrong
first_some flag n (x ∷ xs) k q e = by_flag flag n x xs k q (flag x) refl (λ rest. first_some flag (suc n) xs k q rest) e

-- the first flag of all rounds stays
flag_stays : {R : Type 0} (finding : ResultReadings R) (globals : ℕ) (A : ℕ → Interference BoxContent → R → Type 0) (count left : ℕ) (f : ℕ × ℕ)
    (flag : Option (ℕ × ℕ)) (table : IntervalTable) (end : ThreadsFixpoint R) → flag ≡ Some f → RoundsEndIn finding globals A count left flag table end
    → end.flag ≡ Some f
flag_stays finding globals A count left f flag table _ e (settled _ _ first _ written found round within) =
    round.is_first ∙ ap (λ (g : Option (ℕ × ℕ)). flag_so_far g (first_flag finding.flag 0 found)) e
flag_stays finding globals A count left f flag table end e (unsettled _ _ first _ written found _ round moves rest) =
    flag_stays finding globals A count (left - 1) f first _ end
    (round.is_first ∙ ap (λ (g : Option (ℕ × ℕ)). flag_so_far g (first_flag finding.flag 0 found)) e) rest

module _ {R : Type 0} (finding : ResultReadings R) (globals : ℕ) (A B : ℕ → Interference BoxContent → R → Type 0)
    (S : ℕ → Interference BoxContent → ℕ → Type 0) (exact : (k : ℕ) (o : Interference BoxContent) (r : R) → A k o r → finding.flag r ≡ None → B k o r)
    (strains : (k q : ℕ) (o : Interference BoxContent) (r : R) → A k o r → finding.flag r ≡ Some q → S k o q) where
  strained_round : (count left k q : ℕ) (table : IntervalTable) (found : List R) (written : IntervalTable) (first : Option (ℕ × ℕ))
      → IsRound finding globals A count None table found written first → first ≡ Some (k, q)
      → ComesToStrain finding globals B S count left table k q
  strained_round count left k q table found written first round e =
      let f = first_some finding.flag 0 found k q (sym round.is_first ∙ e) in
      let place = f.place in
      let here_is : length f.before ≡ k = omega (arith, place) in
      let is_found : slice_get found k ≡ Some f.one = subst (λ (n : ℕ). slice_get found n ≡ Some f.one) here_is f.is_found in
      let few = slice_get_within found k f.one is_found in
      let all = round.are_found.all in
      here left table k q f.before (omega (arith, few, all)) here_is
      (λ j r is. let own = f.each j r is in
      (exact j (threads_interference globals j table) r (round.are_found.each j r own.0) own.1, own.1))
      (strains k q (threads_interference globals k table) f.one (round.are_found.each k f.one is_found) f.flagged)

  -- by the first flag of a round that isn't settled
  by_first : (count left k q : ℕ) (table : IntervalTable) (found : List R) (written : IntervalTable) (first o : Option (ℕ × ℕ)) (end : ThreadsFixpoint R)
      → first ≡ o → IsRound finding globals A count None table found written first → ¬ TableWithin written table
      → (o ≡ None → ComesToStrain finding globals B S count (left - 1) (next_table left table written) k q)
      → RoundsEndIn finding globals A count (left - 1) first (next_table left table written) end → end.flag ≡ Some (k, q)
      → ComesToStrain finding globals B S count left table k q
  by_first count left k q table found written first None end is round moves rest rounds e =
      let plain = subst (λ (f : Option (ℕ × ℕ)). IsRound finding globals A count None table found written f) is round in
      let own = unflagged_round finding globals A B exact count None table found written None plain refl in
      later left table written k q found own.1 moves (rest refl)
  by_first count left k q table found written first (Some f) end is round moves rest rounds e =
      let stays = flag_stays finding globals A count (left - 1) f first (next_table left table written) end is rounds in
      strained_round count left k q table found written first round (is ∙ sym stays ∙ e)

  strained_from : (count left k q : ℕ) (flag : Option (ℕ × ℕ)) (table : IntervalTable) (end : ThreadsFixpoint R) → flag ≡ None
      → RoundsEndIn finding globals A count left flag table end → end.flag ≡ Some (k, q)
      → ComesToStrain finding globals B S count left table k q
  strained_from count left k q flag table _ none (settled _ _ first _ written found round within) e =
      strained_round count left k q table found written first
      (subst (λ (f : Option (ℕ × ℕ)). IsRound finding globals A count f table found written first) none round) e
  strained_from count left k q flag table end none (unsettled _ _ first _ written found _ round moves rest) e =
      by_first count left k q table found written first first end refl
      (subst (λ (f : Option (ℕ × ℕ)). IsRound finding globals A count f table found written first) none round) moves
      (λ no. strained_from count (left - 1) k q first (next_table left table written) end no rest e) rest e

  pub strained : (count k q : ℕ) (end : ThreadsFixpoint R) → AllRounds finding globals A count end → end.flag ≡ Some (k, q)
      → ComesToStrain finding globals B S count joining_rounds (empty_table count globals) k q
  strained count k q end rounds e = strained_from count joining_rounds k q None (empty_table count globals) end refl rounds e

-- the round that settles --------------------------------------------------------------------------------------------

module _ {R : Type 0} (finding : ResultReadings R) (globals : ℕ) (A : ℕ → Interference BoxContent → R → Type 0) where
  settled_round : (count left : ℕ) (flag : Option (ℕ × ℕ)) (table : IntervalTable) (end : ThreadsFixpoint R)
      → RoundsEndIn finding globals A count left flag table end
      → AreThreadResults globals A count end.table end.found × TableWithin (written_in finding globals end.found) end.table
  settled_round count left flag table _ (settled _ _ first _ written found round within) =
      (round.are_found, subst (λ (ws : IntervalTable). TableWithin ws table) round.are_written within)
  settled_round count left flag table end (unsettled _ _ first _ written found _ round moves rest) =
      settled_round count (left - 1) first (next_table left table written) end rest

  pub settles : (count : ℕ) (end : ThreadsFixpoint R) → AllRounds finding globals A count end
      → AreThreadResults globals A count end.table end.found × TableWithin (written_in finding globals end.found) end.table
  settles count end rounds = settled_round count joining_rounds None (empty_table count globals) end rounds
