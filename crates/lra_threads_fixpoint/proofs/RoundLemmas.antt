-- Thread by thread through a round, and round by round.
use Rattle.std.proofs.Common.{◌≡◌, ◌∙◌, ◌+◌, ◌-◌, ℕ, zero, suc, List, [], ◌∷◌, ◌++◌, Bool, true, false, ◌↔◌, length, map, Option, None, Some, refl, ap, sym, subst, arith}
use Rattle.std.proofs.lemmas.List.{length-map}
use Rattle.std.specs.Prelude.{slice_get, IsTrue}
use Rattle.lra_domain.specs.Interference.{Interference}
use Rattle.lra_box.specs.Content.{BoxContent}
use Rattle.lra_threads_fixpoint.specs.Interference.{threads_interference, row_interference, interference_on, written_by, written_from}
use Rattle.lra_threads_fixpoint.specs.Intervals.{IntervalRow, IntervalTable, TableWithin, AreRowsWide, empty_table, grown_table, growth_of}
use Rattle.lra_threads_fixpoint.specs.Rounds.{ResultReadings, ThreadsFixpoint, flag_of, first_flag, flag_so_far, written_in, IsRound, RoundsEndIn, settled, unsettled, AllRounds, joining_rounds}
use Rattle.lra_threads_fixpoint.proofs.InterferenceLemmas.{telling_others}

-- flags ------------------------------------------------------------------------------------------------------------

flag_behind : (k : ℕ) (o : Option ℕ) (later last : Option (ℕ × ℕ)) → flag_of k o (flag_so_far later last) ≡ flag_so_far (flag_of k o later) last
flag_behind k None later last = refl
flag_behind k (Some q) later last = refl

flag_again : (a b c : Option (ℕ × ℕ)) → flag_so_far (flag_so_far a b) c ≡ flag_so_far a (flag_so_far b c)
flag_again None b c = refl
flag_again (Some q) b c = refl

flag_more : {R : Type 0} (flag : R → Option ℕ) (k n : ℕ) (found : List R) (r : R) → n ≡ k + length found
    → first_flag flag k (found ++ r ∷ []) ≡ flag_so_far (first_flag flag k found) (flag_of n (flag r) None)
flag_more flag k n [] r e = let same : k ≡ n = omega (arith, e) in ap (λ (y : ℕ). flag_of y (flag r) None) same
flag_more flag k n (x ∷ xs) r e =
    ap (λ (later : Option (ℕ × ℕ)). flag_of k (flag x) later) (flag_more flag (suc k) n xs r (omega (arith, e)))
    ∙ flag_behind k (flag x) (first_flag flag (suc k) xs) (flag_of n (flag r) None)

-- lists that get one more ------------------------------------------------------------------------------------------

map_more : {A B : Type 0} (f : A → B) (xs : List A) (x : A) → map f (xs ++ x ∷ []) ≡ map f xs ++ f x ∷ []
map_more f [] x = refl
map_more f (y ∷ ys) x = ap (λ (zs : List _). f y ∷ zs) (map_more f ys x)

length_more : {A : Type 0} (xs : List A) (x : A) → length (xs ++ x ∷ []) ≡ length xs + 1
length_more [] x = omega arith
length_more (y ∷ ys) x = let rest = length_more ys x in omega (arith, rest)

-- what holds of each with its number holds of the last one too
each_more : {A : Type 0} (P : ℕ → A → Type 0) (xs : List A) (x : A) (first : ℕ)
    → ((k : ℕ) (y : A) → slice_get xs k ≡ Some y → P (first + k) y) → P (first + length xs) x
    → (k : ℕ) (y : A) → slice_get (xs ++ x ∷ []) k ≡ Some y → P (first + k) y
each_more P [] x first each last zero y e = let same : x ≡ y = cc in subst (P (first + 0)) same last
each_more P [] x first each last (suc k) y e = let wrong : ⊥ = cc in absurd wrong
each_more P (z ∷ zs) x first each last zero y e = each zero y e
each_more P (z ∷ zs) x first each last (suc k) y e =
    let next : suc first + k ≡ first + suc k = omega arith in
    let end : first + length (z ∷ zs) ≡ suc first + length zs = omega arith in
    let later = λ (j : ℕ) (w : _) (is : slice_get zs j ≡ Some w). let e : first + suc j ≡ suc first + j = omega arith in
    subst (λ (n : ℕ). P n w) e (each (suc j) w is) in
    subst (λ (n : ℕ). P n y) next (each_more P zs x (suc first) later (subst (λ (n : ℕ). P n x) end last) k y e)

-- what a test says --------------------------------------------------------------------------------------------------

pub said : (b : Bool) (X : Type 0) → (IsTrue b ↔ X) → b ≡ true → X
said b X h e = h.0 e

pub denied : (b : Bool) (X : Type 0) → (IsTrue b ↔ X) → b ≡ false → ¬ X
denied b X h e x = let wrong = h.1 x in cc

-- a round ----------------------------------------------------------------------------------------------------------

module _ {R : Type 0} (finding : ResultReadings R) (globals : ℕ) (IsFound : ℕ → Interference BoxContent → R → Type 0) where
  -- the first k threads of a round
  pub record SoFar (k : ℕ) (flag : Option (ℕ × ℕ)) (table : IntervalTable) (found : List R) (written : IntervalTable) (first : Option (ℕ × ℕ)) : Type 0 where
    pub all : length found ≡ k
    pub each : (j : ℕ) (r : R) → slice_get found j ≡ Some r → IsFound j (threads_interference globals j table) r
    pub are_written : written ≡ written_in finding globals found
    pub is_first : first ≡ flag_so_far flag (first_flag finding.flag 0 found)

  flag_none : (flag : Option (ℕ × ℕ)) → flag ≡ flag_so_far flag None
  flag_none None = refl
  flag_none (Some q) = refl

  none_so_far : (flag : Option (ℕ × ℕ)) (table : IntervalTable) → SoFar 0 flag table [] [] flag
  none_so_far flag table = record {
    all = refl;
    each = λ j r e. let wrong : ⊥ = cc in absurd wrong;
    are_written = refl;
    is_first = flag_none flag;
  }

  pub begun_so_far : (flag : Option (ℕ × ℕ)) (table : IntervalTable) (found : List R) (written : IntervalTable) → found ≡ [] → written ≡ []
      → SoFar 0 flag table found written flag
  begun_so_far flag table found written e d =
      subst (λ (xs : List R). SoFar 0 flag table xs written flag) (sym e)
      (subst (λ (ws : IntervalTable). SoFar 0 flag table [] ws flag) (sym d) (none_so_far flag table))

  pub one_more : (k : ℕ) (flag : Option (ℕ × ℕ)) (table : IntervalTable) (found : List R) (written : IntervalTable) (first : Option (ℕ × ℕ)) (r : R)
      (w : IntervalRow)
      (point : Option ℕ) (after : List R) (wrote : IntervalTable) (last_flag : Option (ℕ × ℕ)) → SoFar k flag table found written first
      → IsFound k (row_interference (interference_on globals k table)) r → w ≡ written_by globals (finding.notes r) → point ≡ finding.flag r
      → after ≡ found ++ r ∷ [] → wrote ≡ written ++ w ∷ [] → last_flag ≡ flag_so_far first (flag_of k point None)
      → SoFar (k + 1) flag table after wrote last_flag
  one_more k flag table found written first r w point after wrote last_flag so own writes flagged a b c =
      let others = subst (λ (o : Interference BoxContent). IsFound k o r) (telling_others globals k table) own in
      let long : length found ≡ k = so.all in
      let place : k ≡ 0 + length found = omega (arith, long) in
      let last = subst (λ (n : ℕ). IsFound n (threads_interference globals n table) r) place others in
      let each = each_more (λ n y. IsFound n (threads_interference globals n table) y) found r 0
      (λ j y e. let none : j ≡ 0 + j = omega arith in subst (λ (n : ℕ). IsFound n (threads_interference globals n table) y) none (so.each j y e)) last in
      record {
        all = ap length a ∙ length_more found r ∙ ap (λ (n : ℕ). n + 1) long;
        each = λ j y e. let none : 0 + j ≡ j = omega arith in subst (λ (n : ℕ). IsFound n (threads_interference globals n table) y) none
            (each j y (subst (λ (xs : List R). slice_get xs j ≡ Some y) a e));
        are_written = b ∙ ap (λ (xs : IntervalTable). xs ++ w ∷ []) so.are_written
            ∙ ap (λ (v : IntervalRow). written_in finding globals found ++ v ∷ []) writes
            ∙ sym (map_more (λ x. written_by globals (finding.notes x)) found r)
            ∙ ap (λ (xs : List R). written_in finding globals xs) (sym a);
        is_first = c ∙ ap (λ (o : Option ℕ). flag_so_far first (flag_of k o None)) flagged
            ∙ ap (λ (f : Option (ℕ × ℕ)). flag_so_far f (flag_of k (finding.flag r) None)) so.is_first
            ∙ flag_again flag (first_flag finding.flag 0 found) (flag_of k (finding.flag r) None)
            ∙ ap (λ (f : Option (ℕ × ℕ)). flag_so_far flag f) (sym (flag_more finding.flag 0 k found r (omega (arith, long))))
            ∙ ap (λ (xs : List R). flag_so_far flag (first_flag finding.flag 0 xs)) (sym a);
      }

  pub whole_round : (k count : ℕ) (flag : Option (ℕ × ℕ)) (table : IntervalTable) (found : List R) (written : IntervalTable) (first : Option (ℕ × ℕ))
      → k ≡ count → SoFar k flag table found written first → IsRound finding globals IsFound count flag table found written first
  whole_round k count flag table found written first e so = record {
    are_found = record { all = so.all ∙ e; each = so.each };
    are_written = so.are_written;
    is_first = so.is_first;
  }

  -- what is written is as wide and as long
  written_wide : (found : List R) → AreRowsWide globals (written_in finding globals found)
  written_wide [] = tt
  written_wide (r ∷ rs) = (wide 0 globals, written_wide rs)
    where
      wide : (x n : ℕ) → length (written_from x n (finding.notes r)) ≡ n
      wide x zero = refl
      wide x (suc n) = ap suc (wide (suc x) n)

  pub round_wide : (count : ℕ) (flag : Option (ℕ × ℕ)) (table : IntervalTable) (found : List R) (written : IntervalTable) (first : Option (ℕ × ℕ))
      → IsRound finding globals IsFound count flag table found written first → AreRowsWide globals written × (length written ≡ count)
  round_wide count flag table found written first round = (
    subst (AreRowsWide globals) (sym round.are_written) (written_wide found),
    ap length round.are_written ∙ length-map found (λ r. written_by globals (finding.notes r)) ∙ round.are_found.all,
  )

  -- rounds -----------------------------------------------------------------------------------------------------------

  -- how these rounds end all rounds end
  abbrev pub Reaches : ℕ → ℕ → Option (ℕ × ℕ) → IntervalTable → Type 0
  Reaches count left flag table = (end : ThreadsFixpoint R) → RoundsEndIn finding globals IsFound count left flag table end
      → AllRounds finding globals IsFound count end

  pub first_reaches : (count left : ℕ) (table : IntervalTable) → left ≡ joining_rounds → table ≡ empty_table count globals → Reaches count left None table
  first_reaches count left table e is end rounds =
      subst (λ (t : IntervalTable). RoundsEndIn finding globals IsFound count joining_rounds None t end) is
      (subst (λ (n : ℕ). RoundsEndIn finding globals IsFound count n None table end) e rounds)

  pub last_round : (count left : ℕ) (flag : Option (ℕ × ℕ)) (table : IntervalTable) (found : List R) (written : IntervalTable) (first : Option (ℕ × ℕ))
      → Reaches count left flag table → IsRound finding globals IsFound count flag table found written first → TableWithin written table
      → AllRounds finding globals IsFound count (record { table = table; found = found; flag = first })
  last_round count left flag table found written first reaches round within =
      reaches (record { table = table; found = found; flag = first }) (settled left flag first table written found round within)

  pub next_round : (count left : ℕ) (flag : Option (ℕ × ℕ)) (table : IntervalTable) (found : List R) (written : IntervalTable) (first : Option (ℕ × ℕ))
      (later : ℕ) (next : IntervalTable) → Reaches count left flag table → IsRound finding globals IsFound count flag table found written first
      → ¬ TableWithin written table → later ≡ left - 1 → next ≡ grown_table (growth_of left) table written → Reaches count later first next
  next_round count left flag table found written first later next reaches round moves less grown end rounds =
      let with_left = subst (λ (n : ℕ). RoundsEndIn finding globals IsFound count n first next end) less rounds in
      let with_table = subst (λ (t : IntervalTable). RoundsEndIn finding globals IsFound count (left - 1) first t end) grown with_left in
      reaches end (unsettled left flag first table written found end round moves with_table)
