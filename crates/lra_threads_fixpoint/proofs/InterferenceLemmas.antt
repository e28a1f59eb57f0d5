-- One by one, or at once: what is reported about each global is the join of the others' intervals.
use Rattle.std.proofs.Common.{◌≡◌, ◌∙◌, ◌+◌, ◌<◌, ℕ, zero, suc, ℤ, List, [], ◌∷◌, ◌++◌, take, drop, ap₂, length, replicate, Option, None, Some, refl, ap, sym, subst, arith}
use Rattle.std.proofs.{Math.Path.fun_ext, lemmas.Int.ints, lemmas.Int.clamps, lemmas.List.length-replicate}
use Rattle.lra_domain.specs.{Bounds.lesser_low, Bounds.greater, Interference.Interference}
use Rattle.lra_box.specs.{Content.BoxContent, Tables.on_bounds, Tables.joined_interval, Tables.admitting, declared.interval.Interval.Interval}
use Rattle.lra_threads_fixpoint.specs.Interference.{admitting_option, admitting_all, admitting_row, interval_at, column, interfered_from, interfered, joined_rows, interference_on, row_interference}
use Rattle.lra_threads_fixpoint.specs.Interference.{threads_interference, others_than}
use Rattle.lra_threads_fixpoint.specs.{Intervals.IntervalRow, Intervals.IntervalTable, Intervals.joined_option, Intervals.grown_option, Intervals.grown_row, declared.growth.Growth.TheVariants.Join}
use Rattle.lra_threads_fixpoint.proofs.ListLemmas.{ones_length}

-- joins ------------------------------------------------------------------------------------------------------------

lesser_again : (a b c : Option ℤ) → lesser_low (lesser_low a b) c ≡ lesser_low a (lesser_low b c)
lesser_again None b c = refl
lesser_again (Some a) None c = refl
lesser_again (Some a) (Some b) None = refl
lesser_again (Some a) (Some b) (Some c) = ap (λ (z : ℤ). Some z) (omega (arith, ints, clamps))

greater_again : (a b c : Option ℤ) → greater (greater a b) c ≡ greater a (greater b c)
greater_again None b c = refl
greater_again (Some a) None c = refl
greater_again (Some a) (Some b) None = refl
greater_again (Some a) (Some b) (Some c) = ap (λ (z : ℤ). Some z) (omega (arith, ints, clamps))

interval_again : (i j k : Interval) → joined_interval (joined_interval i j) k ≡ joined_interval i (joined_interval j k)
interval_again i j k = let low = lesser_again i.low j.low k.low in let high = greater_again i.high j.high k.high in cc

pub option_again : (i j k : Option Interval) → joined_option (joined_option i j) k ≡ joined_option i (joined_option j k)
option_again None j k = refl
option_again (Some i) None k = refl
option_again (Some i) (Some j) None = refl
option_again (Some i) (Some j) (Some k) = ap (λ (x : Interval). Some x) (interval_again i j k)

pub joined_none : (i : Option Interval) → joined_option i None ≡ i
joined_none None = refl
joined_none (Some i) = refl

-- two intervals come in at one place -------------------------------------------------------------------------------

admitting_twice : (is : List Interval) (x : ℕ) (i j : Interval) → admitting x j (admitting x i is) ≡ admitting x (joined_interval i j) is
admitting_twice [] x i j = refl
admitting_twice (k ∷ is) zero i j = ap (λ (l : Interval). l ∷ is) (interval_again k i j)
admitting_twice (k ∷ is) (suc x) i j = ap (λ (js : List Interval). k ∷ js) (admitting_twice is x i j)

option_twice : (x : ℕ) (i j : Option Interval) (v : BoxContent) → admitting_option x j (admitting_option x i v) ≡ admitting_option x (joined_option i j) v
option_twice x None j v = refl
option_twice x (Some i) None v = refl
option_twice x (Some i) (Some j) v = by_bounds v.bounds
  where
    by_bounds : (b : Option (List Interval)) → record v { bounds = on_bounds (admitting x j) (on_bounds (admitting x i) b) } ≡
        record v { bounds = on_bounds (admitting x (joined_interval i j)) b }
    by_bounds None = refl
    by_bounds (Some is) = ap (λ (js : List Interval). record v { bounds = Some js }) (admitting_twice is x i j)

abbrev joined_all : Option Interval → List (Option Interval) → Option Interval
joined_all i [] = i
joined_all i (j ∷ js) = joined_all (joined_option i j) js

all_at_once : (x : ℕ) (i : Option Interval) (is : List (Option Interval)) (v : BoxContent)
    → admitting_all x is (admitting_option x i v) ≡ admitting_option x (joined_all i is) v
all_at_once x i [] v = refl
all_at_once x i (j ∷ js) v =
    ap (λ (w : BoxContent). admitting_all x js w) (option_twice x i j v) ∙ all_at_once x (joined_option i j) js v

-- place by place ---------------------------------------------------------------------------------------------------

row_once : (row : IntervalRow) (x : ℕ) (rows : IntervalTable) (v : BoxContent)
    → ((k : ℕ) → k < length row → interval_at k row ≡ joined_all None (column (x + k) rows))
    → admitting_row x row v ≡ interfered_from x (length row) rows v
row_once [] x rows v h = refl
row_once (i ∷ is) x rows v h =
    let same : x + 0 ≡ x = omega arith in
    let own : i ≡ joined_all None (column x rows) = rw (← same) (h 0 (omega arith)) in
    let first : admitting_option x i v ≡ admitting_all x (column x rows) v =
    ap (λ (j : Option Interval). admitting_option x j v) own ∙ sym (all_at_once x None (column x rows) v) in
    let later = λ (k : ℕ) (few : k < length is). let e : x + suc k ≡ suc x + k = omega arith in
    subst (λ (y : ℕ). interval_at k is ≡ joined_all None (column y rows)) e (h (suc k) (omega (arith, few))) in
    row_once is (suc x) rows (admitting_option x i v) later
    ∙ ap (λ (w : BoxContent). interfered_from (suc x) (length is) rows w) first

joined_row_at : (row other : IntervalRow) (k : ℕ) → k < length row →
    interval_at k (grown_row Join row other) ≡ joined_option (interval_at k row) (interval_at k other)
joined_row_at [] other k few = absurd (omega (arith, few))
joined_row_at (i ∷ is) [] k few = sym (joined_none (interval_at k (i ∷ is)))
joined_row_at (i ∷ is) (j ∷ js) zero few = refl
joined_row_at (i ∷ is) (j ∷ js) (suc k) few = joined_row_at is js k (omega (arith, few))

pub joined_rows_length : (row : IntervalRow) (rows : IntervalTable) → length (joined_rows row rows) ≡ length row
joined_rows_length row [] = refl
joined_rows_length row (other ∷ rows) = joined_rows_length (grown_row Join row other) rows ∙ ones_length (grown_option Join) row other

joined_rows_at : (row : IntervalRow) (rows : IntervalTable) (k : ℕ) → k < length row →
    interval_at k (joined_rows row rows) ≡ joined_all (interval_at k row) (column k rows)
joined_rows_at row [] k few = refl
joined_rows_at row (other ∷ rows) k few =
    let wide = ones_length (grown_option Join) row other in
    joined_rows_at (grown_row Join row other) rows k (omega (arith, wide, few))
    ∙ ap (λ (i : Option Interval). joined_all i (column k rows)) (joined_row_at row other k few)

pub none_at : (n k : ℕ) → interval_at k (replicate n None) ≡ None
none_at zero k = refl
none_at (suc n) zero = refl
none_at (suc n) (suc k) = none_at n k

joined_append : (row : IntervalRow) (front back : IntervalTable) → joined_rows (joined_rows row front) back ≡ joined_rows row (front ++ back)
joined_append row [] back = refl
joined_append row (other ∷ rows) back = joined_append (grown_row Join row other) rows back

-- the threads before the k-th, and those after it
pub told_parts : (globals k : ℕ) (table : IntervalTable) (nothing first all : IntervalRow) (front back : IntervalTable) → nothing ≡ replicate globals None
    → front ≡ take k table → back ≡ drop (k + 1) table → first ≡ joined_rows nothing front → all ≡ joined_rows first back
    → all ≡ interference_on globals k table
told_parts globals k table nothing first all front back a b c d e =
    let next : k + 1 ≡ suc k = omega arith in
    let behind : back ≡ drop (suc k) table = c ∙ ap (λ (n : ℕ). drop n table) next in
    e ∙ ap (λ (r : IntervalRow). joined_rows r back) (d ∙ ap (λ (r : IntervalRow). joined_rows r front) a)
    ∙ joined_append (replicate globals None) front back
    ∙ ap₂ (λ (xs ys : IntervalTable). joined_rows (replicate globals None) (xs ++ ys)) b behind

-- what is reported at once does as what is reported one by one
pub one_by_one : (globals k : ℕ) (table : IntervalTable) (v : BoxContent) → admitting_row 0 (interference_on globals k table) v ≡ interfered globals k table v
one_by_one globals k table v =
    let rows = others_than k table in
    let empty : IntervalRow = replicate globals None in
    let wide : length (interference_on globals k table) ≡ globals = joined_rows_length empty rows ∙ length-replicate globals None in
    let start : length empty ≡ globals = length-replicate globals None in
    let at = λ (y : ℕ) (few : y < length (interference_on globals k table)).
    let e : y ≡ 0 + y = omega arith in
    subst (λ (n : ℕ). interval_at y (interference_on globals k table) ≡ joined_all None (column n rows)) e
    (joined_rows_at empty rows y (omega (arith, few, wide, start)) ∙ ap (λ (i : Option Interval). joined_all i (column y rows)) (none_at globals y)) in
    subst (λ (n : ℕ). admitting_row 0 (interference_on globals k table) v ≡ interfered_from 0 n rows v) wide
    (row_once (interference_on globals k table) 0 rows v at)

pub telling_others : (globals k : ℕ) (table : IntervalTable) → row_interference (interference_on globals k table) ≡ threads_interference globals k table
telling_others globals k table =
    ap (λ (done : BoxContent → BoxContent → Type 0). let o : Interference BoxContent = record (threads_interference globals k table) { done = done } in o)
    (fun_ext (λ v. fun_ext (λ w. ap (λ (u : BoxContent). w ≡ u) (one_by_one globals k table v))))
