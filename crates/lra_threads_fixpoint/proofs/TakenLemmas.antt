-- Note by note, what a row takes in is of each global the join of the bounds that its notes report.
use Rattle.std.proofs.Common.{◌≡◌, ◌≢◌, ◌∙◌, ◌+◌, ◌<◌, ℕ, zero, suc, Bool, true, false, nat_eq, List, [], ◌∷◌, length, Option, None, refl, ap, sym, subst, arith}
use Rattle.std.proofs.{lemmas.Bool.Decides.nat_tests, lemmas.List.length-replicate}
use Rattle.std.specs.Prelude.{if◌then◌else◌}
use Rattle.lra_box.specs.{Content.BoxContent, Tables.bound_at, declared.interval.Interval.Interval}
use Rattle.lra_threads_fixpoint.specs.Interference.{interval_at, written_to, written_from, written_by, taken_all}
use Rattle.lra_threads_fixpoint.specs.{Intervals.IntervalRow, Intervals.joined_option, Intervals.grown_option, Intervals.updated, Intervals.no_values, declared.growth.Growth.TheVariants.Join}
use Rattle.lra_threads_fixpoint.proofs.InterferenceLemmas.{option_again, joined_none, none_at}

updated_length : (row : IntervalRow) (x : ℕ) (f : Option Interval → Option Interval) → length (updated x f row) ≡ length row
updated_length [] x f = refl
updated_length (i ∷ is) zero f = refl
updated_length (i ∷ is) (suc x) f = ap suc (updated_length is x f)

updated_here : (row : IntervalRow) (k : ℕ) (f : Option Interval → Option Interval) → k < length row → interval_at k (updated k f row) ≡ f (interval_at k row)
updated_here [] k f few = absurd (omega (arith, few))
updated_here (i ∷ is) zero f few = refl
updated_here (i ∷ is) (suc k) f few = updated_here is k f (omega (arith, few))

updated_elsewhere : (row : IntervalRow) (x k : ℕ) (f : Option Interval → Option Interval) → x ≢ k → interval_at k (updated x f row) ≡ interval_at k row
updated_elsewhere [] x k f other = refl
updated_elsewhere (i ∷ is) zero zero f other = absurd (other refl)
updated_elsewhere (i ∷ is) zero (suc k) f other = refl
updated_elsewhere (i ∷ is) (suc x) zero f other = refl
updated_elsewhere (i ∷ is) (suc x) (suc k) f other = updated_elsewhere is x k f (λ e. other (ap suc e))

same_number : (x k : ℕ) → nat_eq x k ≡ true → x ≡ k
same_number x k e = grind (arith, nat_tests)

other_number : (x k : ℕ) → nat_eq x k ≡ false → x ≢ k
other_number x k e = grind (arith, nat_tests)

one_taken : (t : Bool) (o now b w : Option Interval) → (t ≡ true → now ≡ joined_option o b) → (t ≡ false → now ≡ o)
    → joined_option now w ≡ joined_option o (if t then joined_option b w else w)
one_taken true o now b w here other = ap (λ (i : Option Interval). joined_option i w) (here refl) ∙ option_again o b w
one_taken false o now b w here other = ap (λ (i : Option Interval). joined_option i w) (other refl)

taken_length : (notes : List (ℕ × BoxContent)) (row : IntervalRow) → length (taken_all row notes) ≡ length row
taken_length [] row = refl
taken_length ((x, v) ∷ notes) row =
    taken_length notes (updated x (λ i. grown_option Join i (bound_at x v.bounds)) row)
    ∙ updated_length row x (λ i. grown_option Join i (bound_at x v.bounds))

taken_at : (notes : List (ℕ × BoxContent)) (row : IntervalRow) (k : ℕ) → k < length row
    → interval_at k (taken_all row notes) ≡ joined_option (interval_at k row) (written_to k notes)
taken_at [] row k few = sym (joined_none (interval_at k row))
taken_at ((x, v) ∷ notes) row k few =
    let grown : Option Interval → Option Interval = λ i. grown_option Join i (bound_at x v.bounds) in
    let wide = updated_length row x grown in
    taken_at notes (updated x grown row) k (omega (arith, wide, few))
    ∙ one_taken (nat_eq x k) (interval_at k row) (interval_at k (updated x grown row)) (bound_at k v.bounds) (written_to k notes)
    (λ e. at_place (same_number x k e)) (λ e. updated_elsewhere row x k grown (other_number x k e))
  where
    at_place : x ≡ k → interval_at k (updated x (λ i. grown_option Join i (bound_at x v.bounds)) row) ≡ joined_option (interval_at k row) (bound_at k v.bounds)
    at_place e = subst (λ (y : ℕ). interval_at k (updated y (λ i. grown_option Join i (bound_at y v.bounds)) row)
        ≡ joined_option (interval_at k row) (bound_at k v.bounds)) (sym e) (updated_here row k (λ i. grown_option Join i (bound_at k v.bounds)) few)

row_is : (row : IntervalRow) (x : ℕ) (notes : List (ℕ × BoxContent)) → ((k : ℕ) → k < length row → interval_at k row ≡ written_to (x + k) notes)
    → row ≡ written_from x (length row) notes
row_is [] x notes h = refl
row_is (i ∷ is) x notes h =
    let same : x + 0 ≡ x = omega arith in
    let own : i ≡ written_to x notes = subst (λ (y : ℕ). i ≡ written_to y notes) same (h 0 (omega arith)) in
    let later = λ (k : ℕ) (few : k < length is). let e : x + suc k ≡ suc x + k = omega arith in
    subst (λ (y : ℕ). interval_at k is ≡ written_to y notes) e (h (suc k) (omega (arith, few))) in
    ap (λ (j : Option Interval). j ∷ is) own ∙ ap (λ (js : IntervalRow). written_to x notes ∷ js) (row_is is (suc x) notes later)

pub taken_is_written : (globals : ℕ) (notes : List (ℕ × BoxContent)) → taken_all (no_values globals) notes ≡ written_by globals notes
taken_is_written globals notes =
    let empty : IntervalRow = no_values globals in
    let start : length empty ≡ globals = length-replicate globals None in
    let wide : length (taken_all empty notes) ≡ globals = taken_length notes empty ∙ start in
    let at = λ (k : ℕ) (few : k < length (taken_all empty notes)).
    let e : k ≡ 0 + k = omega arith in
    subst (λ (y : ℕ). interval_at k (taken_all empty notes) ≡ written_to y notes) e
    (taken_at notes empty k (omega (arith, few, wide, start)) ∙ ap (λ (i : Option Interval). joined_option i (written_to k notes)) (none_at globals k)) in
    subst (λ (n : ℕ). taken_all empty notes ≡ written_from 0 n notes) wide (row_is (taken_all empty notes) 0 notes at)
