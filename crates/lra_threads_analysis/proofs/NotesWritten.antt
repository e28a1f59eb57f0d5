-- What is noted of a thread is in its intervals: a number of a store that a note's value has.
use Rattle.std.proofs.Common.{◌≡◌, ◌∙◌, ◌+◌, ◌<◌, ℕ, zero, suc, ℤ, Bool, true, false, nat_eq, List, [], ◌∷◌, Option, None, Some, map, refl, ap, sym, subst, arith, inl, inr}
use Rattle.std.proofs.{lemmas.Bool.Decides.nat_tests, lemmas.Option.same_Some, lemmas.Option.none-some, lemmas.Option.slice_get-map}
use Rattle.std.specs.{List.Contains, Option.option_map, Prelude.if◌then◌else◌, Prelude.slice_get}
use Rattle.lra_threads_analysis.proofs.Crates.{lra_box.AdmitLemmas.bound_has, lra_linear_spec.Membership.contains_cases, lra_linear_spec.Membership.contains_none}
use Rattle.lra_threads_analysis.specs.Crates.{lra_box.Abstraction.BoxGamma, lra_box.Bounds.InInterval, lra_box.Content.BoxContent, lra_box.Covering.has_wider, lra_box.Tables.has_bounds}
use Rattle.lra_threads_analysis.specs.Crates.{lra_box.Tables.bound_at, lra_box.Tables.IntervalWithin, lra_box.declared.interval.Interval.Interval}
use Rattle.lra_threads_fixpoint.specs.Intervals.{IntervalRow, IntervalTable, joined_option, OptionWithin, EachHas, RowWithin, TableWithin}
use Rattle.lra_threads_fixpoint.specs.{Interference.written_to, Interference.written_from, Interference.written_by, Rounds.ResultReadings, Rounds.written_in}
use Rattle.lra_threads_analysis.specs.Written.{HasNumber, HasWritten}
use Rattle.lra_threads_analysis.proofs.JoinedIntervals.{IsIn, in_first, in_second}

-- what is written of notes -----------------------------------------------------------------------------------------------

bound_in : (x : ℕ) (b : Option (List Interval)) (s : List ℤ) (z : ℤ) → has_bounds b s → slice_get s x ≡ Some z → IsIn z (bound_at x b)
bound_in x None s z h at = absurd h
bound_in x (Some is) s z h at = (_, refl, bound_has x (Some is) _ s z refl h at)

-- if a test picks what comes in
in_own : (t : Bool) (o p : Option Interval) (z : ℤ) → t ≡ true → IsIn z o → IsIn z (if t then joined_option o p else p)
in_own true o p z e h = in_first o p z h
in_own false o p z e h = let wrong : ⊥ = cc in absurd wrong

in_others : (t : Bool) (o p : Option Interval) (z : ℤ) → IsIn z p → IsIn z (if t then joined_option o p else p)
in_others true o p z h = in_second o p z h
in_others false o p z h = h

to_itself : (x y : ℕ) → y ≡ x → nat_eq y x ≡ true
to_itself x y e = grind (arith, nat_tests)

note_in : (notes : List (ℕ × BoxContent)) (x : ℕ) (v : BoxContent) (s : List ℤ) (z : ℤ) → Contains notes (x, v) → BoxGamma v s → slice_get s x ≡ Some z
    → IsIn z (written_to x notes)
note_in [] x v s z among h at = absurd (contains_none (x, v) among)
note_in ((y, w) ∷ notes) x v s z among h at = elim (contains_cases (y, w) (x, v) notes among) [
  | inl same ↦ in_own (nat_eq y x) (bound_at x w.bounds) (written_to x notes) z (to_itself x y (ap (λ (n : ℕ × BoxContent). n.0) same))
      (bound_in x w.bounds s z (subst (λ (u : BoxContent). has_bounds u.bounds s) (sym (ap (λ (n : ℕ × BoxContent). n.1) same)) h.1) at)
  | inr later ↦ in_others (nat_eq y x) (bound_at x w.bounds) (written_to x notes) z (note_in notes x v s z later h at)
]

-- of the k-th global from x on
written_has : (x more k y : ℕ) (notes : List (ℕ × BoxContent)) (z : ℤ) → y ≡ x + k → k < more → IsIn z (written_to y notes)
    → HasNumber (written_from x more notes) k z
written_has x zero k y notes z e low h = absurd (omega (arith, low))
written_has x (suc more) zero y notes z e low h =
    let same : y ≡ x = omega (arith, e) in
    subst (λ (n : ℕ). IsIn z (written_to n notes)) same h
written_has x (suc more) (suc k) y notes z e low h = written_has (suc x) more k y notes z (omega (arith, e)) (omega (arith, low)) h

-- what lies within -------------------------------------------------------------------------------------------------------

interval_within : (i j : Interval) (z : ℤ) → IntervalWithin i j → InInterval i z → InInterval j z
interval_within i j z within h = (has_wider (Some (i ∷ [])) (Some (j ∷ [])) (z ∷ []) (within, tt) (h, tt)).0

option_within : (o p : Option Interval) (z : ℤ) → OptionWithin o p → IsIn z o → IsIn z p
option_within None p z within (i, e, h) = absurd (none-some i e)
option_within (Some i) None z within h = absurd within
option_within (Some i) (Some j) z within (k, e, h) =
    (j, refl, interval_within i j z within (subst (λ (y : Interval). InInterval y z) (sym (same_Some i k e)) h))

row_within : (row other : IntervalRow) (x : ℕ) (z : ℤ) → RowWithin row other → HasNumber row x z → HasNumber other x z
row_within [] other x z within (i, e, h) = absurd (none-some i e)
row_within (i ∷ is) [] x z within h = absurd within
row_within (i ∷ is) (j ∷ js) zero z within h = option_within i j z within.0 h
row_within (i ∷ is) (j ∷ js) (suc x) z within h = row_within is js x z within.1 h

each_at : {A : Type 0} (Has : A → A → Type 0) (xs ys : List A) (k : ℕ) (x : A) → EachHas Has xs ys → slice_get xs k ≡ Some x
    → (y : A) × (slice_get ys k ≡ Some y) × Has x y
each_at Has [] ys k x all at = absurd (none-some x at)
each_at Has (a ∷ xs) [] k x all at = absurd all
each_at Has (a ∷ xs) (b ∷ ys) zero x all at = (b, refl, subst (λ u. Has u b) (same_Some a x at) all.0)
each_at Has (a ∷ xs) (b ∷ ys) (suc k) x all at = each_at Has xs ys k x all.1 at

-- of the k-th thread: its table's interval has what a note's value has
pub notes_written : {R : Type 0} (finding : ResultReadings R) (globals : ℕ) (found : List R) (table : IntervalTable) →
    TableWithin (written_in finding globals found) table
    → (k : ℕ) (r : R) → slice_get found k ≡ Some r → (x : ℕ) (v : BoxContent) (s : List ℤ) (z : ℤ) → x < globals → Contains (finding.notes r) (x, v)
    → BoxGamma v s → slice_get s x ≡ Some z → HasWritten table k x z
notes_written {R} finding globals found table within k r at x v s z low among h here =
    let writes : R → IntervalRow = λ (f : R). written_by globals (finding.notes f) in
    let own : slice_get (map writes found) k ≡ Some (writes r) = slice_get-map writes found k ∙ ap (option_map writes) at in
    let (row, there, wide) = each_at RowWithin (map writes found) table k (writes r) within own in
    let noted = note_in (finding.notes r) x v s z among h here in
    (row, there, row_within (writes r) row x z wide (written_has 0 globals x x (finding.notes r) z (omega arith) low noted))
