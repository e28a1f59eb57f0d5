-- What an assignment with computed bounds does.
use Rattle.std.proofs.Common.{◌≡◌, ℕ, zero, suc, ◌<◌, ℤ, List, [], ◌∷◌, length, Option, Some, IfSome, ◌⊎◌, inl, inr, refl, ◌∙◌, arith}
use Rattle.std.proofs.Math.ListN.{length-set}
use Rattle.std.specs.Prelude.{slice_set, slice_index_or}
use Rattle.lra_box.specs.Crates.{lra_linear_forms.Form.Form, lra_linear_forms.Form.form_value, lra_linear_spec.Range.InRange}
use Rattle.lra_domain.specs.{Bounds.AtMost, declared.Exactness.Exactness, declared.Exactness.TheVariants.Exact, declared.Exactness.TheVariants.Flagged}
use Rattle.lra_box.specs.Bounds.{InInterval, AllValidIntervals, end_sum, SumPasses, IsBound, full_interval}
use Rattle.lra_box.specs.{Answers.AssignedTo, Covering.intervals_within_refl, Covering.low_within_refl, Covering.high_within_refl, Sums.end_sum_holds, Tables.LowWithin, declared.ends.Bound.Bound}
use Rattle.lra_box.specs.{declared.interval.Interval.Interval, declared.interval.Side.TheVariants.Low, declared.interval.Side.TheVariants.High}
use Rattle.lra_box.proofs.{BoxLemmas.assign_keeps, BoxLemmas.bound_holds, ExtremeLemmas.end_is_extreme, SoundLemmas.some_store, SoundLemmas.not_crossed, SoundLemmas.set_sound, WithinLemmas.set_within}

read_set : (is : List Interval) (k : ℕ) (i : Interval) → k < length is → slice_index_or (slice_set is k i) k full_interval ≡ i
read_set [] k i h = absurd (omega arith)
read_set (j ∷ js) zero i h = refl
read_set (j ∷ js) (suc k) i h = read_set js k i (omega arith)

-- which of the two bounds was flagged, if the answer is
pub record Worse (low high e : Exactness) : Type 0 where
  pub exact : e ≡ Exact → (low ≡ Exact) × (high ≡ Exact)
  pub flagged : e ≡ Flagged → (low ≡ Flagged) ⊎ (high ≡ Flagged)

pub flagged_first : (low high : Exactness) → low ≡ Flagged → Worse low high Flagged
flagged_first low high l = record { exact = λ e. cc; flagged = λ e. inl l }

pub flagged_second : (low high : Exactness) → low ≡ Exact → Worse low high high
flagged_second low high l = record { exact = λ e. (l, e); flagged = λ e. inr e }

pub low_covers : (table : Option ℤ) (passes : Type 0) (b : Bound) (e : Exactness) → b.exactness ≡ e → IsBound table passes b → LowWithin table b.value
low_covers table passes b Exact e is = rw (is.exact e) (low_within_refl table)
low_covers table passes b Flagged e is = rw (is.flagged e).1 tt

pub high_covers : (table : Option ℤ) (passes : Type 0) (b : Bound) (e : Exactness) → b.exactness ≡ e → IsBound table passes b → AtMost table b.value
high_covers table passes b Exact e is = rw (is.exact e) (high_within_refl table)
high_covers table passes b Flagged e is = rw (is.flagged e).1 tt

pub assigned_to : (is : List Interval) (x : ℕ) (f : Form) (low high : Bound) (e : Exactness) → x < length is → length f.coefficients ≡ length is →
    AllValidIntervals is
    → IsBound (end_sum Low f.constant f.coefficients is) (SumPasses Low f.constant f.coefficients is) low
    → IsBound (end_sum High f.constant f.coefficients is) (SumPasses High f.constant f.coefficients is) high
    → IfSome low.value InRange → IfSome high.value InRange → Worse low.exactness high.exactness e
    → AssignedTo x f (Some is) (Some (slice_set is x (record { low = low.value; high = high.value }))) e
assigned_to is x f low high e place width sound is_low is_high low_in high_in worse =
    let new : Interval = record { low = low.value; high = high.value } in
    let s = some_store is sound in
    let holds : InInterval new (form_value f s.0) = (
      bound_holds Low _ _ low _ is_low (end_sum_holds Low f.constant f.coefficients is s.0 s.1 width),
      bound_holds High _ _ high _ is_high (end_sum_holds High f.constant f.coefficients is s.0 s.1 width),
    ) in
    let is_new : slice_index_or (slice_set is x new) x full_interval ≡ new = read_set is x new place in
    record {
      exact = λ k. let w = worse.exact k in rw (is_low.exact w.0, is_high.exact w.1) refl;
      extremes = λ k. let w = worse.exact k in rw (is_new, is_low.exact w.0, is_high.exact w.1) (end_is_extreme Low f is sound width, end_is_extreme High f is sound width);
      flagged = λ k. elim (worse.flagged k) [ inl l ↦ inl (is_low.flagged l).0 | inr h ↦ inr (is_high.flagged h).0 ];
      covers = set_within is is x _ new (intervals_within_refl is) (low_covers _ _ low low.exactness refl is_low, high_covers _ _ high high.exactness refl is_high);
      stores = λ t h. assign_keeps is x f low high width is_low is_high t h;
      sound = set_sound is x new sound ((low_in, high_in), not_crossed new (form_value f s.0) holds);
      fit = λ n h. length-set {A = Interval} is x new ∙ h;
    }
