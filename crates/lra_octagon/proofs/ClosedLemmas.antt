-- What closing gives an octagon, from what it gives a matrix.
use Rattle.std.proofs.Common.{◌≡◌, ℕ, None, Some, refl, ap, ◌∙◌, Bool, true, false}
use Rattle.lra_domain.specs.{declared.Exactness.Exactness, declared.Exactness.TheVariants.Exact, declared.Exactness.TheVariants.Flagged}
use Rattle.lra_dbm.specs.{Answers.is_flagged, Cells.Cells, Cells.IsMatrix, Closing.AfterClosing, Closing.closing, Closing.Closes, Steps.progress}
use Rattle.lra_octagon.specs.Closed.{ClosedTo}

flagged_passes : (n : ℕ) (old new : Cells) (empty flagged : Bool) → closing n old ≡ record { empty = empty; progress = progress new flagged } → (closing n old).progress.flagged ≡ flagged
flagged_passes n old new empty flagged e = ap (λ (r : AfterClosing). r.progress.flagged) e

as_flag : (e : Exactness) → e ≡ Flagged → is_flagged e ≡ true
as_flag e f = ap is_flagged f

as_exact : (e : Exactness) → e ≡ Exact → is_flagged e ≡ false
as_exact e f = ap is_flagged f

pub closed_empty : (n : ℕ) (old new : Cells) (e : Exactness) → closing n old ≡ record { empty = true; progress = progress new (is_flagged e) }
    → Closes n old new true (is_flagged e) → ClosedTo n old None e
closed_empty n old new e steps closes = record {
  stores = λ s h. closes.none refl s h;
  fit = tt;
  exact = λ f s h. closes.none refl s h;
  flagged = λ f. flagged_passes n old new true (is_flagged e) steps ∙ as_flag e f;
}

pub closed_tight : (n : ℕ) (old new : Cells) (e : Exactness) → closing n old ≡ record { empty = false; progress = progress new (is_flagged e) }
    → Closes n old new false (is_flagged e) → IsMatrix n new → ClosedTo n old (Some new) e
closed_tight n old new e steps closes is = record {
  stores = closes.kept;
  fit = record { is = is; diagonal = closes.diagonal refl };
  exact = λ f. record { is = is; tight = closes.tight refl (as_exact e f); kept = closes.kept; same = closes.same };
  flagged = λ f. flagged_passes n old new false (is_flagged e) steps ∙ as_flag e f;
}
