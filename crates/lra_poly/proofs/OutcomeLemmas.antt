-- The outcomes of two calls in a row as one.
use Rattle.std.proofs.Common.{◌≡◌, ◌≢◌, refl, sym, subst}
use Rattle.lra_poly.specs.{Outcomes.first_of, declared.outcome.Outcome.Outcome, declared.outcome.Outcome.TheVariants.Exact, declared.outcome.Outcome.TheVariants.Flagged}

pub later_told : (own later : Outcome) → own ≡ Exact → first_of own later ≡ later
later_told own later e = subst (λ (o : Outcome). first_of o later ≡ later) (sym e) refl

pub own_told : (own later : Outcome) → own ≢ Exact → first_of own later ≡ own
own_told Exact later n = absurd (n refl)
own_told (Flagged loss) later n = refl
