-- Lines of refusals.
use Rattle.std.proofs.Common.{◌≡◌, [], ◌∷◌, ◌++◌, refl}
use Rattle.std.specs.{Fmt.digits, Prelude.codes}
use Rattle.lra_base.specs.declared.refusals.Cause.TheVariants.{TooLong, TooManyPoints}
use Rattle.lra_report.specs.RefusalText.{refusal_text}

refusal_line : refusal_text TooLong (record { line = 1; column = 65537 }) ≡ codes "refused 1 TooLong at 1:65537" ++ 10 ∷ []
unfolding digits
refusal_line = refl

last_refusal_line : refusal_text TooManyPoints (record { line = 1; column = 2064 }) ≡ codes "refused 13 TooManyPoints at 1:2064" ++ 10 ∷ []
unfolding digits
last_refusal_line = refl
