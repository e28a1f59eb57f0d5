-- Goals of `subtract_number`: what is seen of a value minus a number.
use Rattle.std.proofs.Common.{ap}
use Rattle.lra_analysis_spec.specs.{Linearization.subtracted, declared.linearization.Linearized.TheVariants.Linear}
use Rattle.lra_linearize.proofs.LinearizationSteps.{handed_on}
use Rattle.lra_linearize.proofs.linearization.subtract_number.Goals as goal

pub returns : goal.returns
returns c =
    handed_on c.subtract.result _ _ (ap (λ f. subtracted c.args.seen.now (Linear f)) c.in_ok-form.ensures) c.subtract.ensures
