-- Goals of `follow_with`: after nothing comes the outcome itself.
use Rattle.std.proofs.Common.{refl, sym, ap}
use Rattle.lra_pass_results.specs.Crates.lra_analysis_spec.Pass.{in_turn}
use Rattle.lra_pass_results.specs.Outcome.{ended}
use Rattle.lra_pass_results.proofs.outcome.PassFindings.follow_with.Goals as goal

pub returns-then-is_nothing : goal.returns-then-is_nothing
returns-then-is_nothing g c =
    let none = c.is_nothing.ensures c.if-is_nothing.true in
    (λ u v w d e f. sym (ap (λ x. in_turn x (ended c.args.outcome.found v e) w f) (none u d)), refl, refl)
