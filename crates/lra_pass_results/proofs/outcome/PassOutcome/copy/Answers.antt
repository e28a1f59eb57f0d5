-- Goals of `PassOutcome::copy`: the same entry again.
use Rattle.lra_pass_results.proofs.outcome.PassOutcome.copy.Goals as goal
use Rattle.std.proofs.Common.{ap, ◌∙◌}
use Rattle.lra_pass_results.specs.Outcome.{ended}

pub returns : goal.returns
returns g c = c.in_ok-found.ensures c.in_ok-normal.normal c.args.flag ∙ ap (λ v. ended c.args.self.now.found v c.args.flag) c.in_ok-normal.ensures
