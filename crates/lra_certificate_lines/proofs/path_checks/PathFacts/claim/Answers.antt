-- Goals of `claim`: the claim over the symbols.
use Rattle.std.proofs.Common.{ap, suc, ◌∙◌, ℤ, List, length}
use Rattle.lra_multipliers.proofs.CheckSteps.{length_zeros}
use Rattle.lra_certificate_lines.proofs.path_checks.PathFacts.claim.Goals as goal

pub returns-in_ok-row-in-None-clause-width : goal.returns-in_ok-row-in-None-clause-width
returns-in_ok-row-in-None-clause-width c =
    ap (λ (r : List ℤ). length r) c.in_ok-row-in-None.ensures ∙ ap suc (length_zeros c.dims-dims.result) ∙ ap suc c.dims-dims.ensures
