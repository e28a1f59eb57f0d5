-- Goals of `resolve_comparison`: a comparison of two expressions.
use Rattle.std.proofs.Common.{refl}
use Rattle.lra_scopes.proofs.Loops.{first_told, second_told, both_clean}
use Rattle.lra_scopes.proofs.conditions.resolve_comparison.Goals as goal

pub returns-in_err-left-clause-told : goal.returns-in_err-left-clause-told
returns-in_err-left-clause-told c = first_told _ _ _ c.from_residual.result _ refl c.from_residual.ensures.1 c.in_err-left.ensures.told

pub returns-in_err-right-clause-told : goal.returns-in_err-right-clause-told
returns-in_err-right-clause-told c =
    second_told _ _ _ c.from_residual-in_err-right.result _ refl c.in_ok-left.ensures.told c.from_residual-in_err-right.ensures.1 c.in_err-right.ensures.told

pub returns-clause-told : goal.returns-clause-told
returns-clause-told c = both_clean _ _ _ refl c.in_ok-left.ensures.told c.in_ok-right.ensures.told
