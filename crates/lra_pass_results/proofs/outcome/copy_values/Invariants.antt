use Rattle.std.proofs.Common.{◌≡◌, take}
use Rattle.lra_pass_results.proofs.outcome.copy_values.Given as goal

abbrev pub invariant-values : goal.invariant-values
invariant-values g l = l.copies.items ≡ take l.value-index l.values
