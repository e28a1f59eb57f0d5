use Rattle.std.proofs.Common.{◌≡◌, ◌++◌, drop}
use Rattle.lra_multipliers.specs.Columns.{used_from}
use Rattle.lra_multipliers.proofs.multipliers.places_used.Given as goal

abbrev pub invariant-loop-place : goal.invariant-loop-place
invariant-loop-place l = l.used.items ++ used_from l.place (drop l.place l.factors) ≡ used_from 0 l.factors
