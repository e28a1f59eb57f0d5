use Rattle.std.proofs.Common.{◌≡◌}
use Rattle.lra_multipliers.proofs.CheckLoops.{signed_from}
use Rattle.lra_multipliers.proofs.columns.are_signed.Given as goal

abbrev pub invariant-loop-place : goal.invariant-loop-place
invariant-loop-place l = signed_from l.kinds l.factors l.place ≡ signed_from l.kinds l.factors 0
