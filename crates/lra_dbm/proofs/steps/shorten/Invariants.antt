use Rattle.std.proofs.Common.{◌≡◌, false}
use Rattle.lra_dbm.specs.Steps.{progress, in_turn, relaxed_unless_negative}
use Rattle.lra_dbm.proofs.steps.shorten.Given as goal

abbrev pub invariant-loop-k : goal.invariant-loop-k
invariant-loop-k l = progress l.cells l.passed ≡ in_turn (relaxed_unless_negative l.n) l.k (progress l.fn.cells false)
