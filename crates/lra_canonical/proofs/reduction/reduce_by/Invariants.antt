use Rattle.lra_canonical.proofs.Chains.{IsPartly}
use Rattle.lra_canonical.proofs.reduction.reduce_by.Given as goal

abbrev pub invariant-loop-line : goal.invariant-loop-line
invariant-loop-line l = IsPartly l.form l.line-index l.row l.now
