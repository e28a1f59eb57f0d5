use Rattle.std.proofs.Common.{◌≡◌}
use Rattle.lra_octagon.proofs.EnterLemmas.{BoundsUpTo}
use Rattle.lra_octagon.proofs.unary.bound_all.Given as goal

abbrev pub invariant-loop-i : goal.invariant-loop-i
invariant-loop-i l = record {
  dims : l.matrix.dims ≡ l.n;
  bounds : BoundsUpTo l.n l.i l.intervals l.fn.matrix.cells l.matrix.cells l.exactness;
}
