use Rattle.std.proofs.Common.{◌≡◌, ◌++◌, replicate}
use Rattle.lra_poly_queries.specs.Joined.{counted}
use Rattle.lra_poly_queries.proofs.joining.dims_behind.Given as goal

abbrev pub invariant-loop-next : goal.invariant-loop-next
invariant-loop-next l = l.dims.items ≡ replicate l.often l.dim ++ counted l.next 0
