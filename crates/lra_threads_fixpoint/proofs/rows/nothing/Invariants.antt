use Rattle.std.proofs.Common.{◌≡◌, replicate, None}
use Rattle.lra_threads_fixpoint.proofs.rows.nothing.Given as goal

abbrev pub invariant-places : goal.invariant-places
invariant-places l = l.row.items ≡ replicate l._place None
