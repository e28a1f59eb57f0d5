use Rattle.std.proofs.Common.{◌≡◌, None}
use Rattle.std.specs.Prelude.{replicate}
use Rattle.lra_fixpoint.proofs.tables.empty_table.Given as goal

abbrev pub invariant-places : goal.invariant-places
invariant-places g l = l.table.items ≡ replicate l._place None
