use Rattle.std.proofs.Common.{◌≡◌, take}
use Rattle.lra_fixpoint.specs.Tables.{filled_from}
use Rattle.lra_fixpoint.proofs.tables.number_held.Given as goal

abbrev pub invariant-places : goal.invariant-places
invariant-places l = l.numbered.items ≡ filled_from 0 (take l.number l.table)
