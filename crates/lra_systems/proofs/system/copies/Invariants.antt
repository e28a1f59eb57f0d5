use Rattle.std.proofs.Common.{◌≡◌, take}
use Rattle.lra_systems.proofs.system.copies.Given as goal

abbrev pub invariant-loop-row : goal.invariant-loop-row
invariant-loop-row l = l.copied.items ≡ take l.row-index l.rows
