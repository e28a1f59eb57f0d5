-- The numbers that were gone through are narrow.
use Rattle.std.proofs.Common.{take}
use Rattle.std.specs.List.{All}
use Rattle.lra_row.specs.Words.{IsNarrow}
use Rattle.lra_row.proofs.entries.are_narrow.Given as goal

abbrev pub invariant-loop-x : goal.invariant-loop-x
invariant-loop-x l = All IsNarrow (take l.x-index l.xs)
