-- So far the entries are the numbers that were gone through, and each of these is in the range.
use Rattle.std.proofs.Common.{◌≡◌, take}
use Rattle.std.specs.List.{All}
use Rattle.lra_linear_spec.specs.Range.{InRange}
use Rattle.lra_row.proofs.entries.entries_of.Given as goal

abbrev pub invariant-loop-number : goal.invariant-loop-number
invariant-loop-number l = record {
  items : l.entries.items ≡ take l.number-index l.numbers;
  range : All InRange l.entries.items;
}
