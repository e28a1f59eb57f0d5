use Rattle.std.proofs.Common.{◌≡◌, ◌++◌, drop}
use Rattle.lra_linear_spec.specs.Vectors.{negated}
use Rattle.lra_row.proofs.entries.negate_entries.Given as goal

abbrev pub invariant-loop-x : goal.invariant-loop-x
invariant-loop-x l = l.entries.items ++ negated (drop l.x-index l.xs) ≡ negated l.xs
