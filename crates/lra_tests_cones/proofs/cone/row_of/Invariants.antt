use Rattle.std.specs.List.{All}
use Rattle.lra_tests_cones.specs.Crates.lra_linear_spec.Range.{InRange}
use Rattle.lra_tests_cones.proofs.cone.row_of.Given as goal

abbrev pub invariant-loop-number : goal.invariant-loop-number
invariant-loop-number l = All InRange l.entries.items
