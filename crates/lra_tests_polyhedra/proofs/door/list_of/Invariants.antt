use Rattle.std.proofs.Common.{◌≡◌}
use Rattle.lra_tests_polyhedra.proofs.door.list_of.Given as goal

abbrev pub invariant-loop-numbers : goal.invariant-loop-numbers
invariant-loop-numbers l = l.list.dims ≡ 2
