-- So far nothing accesses an array.
use Rattle.std.proofs.Common.{map, take}
use Rattle.lra_tests_operations.specs.Crates.lra_operations_list.TreeOperations.{op_at_point_view}
use Rattle.lra_tests_operations.proofs.Silent.{AreSilent}
use Rattle.lra_tests_operations.proofs.listings.accesses_nothing.Given as goal

abbrev pub invariant-doings : goal.invariant-doings
invariant-doings l = AreSilent (map op_at_point_view (take l.item-index l.item-items))
