use Rattle.std.proofs.Common.{◌≡◌, ◌++◌, drop, map}
use Rattle.lra_program.specs.ProgramViews.{operation_view}
use Rattle.lra_bounds_checks.specs.Listed.{access_view, operand_accesses}
use Rattle.lra_bounds_checks.proofs.listing.+expressions.Given as goal

abbrev pub invariant-push_operands-operations : goal.invariant-push_operands-operations
invariant-push_operands-operations l =
    map access_view l.all.items ++ operand_accesses (map operation_view (drop l.operation-index l.operations)) ≡
    map access_view l.fn.all.items ++ operand_accesses (map operation_view l.operations)
