-- So far the copies of the first operations are there.
use Rattle.std.proofs.Common.{◌≡◌, map, take}
use Rattle.lra_program.specs.ProgramViews.{operation_view}
use Rattle.lra_program.proofs.program.+copy_expression.Given as goal

abbrev pub invariant-copy_operations-operations : goal.invariant-copy_operations-operations
invariant-copy_operations-operations l = map operation_view l.copies.items ≡ map operation_view (take l.operation-index l.operations)
