use Rattle.std.proofs.Common.{◌≡◌, map, drop}
use Rattle.lra_program.specs.{Program.type_of, ProgramViews.expr_view, ProgramViews.operation_view}
use Rattle.lra_overflow_checks.proofs.ComputesSteps.{rest_type}
use Rattle.lra_overflow_checks.proofs.computes.+type_of.Given as goal

-- the type of what is left after so much of the chain
abbrev pub invariant-operations : goal.invariant-operations
invariant-operations l =
    rest_type l.number_type (map operation_view (drop l.operation-index l.operation-items)) ≡ type_of (expr_view l.e)
