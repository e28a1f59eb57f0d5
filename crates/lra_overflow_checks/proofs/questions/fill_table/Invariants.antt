use Rattle.std.proofs.Common.{map, take}
use Rattle.lra_operations_list.specs.TreeOperations.{op_at_point_view}
use Rattle.lra_overflow_checks.specs.Crates.lra_analysis_spec.Operations.{lossy_operations}
use Rattle.lra_overflow_checks.specs.Judged.{Fills, asked_by}
use Rattle.lra_overflow_checks.proofs.questions.fill_table.Given as goal

-- the verdicts on what is done so far
abbrev pub invariant-doings : goal.invariant-doings
invariant-doings g l = Fills (lossy_operations g.D.Domain.abstraction) g.Q.Question.told l.values
    (asked_by g.Q.Question.asks (map op_at_point_view (take l.done-index l.doings))) l.fn.table.items l.table.items
