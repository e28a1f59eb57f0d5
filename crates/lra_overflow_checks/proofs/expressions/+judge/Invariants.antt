use Rattle.std.proofs.Common.{map, take}
use Rattle.lra_program.specs.ProgramViews.{operation_view}
use Rattle.lra_overflow_checks.specs.Judged.{IsWide}
use Rattle.lra_overflow_checks.proofs.ExpressionSteps.{ChainComputed}
use Rattle.lra_overflow_checks.proofs.expressions.+judge.Given as goal

-- the chain as far as here
abbrev pub invariant-judge_chain-operations : goal.invariant-judge_chain-operations
invariant-judge_chain-operations g l = record {
  wide : IsWide (g.D.Domain.abstraction.dims l.value) l.so_far.form;
  computed : ChainComputed g.D.Domain.abstraction l.value l.base l.fn.first l.fn.answers.items
      (map operation_view (take l.operation-index l.operations)) l.so_far l.answers.items;
}
