use Rattle.std.proofs.Common.{◌<◌, ◌+◌, ◌*◌, map, drop}
use Rattle.lra_program.specs.ProgramViews.{cond_view}
use Rattle.lra_overflow_checks.proofs.Crates.lra_linearize.CondSizes.{cond_size, chain_size}
use Rattle.lra_overflow_checks.proofs.ConditionSteps.{AreJudgedSoFar}
use Rattle.lra_overflow_checks.proofs.conditions.+judge.Given as goal

abbrev pub decreases-judge_condition : goal.decreases-judge_condition
decreases-judge_condition g l = 2 * cond_size l.condition.now

abbrev pub decreases-pass_operand : goal.decreases-pass_operand
decreases-pass_operand g l = 2 * cond_size l.operand.now + 1

abbrev pub decreases-judge_sides : goal.decreases-judge_sides
decreases-judge_sides g l = 2 * chain_size l.first.now l.rest.now

abbrev pub invariant-judge_sides-rest : goal.invariant-judge_sides-rest
invariant-judge_sides-rest g l = record {
  judged : AreJudgedSoFar g.D.Domain.abstraction g.L.Leaf.both g.L.Leaf.one l.around.base l.wanted (cond_view l.first) (map cond_view l.rest) l.fn.from
      l.fn.told.items (cond_view l.last) (map cond_view (drop l.next-index l.rest)) l.value l.so_far l.told.items;
  smaller : cond_size l.last < chain_size l.first l.rest;
}
