use Rattle.std.proofs.Common.{map, take}
use Rattle.lra_linearize.specs.Crates.lra_program.ProgramViews.{all_of, cond_view}
use Rattle.lra_analysis_spec.specs.GuardThresholds.{guard_rows}
use Rattle.lra_linearize.specs.GuardThresholds.{HasMore}
use Rattle.lra_linearize.proofs.CondSizes.{cond_size, chain_size}
use Rattle.lra_linearize.proofs.guard_thresholds.+give.Given as goal

abbrev pub decreases-give : goal.decreases-give
decreases-give l = cond_size l.condition.now

abbrev pub decreases-give_chain : goal.decreases-give_chain
decreases-give_chain l = chain_size l.first.now l.rest.now

-- the rows of the first and of those so far
abbrev pub invariant-give_chain-rest : goal.invariant-give_chain-rest
invariant-give_chain-rest l = HasMore l.fn.rows l.rows (guard_rows l.fn.rows.dims l.base l.wanted
    (all_of (cond_view l.first) (map cond_view (take l.next-index l.rest))))
