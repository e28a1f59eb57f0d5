use Rattle.std.proofs.Common.{map, take}
use Rattle.lra_linearize.specs.Crates.lra_program.ProgramViews.{all_of, cond_view}
use Rattle.lra_analysis_spec.specs.Thresholds.{condition_rows}
use Rattle.lra_linearize.specs.Thresholds.{HasTaken}
use Rattle.lra_linearize.proofs.CondSizes.{cond_size, chain_size}
use Rattle.lra_linearize.proofs.thresholds.+condition.Given as goal

abbrev pub decreases-take_condition : goal.decreases-take_condition
decreases-take_condition l = cond_size l.condition.now

abbrev pub decreases-take_chain : goal.decreases-take_chain
decreases-take_chain l = chain_size l.first.now l.rest.now

-- the rows of the first and of those so far
abbrev pub invariant-take_chain-rest : goal.invariant-take_chain-rest
invariant-take_chain-rest l = HasTaken l.fn.rows l.rows (condition_rows l.fn.rows.dims l.base
    (all_of (cond_view l.first) (map cond_view (take l.next-index l.rest))))
