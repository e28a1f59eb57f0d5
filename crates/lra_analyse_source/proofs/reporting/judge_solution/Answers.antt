-- Goals of `judge_solution`: what fits, and which accesses lie inside their arrays.
use Rattle.lra_analyse_source.proofs.reporting.judge_solution.Goals as goal

pub returns-clause-accesses : goal.returns-clause-accesses
returns-clause-accesses g c = rw c.deref-2.ensures.value at c.in_ok-inside.ensures
