-- Goals of `octagon_rows_are_bounds`: does nothing.
use Rattle.std.proofs.Common.{arith}
use Rattle.lra_octagon.proofs.RowLemmas.{equal_ascend, equal_exact, unequal_ascend, unequal_exact}
use Rattle.lra_octagon.proofs.law.octagon_rows_are_bounds.Goals as goal

pub returns-clause-equalities_ascend : goal.returns-clause-equalities_ascend
returns-clause-equalities_ascend c = λ n m. equal_ascend n m 0 n (omega arith)

pub returns-clause-inequalities_ascend : goal.returns-clause-inequalities_ascend
returns-clause-inequalities_ascend c = λ n m. unequal_ascend n m 0 n (omega arith)

pub returns-clause-equalities : goal.returns-clause-equalities
returns-clause-equalities c = λ n m r. equal_exact n m r

pub returns-clause-inequalities : goal.returns-clause-inequalities
returns-clause-inequalities c = λ n m r. unequal_exact n m r
