-- Goals of `box_rows_are_bounds`: does nothing.
use Rattle.std.proofs.Common.{length, arith}
use Rattle.lra_box.proofs.RowLemmas.{equal_echelon, equal_exact, pivots_from, unequal_ascend, unequal_exact}
use Rattle.lra_box.proofs.law.box_rows_are_bounds.Goals as goal

pub returns-clause-echelon : goal.returns-clause-echelon
returns-clause-echelon c = λ is. (pivots_from 0 is, equal_echelon (length is) 0 is (omega arith))

pub returns-clause-ascend : goal.returns-clause-ascend
returns-clause-ascend c = λ is. unequal_ascend (length is) 0 is (omega arith)

pub returns-clause-equalities : goal.returns-clause-equalities
returns-clause-equalities c = λ is r. equal_exact (length is) is r

pub returns-clause-inequalities : goal.returns-clause-inequalities
returns-clause-inequalities c = λ is r. unequal_exact (length is) is r
