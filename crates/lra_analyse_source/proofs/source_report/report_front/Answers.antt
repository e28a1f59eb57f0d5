-- Goals of `report_front`: the report of the iteration over the tree of operations of what is read of a source.
use Rattle.lra_analyse_source.proofs.source_report.report_front.Goals as goal

pub solve_front-requires-clause-parts : goal.solve_front-requires-clause-parts
solve_front-requires-clause-parts g c = rw c.requires.plan c.requires.parts

pub report_solution-requires-clause-solved : goal.report_solution-requires-clause-solved
report_solution-requires-clause-solved g c = rw c.requires.plan at c.in_ok-solution.ensures
