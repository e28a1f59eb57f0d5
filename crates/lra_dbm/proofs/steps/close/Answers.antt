-- Goals of `close`: closes the matrix in place.
use Rattle.lra_dbm.proofs.Closes.{matrix_by}
use Rattle.lra_dbm.proofs.steps.close.Goals as goal

pub returns-clause-is : goal.returns-clause-is
returns-clause-is c = matrix_by c.args.n c.args.cells.now c.run_steps.new.cells c.run_steps.result.is_empty c.run_steps.result.is_flagged c.requires.is c.run_steps.ensures
