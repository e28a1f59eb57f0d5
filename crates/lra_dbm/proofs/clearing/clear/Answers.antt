-- Goals of `clear`: all entries of variable `x` become infinite, those of the diagonal apart.
use Rattle.lra_dbm.proofs.Clears.{forgotten_matrix}
use Rattle.lra_dbm.proofs.clearing.clear.Goals as goal

pub returns-clause-is : goal.returns-clause-is
returns-clause-is c =
    forgotten_matrix c.args.n c.args.x c.args.cells.now c.clear_row.new.cells c.clear_row-2.new.cells c.requires.place c.requires.is
    c.clear_row.ensures c.clear_row-2.ensures
