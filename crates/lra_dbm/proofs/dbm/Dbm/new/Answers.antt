-- Goals of `Dbm::new`: all entries of `n` variables infinite, those of the diagonal 0.
use Rattle.std.proofs.Common.{subst, sym}
use Rattle.lra_dbm.specs.Cells.{Cells, IsMatrix}
use Rattle.lra_dbm.proofs.Grows.{none_matrix, from_none}
use Rattle.lra_dbm.proofs.dbm.Dbm.new.Goals as goal

pub grow-requires-clause-is : goal.grow-requires-clause-is
grow-requires-clause-is c = subst (λ (cells : Cells). IsMatrix 0 cells) (sym c.new-cells.ensures.items) none_matrix

pub returns-clause-entries : goal.returns-clause-entries
returns-clause-entries c = from_none c.args.n c.new-cells.result.items c.grow.new.cells.items c.new-cells.ensures.items c.in_ok-grow.ensures.entries
