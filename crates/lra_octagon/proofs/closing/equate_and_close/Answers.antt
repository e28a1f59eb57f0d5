-- Goals of `equate_and_close`: makes `x` equal to `v_i + c`, and closes.
use Rattle.std.proofs.Common.{rules}
use Rattle.lra_octagon.specs.Content.{matrix_view}
use Rattle.lra_octagon.proofs.EnterLemmas.{equated_to}
use Rattle.lra_octagon.proofs.closing.equate_and_close.Goals as goal

pub returns-clause-equated : goal.returns-clause-equated
returns-clause-equated c =
    equated_to c.args.n c.args.x c.args.i c.args.c c.args.matrix.cells c.equate.new.matrix.cells (matrix_view c.close.result.0) c.close.result.1 (search rules) (search rules)
