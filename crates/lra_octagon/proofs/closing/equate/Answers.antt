-- Goals of `equate`: makes `x` equal to `v_i + c`.
use Rattle.std.proofs.Common.{rules}
use Rattle.lra_octagon.proofs.EnterLemmas.{equates_of}
use Rattle.lra_octagon.proofs.closing.equate.Goals as goal

pub returns-clause-equated : goal.returns-clause-equated
returns-clause-equated c =
    equates_of c.args.n c.args.x c.args.i c.args.c c.args.matrix.now.cells c.free.new.matrix c.enter.new.self c.enter-2.new.self
    c.free.ensures.forgets (search rules) (search rules)
