-- Goals of `give_up`: lets the coordinate x be anything, or gives at least those points.
use Rattle.std.proofs.Common.{suc}
use Rattle.lra_poly_images.proofs.GivenUp.{is_forgotten}
use Rattle.lra_poly_images.proofs.images.give_up.Goals as goal

pub returns-clause-forgotten : goal.returns-clause-forgotten
returns-clause-forgotten c =
    is_forgotten (suc c.args.x) c.args.p.now c.forget.new.p c.in_ok-_outcome._outcome c.in_ok-_outcome.ensures.becomes
