-- Goals of `copy_closed`: the closure of a head's matrix.
use Rattle.lra_octagon.specs.Content.{matrix_view}
use Rattle.lra_octagon.proofs.TransferLemmas.{closed_value_of}
use Rattle.lra_octagon.proofs.bounds.copy_closed.Goals as goal

pub returns-in_ok-copy-in-Some-clause-values : goal.returns-in_ok-copy-in-Some-clause-values
returns-in_ok-copy-in-Some-clause-values c =
    closed_value_of c.args.n c.args.bounds.now c.in-Some.matrix c.in_ok-copy-in-Some.copy (matrix_view c.close-closed.result.0) c.close-closed.result.1
    c.in-Some.is c.in_ok-copy-in-Some.ensures c.requires.fit c.close-closed.ensures.closed
