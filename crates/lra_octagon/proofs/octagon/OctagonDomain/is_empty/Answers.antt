-- Goals of `OctagonDomain::is_empty`: yes exactly if there is no part; of a tight octagon, exactly if there is
-- no store.
use Rattle.lra_octagon.proofs.LeastLemmas.{no_store}
use Rattle.lra_octagon.proofs.octagon.OctagonDomain.is_empty.Goals as goal

pub returns-clause-tight : goal.returns-clause-tight
returns-clause-tight c = rw (← c.self.view_is) (no_store c.self.inside.dims c.self.inside.matrix c.is_none.result c.is_none.ensures c.self.invariant.2)
