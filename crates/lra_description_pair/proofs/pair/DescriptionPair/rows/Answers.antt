-- Goals of `DescriptionPair::rows`: the constraints, in canonical order.
use Rattle.lra_description_pair.proofs.pair.DescriptionPair.rows.Goals as goal

pub returns-clause-limit : goal.returns-clause-limit
returns-clause-limit c = rw (← c.self.view_is) c.self.invariant.3
