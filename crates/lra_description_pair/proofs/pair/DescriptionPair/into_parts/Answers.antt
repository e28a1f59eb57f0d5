-- Goals of `DescriptionPair::into_parts`: both lists, handed on, and the matrix.
use Rattle.lra_description_pair.proofs.pair.DescriptionPair.into_parts.Goals as goal

pub returns-clause-limit : goal.returns-clause-limit
returns-clause-limit c = rw (← c.self.view_is) c.self.invariant.3

pub returns-clause-saturation : goal.returns-clause-saturation
returns-clause-saturation c = c.self.invariant.4
