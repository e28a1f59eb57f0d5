-- The goal of `stores_are_inductive`: by the laws of the domain.
use Rattle.lra_inductive_sound.proofs.Stores.{stores_closed}
use Rattle.lra_inductive_sound.proofs.laws.stores_are_inductive.Goals as goal

pub returns : goal.returns
returns g c = stores_closed g.D.Domain.abstraction g.met.D.Domain.laws
