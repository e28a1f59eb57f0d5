-- Goals of `==` of polyhedra.
use Rattle.lra_poly.proofs.SameLemmas.{same_is_eq}
use Rattle.lra_poly.proofs.compared.PolyPartialEq.eq.Goals as goal

pub returns : goal.returns
returns c = same_is_eq c.args.self.now c.args.other.now c.same.result c.same.ensures.lists
