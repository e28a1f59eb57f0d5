-- Goals of `included`: whether the first lies in the second.
use Rattle.std.proofs.Common.{sym}
use Rattle.lra_poly_domain.specs.Covering.{covered_from}
use Rattle.lra_poly_domain.proofs.outcomes.included.Goals as goal

pub returns-in-Yes : goal.returns-in-Yes
returns-in-Yes c = covered_from c.args.p.now c.args.q.now c.rows-canonical.ensures.canonical (sym c.requires) c.in-Yes.ensures.tells
