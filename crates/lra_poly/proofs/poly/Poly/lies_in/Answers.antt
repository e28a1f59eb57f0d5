-- Goals of `Poly::lies_in`: whether it is known that each point is in the other.
use Rattle.lra_duality.specs.declared.inclusion.Inclusion.TheVariants.{No, Wide}
use Rattle.lra_poly.proofs.MetRows.{is_other, is_yes, no_is_not_yes, wide_is_not_yes}
use Rattle.lra_poly.proofs.poly.Poly.lies_in.Goals as goal

pub returns-in-Yes-clause-first : goal.returns-in-Yes-clause-first
returns-in-Yes-clause-first c = is_yes c.args.other.now.rows c.args.self.now.generators c.included.result c.included.ensures.first c.in-Yes.is

pub returns-in-No-clause-first : goal.returns-in-No-clause-first
returns-in-No-clause-first c = is_other c.args.other.now.rows c.args.self.now.generators c.included.result (No c.in-No.field-0) c.included.ensures.first c.in-No.is
    (no_is_not_yes c.in-No.field-0)

pub returns-in-Wide-clause-first : goal.returns-in-Wide-clause-first
returns-in-Wide-clause-first c = is_other c.args.other.now.rows c.args.self.now.generators c.included.result (Wide c.in-Wide.field-0 c.in-Wide.field-1) c.included.ensures.first c.in-Wide.is
    (wide_is_not_yes c.in-Wide.field-0 c.in-Wide.field-1)
