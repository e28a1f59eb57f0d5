-- Goals of `relate`: how the constraint stands to the polyhedron.
use Rattle.std.proofs.Common.{List, subst}
use Rattle.lra_poly_queries.specs.Crates.{lra_linear_spec.Descriptions.LinearRow, lra_linear_spec.Kinds.is_equality}
use Rattle.lra_poly_queries.specs.Relations.{AreMissed}
use Rattle.lra_poly_queries.proofs.RelationLemmas.{related}
use Rattle.lra_poly_queries.proofs.relation.relate.Goals as goal

pub returns-clause-relation : goal.returns-clause-relation
returns-clause-relation c =
    related c.args.p.now c.generators.ensures.canonical
    (record { row = c.args.form.now; equal = is_equality c.args.kind }) c.requires c.in_ok-missed.missed
    (subst (λ (l : List LinearRow). AreMissed c.args.form.now l c.in_ok-missed.missed) c.generators.ensures.generators
    c.in_ok-missed.ensures.missed)
    c.relation_of.result c.relation_of.ensures.flat c.relation_of.ensures.unmet c.relation_of.ensures.inequality
    c.relation_of.ensures.equality
