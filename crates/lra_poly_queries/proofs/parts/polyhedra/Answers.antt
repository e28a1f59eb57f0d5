-- Goals of `polyhedra`: a polyhedron for each list.
use Rattle.std.proofs.Common.{◌+◌, take}
use Rattle.lra_poly_queries.proofs.PartLemmas.{one_made, part_more}
use Rattle.lra_poly_queries.proofs.parts.polyhedra.Goals as goal

pub loop-part-preserved : goal.loop-part-preserved
loop-part-preserved c =
    let parts = c.args.parts.now in
    let i = c.loop-part.part-index in
    one_made (take i parts) (take (i + 1) parts) c.loop-part.made.items c.push.new.self.items c.part-item.result
    c.in_ok-polyhedron.polyhedron c.loop-part.outcome c.in_ok-polyhedron.told c.and-outcome.result
    (part_more parts i c.part-item.result c.loop-part-test.true c.part-item.is) c.in_ok-push.ensures.items
    c.and-outcome.ensures.first c.loop-part.invariant c.in_ok-polyhedron.ensures.becomes
