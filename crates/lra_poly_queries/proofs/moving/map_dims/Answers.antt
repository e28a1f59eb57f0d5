-- Goals of `map_dims`: the polyhedron with these dimensions, in turn.
use Rattle.std.proofs.Common.{length}
use Rattle.lra_poly_queries.specs.Crates.lra_linear_spec.Descriptions.{Con}
use Rattle.lra_poly.proofs.TakenGenerators.{taken_becomes}
use Rattle.lra_poly_queries.specs.Moved.{MapDimsStrains, Moved, moved}
use Rattle.lra_poly_queries.proofs.MovedSets.{moved_takes}
use Rattle.lra_poly_queries.proofs.moving.map_dims.Goals as goal

pub returns : goal.returns
returns c =
    let p = c.args.p.now in
    let dims = c.args.dims.now in
    taken_becomes (length dims) (Moved p.dims dims (Con p.rows)) (moved dims p.generators) c.in_ok-list.list (MapDimsStrains dims p)
    c.in_ok-made.made c.in_ok-made.outcome
    (moved_takes p c.generators.result.now c.in_ok-list.list dims c.generators.ensures.canonical
    c.generators.ensures.generators c.in_ok-list.ensures.dims c.in_ok-list.ensures.generators)
    (λ loss s. s) c.in_ok-made.ensures.becomes
