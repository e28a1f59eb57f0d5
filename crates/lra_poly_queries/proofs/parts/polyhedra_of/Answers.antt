-- Goals of `polyhedra_of`: the polyhedra of the value's parts.
use Rattle.lra_poly_queries.proofs.PartLemmas.{dims_of, made_of, some_has, stores_back}
use Rattle.lra_poly_queries.proofs.parts.polyhedra_of.Goals as goal

pub returns-clause-dims : goal.returns-clause-dims
returns-clause-dims g c =
    let n = g.D.Domain.abstraction.dims c.args.value.now in
    let made = made_of c.as_slice.result.now c.in_ok-parts.parts.items c.in_ok-made.made.items c.in_ok-made.outcome
    c.as_slice.ensures.value c.in_ok-made.ensures in
    dims_of n c.in_ok-parts.parts.items c.in_ok-made.made.items made.around c.in_ok-parts.ensures.dims

pub returns-clause-stores : goal.returns-clause-stores
returns-clause-stores g c s has =
    let n = g.D.Domain.abstraction.dims c.args.value.now in
    let made = made_of c.as_slice.result.now c.in_ok-parts.parts.items c.in_ok-made.made.items c.in_ok-made.outcome
    c.as_slice.ensures.value c.in_ok-made.ensures in
    some_has n c.in_ok-parts.parts.items c.in_ok-made.made.items s c.in_ok-parts.ensures.dims
    (g.met.D.Domain.laws.sized c.args.value.now s c.is_empty-formed.ensures.formed has) made.around
    (c.in_ok-parts.ensures.hold s has)

pub returns-clause-back : goal.returns-clause-back
returns-clause-back g c =
    stores_back (g.D.Domain.abstraction.dims c.args.value.now) c.in_ok-parts.parts.items
    (g.D.Domain.abstraction.parts c.args.value.now) c.in_ok-made.made.items c.in_ok-made.outcome
    c.in_ok-parts.ensures.parts c.in_ok-parts.ensures.dims
    (made_of c.as_slice.result.now c.in_ok-parts.parts.items c.in_ok-made.made.items c.in_ok-made.outcome
    c.as_slice.ensures.value c.in_ok-made.ensures)
