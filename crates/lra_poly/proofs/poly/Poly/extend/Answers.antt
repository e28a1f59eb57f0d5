-- Goals of `Poly::extend`: the polyhedron of its generators and of these, which are added after them, by the lists at
-- hand.
use Rattle.std.proofs.Common.{ap, subst, sym}
use Rattle.lra_poly.specs.Crates.lra_linear_spec.Polyhedra.{IsPolyhedron, Polyhedron}
use Rattle.lra_poly.specs.Crates.{lra_linear_spec.Descriptions.AreGenerators, lra_systems.LinearSystems.constraints, lra_systems.LinearSystems.generators}
use Rattle.lra_poly.proofs.Crates.lra_systems.Generators.{fitting_are_generators}
use Rattle.lra_poly.proofs.{PolyLemmas.some_more, UnitedLists.no_cone, UnitedLists.strains_behind}
use Rattle.lra_description_pair.proofs.PairLosses.{if_none}
use Rattle.lra_poly.proofs.poly.Poly.extend.Goals as goal

pub of_facets-requires-clause-columns : goal.of_facets-requires-clause-columns
of_facets-requires-clause-columns c =
    let taken = rw c.in-Some.is at c.in_ok-cone.ensures.taken in
    subst AreGenerators (sym taken) (fitting_are_generators c.self.inside.by_generators c.self.invariant.2)

pub of_facets-requires-clause-some : goal.of_facets-requires-clause-some
of_facets-requires-clause-some c =
    let p = c.args.self.now in
    let more = c.args.more.now in
    let taken = rw c.in-Some.is at c.in_ok-cone.ensures.taken in
    let some = rw c.in-Some.is at c.in_ok-cone.ensures.some in
    let h : IsPolyhedron p = subst IsPolyhedron c.self.view_is c.self.invariant.0 in
    some_more p more.dims c.in-Some.cone.taken (generators c.self.inside.by_generators) (generators more) h c.requires.dims taken (ap (λ (x : Polyhedron). x.generators) c.self.view_is) some

pub returns-in_ok-made-in-Some-clause-none : goal.returns-in_ok-made-in-Some-clause-none
returns-in_ok-made-in-Some-clause-none c =
    let p = c.args.self.now in
    let more = c.args.more.now in
    let taken = rw c.in-Some.is at c.in_ok-cone.ensures.taken in
    if_none c.in_ok-made-in-Some.made _ _ (strains_behind p more.dims c.in-Some.cone.taken (generators c.self.inside.by_generators) (generators more) c.requires.dims taken
    (ap (λ (x : Polyhedron). x.generators) c.self.view_is)) c.in_ok-made-in-Some.ensures.none

pub returns-in-None-clause-none : goal.returns-in-None-clause-none
returns-in-None-clause-none c =
    let s = c.self.inside in
    let view : Polyhedron = record { dims = s.rows.dims; rows = constraints s.rows; generators = generators s.by_generators } in
    let fails = rw c.in-None.is at c.in_ok-cone.ensures.none in
    no_cone c.args.self.now view (generators c.args.more.now) c.self.view_is fails
