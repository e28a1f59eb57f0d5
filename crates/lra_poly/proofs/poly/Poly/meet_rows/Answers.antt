-- Goals of `Poly::meet_rows`: the same, if these are added after those, by the lists at hand.
use Rattle.std.proofs.Common.{◌∙◌, ap, sym}
use Rattle.lra_poly.specs.Crates.{lra_linear_spec.Polyhedra.Polyhedron, lra_systems.LinearSystems.constraints, lra_systems.LinearSystems.generators}
use Rattle.lra_poly.specs.Restricted.{IsMetWith}
use Rattle.lra_poly.proofs.{MetRows.met_anew, MetRows.met_becomes, MetRows.met_onward, PolyLemmas.kept_positive}
use Rattle.lra_poly.proofs.poly.Poly.meet_rows.Goals as goal

pub of_cone-requires-clause-positive : goal.of_cone-requires-clause-positive
of_cone-requires-clause-positive c =
    let s = c.self.inside in
    let taken = rw c.in-Some.is at c.in_ok-cone.ensures.taken in
    kept_positive s.rows.dims c.args.more.now.dims c.in-Some.cone.taken (constraints s.rows) taken
    (ap (λ (q : Polyhedron). q.dims) c.self.view_is ∙ sym c.requires)

pub returns-in_ok-made-in-Some-clause-becomes : goal.returns-in_ok-made-in-Some-clause-becomes
returns-in_ok-made-in-Some-clause-becomes c =
    let p = c.args.self.now in
    let s = c.self.inside in
    let view : Polyhedron = record { dims = s.rows.dims; rows = constraints s.rows; generators = generators s.by_generators } in
    let more = constraints c.args.more.now in
    let made = c.in_ok-made-in-Some.made in
    let o = c.in_ok-made-in-Some.outcome in
    let may = rw c.in-Some.is at c.in_ok-cone.ensures.some in
    let taken = rw c.in-Some.is at c.in_ok-cone.ensures.taken in
    let met : IsMetWith p more made o = met_onward p view c.in-Some.cone.taken more c.args.more.now.dims made o c.self.view_is may taken c.requires c.in_ok-made-in-Some.ensures in
    met_becomes p made more o met

pub returns-in_ok-made-in-Some-clause-met : goal.returns-in_ok-made-in-Some-clause-met
returns-in_ok-made-in-Some-clause-met c =
    let s = c.self.inside in
    let view : Polyhedron = record { dims = s.rows.dims; rows = constraints s.rows; generators = generators s.by_generators } in
    let may = rw c.in-Some.is at c.in_ok-cone.ensures.some in
    let taken = rw c.in-Some.is at c.in_ok-cone.ensures.taken in
    met_onward c.args.self.now view c.in-Some.cone.taken (constraints c.args.more.now) c.args.more.now.dims c.in_ok-made-in-Some.made c.in_ok-made-in-Some.outcome c.self.view_is may taken
    c.requires c.in_ok-made-in-Some.ensures

pub returns-in_ok-made-in-None-clause-becomes : goal.returns-in_ok-made-in-None-clause-becomes
returns-in_ok-made-in-None-clause-becomes c =
    let p = c.args.self.now in
    let s = c.self.inside in
    let view : Polyhedron = record { dims = s.rows.dims; rows = constraints s.rows; generators = generators s.by_generators } in
    let more = constraints c.args.more.now in
    let made = c.in_ok-made-in-None.made in
    let o = c.in_ok-made-in-None.outcome in
    let fails = rw c.in-None.is at c.in_ok-cone.ensures.none in
    let met : IsMetWith p more made o = met_anew p view more made o c.self.view_is fails c.in_ok-made-in-None.ensures in
    met_becomes p made more o met

pub returns-in_ok-made-in-None-clause-met : goal.returns-in_ok-made-in-None-clause-met
returns-in_ok-made-in-None-clause-met c =
    let s = c.self.inside in
    let view : Polyhedron = record { dims = s.rows.dims; rows = constraints s.rows; generators = generators s.by_generators } in
    let fails = rw c.in-None.is at c.in_ok-cone.ensures.none in
    met_anew c.args.self.now view (constraints c.args.more.now) c.in_ok-made-in-None.made c.in_ok-made-in-None.outcome c.self.view_is fails c.in_ok-made-in-None.ensures
