-- Goals of `Poly::unite`: the polyhedron of its generators and of these.
use Rattle.std.proofs.Common.{◌++◌}
use Rattle.lra_poly.specs.Crates.{lra_linear_spec.Descriptions.Gen, lra_linear_spec.OperationStrain.FromGeneratorsStrains, lra_systems.LinearSystems.generators}
use Rattle.lra_poly.proofs.{PolyLemmas.exactly, UnitedLists.unites_anew}
use Rattle.lra_poly.proofs.poly.Poly.unite.Goals as goal

pub returns-in-Some-clause-becomes : goal.returns-in-Some-clause-becomes
returns-in-Some-clause-becomes c =
    let p = c.args.self.now in
    let list = p.generators ++ generators c.args.more.now in
    let made = rw c.in-Some.is at c.in_ok-made.ensures.made in
    exactly p.dims (Gen list) (FromGeneratorsStrains p.dims list) c.in-Some.made made

pub returns-in_ok-made-in-None-clause-anew : goal.returns-in_ok-made-in-None-clause-anew
returns-in_ok-made-in-None-clause-anew c =
    let stops = rw c.in-None.is at c.in_ok-made.ensures.none in
    unites_anew c.args.self.now c.in_ok-made-in-None.made (generators c.args.more.now) c.in_ok-made-in-None.outcome stops c.in_ok-made-in-None.ensures.tried
