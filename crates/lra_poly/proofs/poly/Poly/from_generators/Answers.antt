-- Goals of `Poly::from_generators`: the polyhedron of the generators.
use Rattle.lra_poly.specs.Crates.{lra_linear_spec.Descriptions.Gen, lra_linear_spec.OperationStrain.FromGeneratorsStrains, lra_systems.LinearSystems.generators}
use Rattle.lra_poly.proofs.{PolyLemmas.becomes_told, UnitedLists.tried_points}
use Rattle.lra_poly.proofs.poly.Poly.from_generators.Goals as goal

pub returns-clause-becomes : goal.returns-clause-becomes
returns-clause-becomes c =
    let n = c.args.given.now.dims in
    let list = generators c.args.given.now in
    becomes_told n (Gen list) (FromGeneratorsStrains n list) c.of_pair-made.result c.in_ok-pair.pair c.outcome_of.result c.in_ok-pair.losses.items c.of_pair-made.ensures c.outcome_of.ensures
    c.in_ok-pair.ensures.becomes

pub returns-clause-tried : goal.returns-clause-tried
returns-clause-tried c = tried_points c.args.given.now.dims (generators c.args.given.now) c.of_pair-made.result c.in_ok-pair.pair c.outcome_of.result c.in_ok-pair.losses.items c.of_pair-made.ensures
    c.outcome_of.ensures c.in_ok-pair.ensures.made
