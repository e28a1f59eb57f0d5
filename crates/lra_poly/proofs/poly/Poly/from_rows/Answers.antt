-- Goals of `Poly::from_rows`: the polyhedron of the constraints.
use Rattle.std.proofs.Common.{[]}
use Rattle.lra_poly.specs.Crates.lra_linear_spec.OperationStrain.{FromRowsStrains, with_positivity}
use Rattle.lra_poly.specs.Crates.{lra_linear_spec.Descriptions.Con, lra_systems.LinearSystems.constraints}
use Rattle.lra_poly.proofs.{MetRows.tried_of, PolyLemmas.becomes_told}
use Rattle.lra_poly.proofs.poly.Poly.from_rows.Goals as goal

pub returns-clause-becomes : goal.returns-clause-becomes
returns-clause-becomes c =
    let n = c.args.rows.now.dims in
    let list = constraints c.args.rows.now in
    becomes_told n (Con list) (FromRowsStrains n list) c.of_pair-made.result c.in_ok-pair.pair c.outcome_of.result c.in_ok-pair.losses.items c.of_pair-made.ensures c.outcome_of.ensures
    c.in_ok-pair.ensures.becomes

pub returns-clause-tried : goal.returns-clause-tried
returns-clause-tried c =
    let n = c.args.rows.now.dims in
    tried_of n (with_positivity n []) (constraints c.args.rows.now) c.of_pair-made.result c.in_ok-pair.pair c.outcome_of.result c.in_ok-pair.losses.items c.of_pair-made.ensures c.outcome_of.ensures
    c.in_ok-pair.ensures.tried
