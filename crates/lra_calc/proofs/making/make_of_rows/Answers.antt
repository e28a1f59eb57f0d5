-- Goals of `make_of_rows`: the polyhedron of the points at which the constraints hold.
use Rattle.std.proofs.Common.{map}
use Rattle.lra_calc.specs.Crates.{lra_linear_spec.Descriptions.Con as points_of, lra_linear_spec.OperationStrain.FromRowsStrains}
use Rattle.lra_script.specs.Views.{constraint_of}
use Rattle.lra_calc.proofs.MakingLemmas.{made_as_told}
use Rattle.lra_calc.proofs.making.make_of_rows.Goals as goal

pub returns-clause-made : goal.returns-clause-made
returns-clause-made c =
    let n = c.args.n in
    let given = map constraint_of c.args.rows.now in
    let becomes = rw (c.in_ok-constraints.ensures.dims, c.in_ok-constraints.ensures.made) at c.in_ok-polyhedron.ensures.becomes in
    made_as_told n (points_of given) (FromRowsStrains n given) c.in_ok-polyhedron.polyhedron c.make_with.result.polyhedron c.in_ok-polyhedron.outcome c.make_with.result.is_flagged
    c.make_with.ensures.polyhedron c.make_with.ensures.flagged c.make_with.ensures.formed becomes
