-- Goals of `make_of_generators`: the polyhedron of the points that the generators generate.
use Rattle.std.proofs.Common.{map, ◌∙◌}
use Rattle.lra_calc.specs.Crates.{lra_linear_spec.Descriptions.Gen as generated_by, lra_linear_spec.OperationStrain.FromGeneratorsStrains}
use Rattle.lra_script.specs.{LineForms.row_of_generator, Views.generator_view}
use Rattle.lra_calc.proofs.MakingLemmas.{made_as_told, map_map}
use Rattle.lra_calc.proofs.making.make_of_generators.Goals as goal

pub returns-clause-made : goal.returns-clause-made
returns-clause-made c =
    let n = c.args.n in
    let given = map row_of_generator (map generator_view c.args.generators.now) in
    let made = c.in_ok-generators.ensures.made ∙ map_map row_of_generator generator_view c.args.generators.now in
    let becomes = rw (c.in_ok-generators.ensures.dims, made) at c.in_ok-polyhedron.ensures.becomes in
    made_as_told n (generated_by given) (FromGeneratorsStrains n given) c.in_ok-polyhedron.polyhedron c.make_with.result.polyhedron c.in_ok-polyhedron.outcome c.make_with.result.is_flagged
    c.make_with.ensures.polyhedron c.make_with.ensures.flagged c.make_with.ensures.formed becomes
