-- Goals of `of_pair`: the polyhedron of the pair.
use Rattle.std.proofs.Common.{subst, sym}
use Rattle.lra_poly.specs.Crates.lra_bits.Matrix.{Matrix}
use Rattle.lra_poly.proofs.RepresentableLemmas.{AreKept, taken_over}
use Rattle.lra_poly.proofs.poly.of_pair.Goals as goal

pub invariant_of-result : goal.invariant_of-result
invariant_of-result c =
    let rows = c.into_parts-rows.result.0 in
    let list = c.into_parts-rows.result.1 in
    let told = c.into_parts-rows.ensures in
    subst (λ (m : Matrix). AreKept rows list m) (sym told.saturation)
    (taken_over c.args.pair rows list told.dims told.rows told.generator_dims told.generators told.kinds told.canonical told.limit)
