-- Goals of `facets`: the rays of the cone of what is valid on the generators, and which generators they are tight
-- at.
use Rattle.std.proofs.Common.{◌∙◌, ap, length, suc, sym, ℕ}
use Rattle.lra_duality.specs.Crates.lra_systems.LinearSystems.{constraints, generators}
use Rattle.lra_duality.specs.Crates.{lra_bits.Matrix.Matrix, lra_linear_spec.Descriptions.rays_of, lra_linear_spec.OperationStrain.unit_row}
use Rattle.lra_duality.proofs.Crates.lra_linear_spec.UnitRows.{unit_length}
use Rattle.lra_duality.proofs.FacetLemmas.{alone_matrix, alone_start, covered_matrix, covered_so, covered_start, matrix_rows, uncovered_so, values_width}
use Rattle.lra_duality.proofs.facets.facets.Goals as goal

pub mark_saturated-requires : goal.mark_saturated-requires
mark_saturated-requires c = ap length c.in_ok-positivity.ensures ∙ unit_length c.dims-n.result 0 ∙ ap suc (c.dims-n.ensures ∙ sym c.requires.dims)

pub inequality_saturation-requires : goal.inequality_saturation-requires
inequality_saturation-requires c =
    let list = c.args.list.now in
    matrix_rows list (generators c.args.by_generators.now) c.args.saturation.now (ap length (sym c.kinds-kinds.ensures.kinds) ∙ c.kinds-kinds.ensures.len) c.requires.saturation

pub is_covered-requires-clause-rows : goal.is_covered-requires-clause-rows
is_covered-requires-clause-rows c =
    let list = c.args.list.now in
    matrix_rows list (generators c.args.by_generators.now) c.args.saturation.now (ap length (sym c.kinds-kinds.ensures.kinds) ∙ c.kinds-kinds.ensures.len) c.requires.saturation ∙
    sym c.kinds-kinds.ensures.len

pub is_covered-requires-clause-width : goal.is_covered-requires-clause-width
is_covered-requires-clause-width c =
    values_width (generators c.args.by_generators.now) c.in_ok-positivity.positivity c.in_ok-directions.directions c.args.saturation.now c.in_ok-directions.ensures
    (ap (λ (m : Matrix). m.width) c.requires.saturation)

pub with_row-requires : goal.with_row-requires
with_row-requires c =
    let given = generators c.args.by_generators.now in
    values_width given c.in_ok-positivity.positivity c.in_ok-directions.directions c.in_ok-matrix.matrix c.in_ok-directions.ensures
    (ap (λ (m : Matrix). m.width) (c.in_ok-matrix.ensures given c.requires.saturation))

pub returns-then-is_covered-clause-cone : goal.returns-then-is_covered-clause-cone
returns-then-is_covered-clause-cone c =
    let list = c.args.list.now in
    let given = generators c.args.by_generators.now in
    let m = c.args.saturation.now in
    let values = c.in_ok-directions.directions in
    covered_start list given c.in_ok-rays.rays.items m c.in_ok-positivity.positivity values (record {
      polyhedron = c.requires.polyhedron;
      some = c.requires.some;
      many = ap length (sym c.kinds-kinds.ensures.kinds) ∙ c.kinds-kinds.ensures.len;
      few = c.requires.few;
      rays_are = c.in_ok-rays.ensures;
      saturation = c.requires.saturation;
      is_positive = c.in_ok-positivity.ensures ∙ ap (λ (n : ℕ). unit_row n 0) c.dims-n.ensures;
      told = c.in_ok-directions.ensures;
    }) (covered_so c.kinds-kinds.result.now list.kinds m.rows values c.is_covered.result c.kinds-kinds.ensures.kinds c.is_covered.ensures c.if-is_covered.true)

pub returns-then-is_covered-clause-saturation : goal.returns-then-is_covered-clause-saturation
returns-then-is_covered-clause-saturation c =
    let given = generators c.args.by_generators.now in
    covered_matrix given c.in_ok-rays.rays.items (rays_of (constraints c.args.list.now)) c.in_ok-matrix.matrix c.in_ok-rays.ensures (c.in_ok-matrix.ensures given c.requires.saturation)

pub returns-clause-cone : goal.returns-clause-cone
returns-clause-cone c =
    let list = c.args.list.now in
    let given = generators c.args.by_generators.now in
    let m = c.args.saturation.now in
    let values = c.in_ok-directions.directions in
    alone_start list given c.in_ok-rays.rays.items c.in_ok-whole.whole.0.items m c.in_ok-positivity.positivity values (record {
      polyhedron = c.requires.polyhedron;
      some = c.requires.some;
      many = ap length (sym c.kinds-kinds.ensures.kinds) ∙ c.kinds-kinds.ensures.len;
      few = c.requires.few;
      rays_are = c.in_ok-rays.ensures;
      saturation = c.requires.saturation;
      is_positive = c.in_ok-positivity.ensures ∙ ap (λ (n : ℕ). unit_row n 0) c.dims-n.ensures;
      told = c.in_ok-directions.ensures;
    }) (uncovered_so c.kinds-kinds.result.now list.kinds m.rows values c.is_covered.result c.kinds-kinds.ensures.kinds c.is_covered.ensures c.if-is_covered.false)
    c.in_ok-whole.ensures.rays

pub returns-clause-saturation : goal.returns-clause-saturation
returns-clause-saturation c =
    let given = generators c.args.by_generators.now in
    alone_matrix given c.in_ok-rays.rays.items (rays_of (constraints c.args.list.now)) c.in_ok-whole.whole.0.items c.in_ok-matrix.matrix c.in_ok-whole.whole.1 c.in_ok-positivity.positivity
    c.in_ok-directions.directions c.in_ok-rays.ensures (c.in_ok-matrix.ensures given c.requires.saturation) c.in_ok-whole.ensures.rays c.in_ok-directions.ensures c.in_ok-whole.ensures.matrix
