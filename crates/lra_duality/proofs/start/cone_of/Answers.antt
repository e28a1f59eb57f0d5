-- Goals of `cone_of`: the cone of the constraints, by these generators; none if there is no generator, or are more,
-- lines counted with them, than a cone may have rays, or too many dimensions.
use Rattle.std.proofs.Common.{ℕ, subst}
use Rattle.lra_duality.specs.Crates.{lra_linear_spec.ConeStrain.row_limit, lra_linear_spec.Kinds.is_line, lra_systems.LinearSystems.constraints, lra_systems.LinearSystems.generators}
use Rattle.lra_duality.specs.Incremental.{MayGoOn}
use Rattle.lra_duality.proofs.KeptCones.{start_cone}
use Rattle.lra_duality.proofs.StartLemmas.{few_given, fitting, given_count, matrix_width, not_fitting, some_given, start_matrix}
use Rattle.lra_duality.proofs.start.cone_of.Goals as goal

pub ray_saturation-requires : goal.ray_saturation-requires
ray_saturation-requires c =
    let list = c.args.by_generators.now in
    matrix_width is_line (constraints c.args.list.now) list.rows c.rows-columns.result.now list.kinds c.kinds-kinds.result.now c.args.saturation.now c.rows-columns.ensures.rows
    c.kinds-kinds.ensures.kinds c.kinds-kinds.ensures.len c.requires.saturation

pub of_lists-cone-requires-clause-cone : goal.of_lists-cone-requires-clause-cone
of_lists-cone-requires-clause-cone c =
    let list = c.args.by_generators.now in
    let columns = c.rows-columns.result.now in
    let kinds = c.kinds-kinds.result.now in
    start_cone c.args.list.now.dims (constraints c.args.list.now) (generators list) c.in_ok-taken.taken c.in_ok-lines.lines.items c.in_ok-rays.rays.items c.requires.polyhedron
    (some_given is_line list.rows columns list.kinds kinds c.rows-columns.ensures.rows c.kinds-kinds.ensures.kinds c.kinds-kinds.ensures.len (c.fits.ensures.some c.if-not-fits.false))
    (few_given is_line list.rows columns list.kinds kinds row_limit c.rows-columns.ensures.rows c.kinds-kinds.ensures.kinds c.kinds-kinds.ensures.len
    (c.fits.ensures.few c.if-not-fits.false))
    c.in_ok-taken.ensures.dims c.in_ok-taken.ensures.taken c.in_ok-lines.ensures c.in_ok-rays.ensures

pub of_lists-cone-requires-clause-saturation : goal.of_lists-cone-requires-clause-saturation
of_lists-cone-requires-clause-saturation c =
    let list = c.args.by_generators.now in
    start_matrix c.args.list.now.dims list.dims (constraints c.args.list.now) (generators list) (constraints c.in_ok-taken.taken) c.in_ok-rays.rays.items c.in_ok-matrix.matrix c.requires.dims
    c.in_ok-taken.ensures.taken c.in_ok-rays.ensures (c.in_ok-matrix.ensures (constraints c.args.list.now) c.requires.saturation)

pub returns-clause-some : goal.returns-clause-some
returns-clause-some c =
    let list = c.args.by_generators.now in
    let count = given_count is_line list.rows c.rows-columns.result.now list.kinds c.kinds-kinds.result.now c.rows-columns.ensures.rows c.kinds-kinds.ensures.kinds c.kinds-kinds.ensures.len in
    subst (λ (n : ℕ). MayGoOn n (generators list)) c.dims.ensures
    (fitting c.dims.result _ (generators list) (c.fits.ensures.small c.if-not-fits.false) (c.fits.ensures.some c.if-not-fits.false) (c.fits.ensures.few c.if-not-fits.false) count)

pub returns-then-not-fits-clause-none : goal.returns-then-not-fits-clause-none
returns-then-not-fits-clause-none c =
    let list = c.args.by_generators.now in
    let count = given_count is_line list.rows c.rows-columns.result.now list.kinds c.kinds-kinds.result.now c.rows-columns.ensures.rows c.kinds-kinds.ensures.kinds c.kinds-kinds.ensures.len in
    subst (λ (n : ℕ). ¬ (MayGoOn n (generators list))) c.dims.ensures
    (not_fitting c.dims.result _ (generators list) c.fits.result c.fits.ensures.fits c.if-not-fits.true count)
