-- Goals of `move_lists`: the image under the assignment of the form to the column, which the other form takes back.
use Rattle.std.proofs.{Common.subst, Common.sym, lemmas.Result.err_from_is_err_and}
use Rattle.lra_poly_images.specs.Crates.lra_systems.LinearSystems.{constraints, generators}
use Rattle.lra_poly_images.specs.Crates.{lra_linear_spec.Descriptions.Con, lra_linear_spec.Polyhedra.IsPolyhedronOf, lra_linear_spec.SetOperations.Image}
use Rattle.lra_poly_images.proofs.{KeptLists.generators_pass, KeptLists.rows_pass, MovedPolyhedra.image_limit, MovedPolyhedra.is_moving, MovedPolyhedra.moved_image}
use Rattle.lra_poly_images.proofs.moved.move_lists.Goals as goal

pub from_canonical-requires-clause-canonical : goal.from_canonical-requires-clause-canonical
from_canonical-requires-clause-canonical c =
    let p = c.args.p.now in
    let rows = c.in_ok-rows.rows in
    let list = c.in_ok-by_generators.by_generators in
    let m = is_moving p c.rows.result.now c.generators.result.now c.args.column c.args.form.now c.args.back.now rows list
    c.rows.ensures.canonical c.requires.some c.requires.above c.requires.back c.rows.ensures.dims c.rows.ensures.rows
    c.generators.ensures.dims c.generators.ensures.generators c.in_ok-rows.ensures.made
    c.in_ok-by_generators.ensures.made c.in_ok-rows.ensures.dims in
    (moved_image p c.args.column c.args.form.now c.args.back.now rows list m).0.canonical

pub from_canonical-requires-clause-kinds : goal.from_canonical-requires-clause-kinds
from_canonical-requires-clause-kinds c =
    let p = c.args.p.now in
    let rows = c.in_ok-rows.rows in
    let list = c.in_ok-by_generators.by_generators in
    let m = is_moving p c.rows.result.now c.generators.result.now c.args.column c.args.form.now c.args.back.now rows list
    c.rows.ensures.canonical c.requires.some c.requires.above c.requires.back c.rows.ensures.dims c.rows.ensures.rows
    c.generators.ensures.dims c.generators.ensures.generators c.in_ok-rows.ensures.made
    c.in_ok-by_generators.ensures.made c.in_ok-rows.ensures.dims in
    (moved_image p c.args.column c.args.form.now c.args.back.now rows list m).1

pub from_canonical-requires-clause-limit : goal.from_canonical-requires-clause-limit
from_canonical-requires-clause-limit c =
    let p = c.args.p.now in
    let rows = c.in_ok-rows.rows in
    let list = c.in_ok-by_generators.by_generators in
    let m = is_moving p c.rows.result.now c.generators.result.now c.args.column c.args.form.now c.args.back.now rows list
    c.rows.ensures.canonical c.requires.some c.requires.above c.requires.back c.rows.ensures.dims c.rows.ensures.rows
    c.generators.ensures.dims c.generators.ensures.generators c.in_ok-rows.ensures.made
    c.in_ok-by_generators.ensures.made c.in_ok-rows.ensures.dims in
    image_limit p c.args.column c.args.form.now c.args.back.now rows list m c.rows.ensures.formed.limit

pub returns-clause-image : goal.returns-clause-image
returns-clause-image c =
    let p = c.args.p.now in
    let rows = c.in_ok-rows.rows in
    let list = c.in_ok-by_generators.by_generators in
    let m = is_moving p c.rows.result.now c.generators.result.now c.args.column c.args.form.now c.args.back.now rows list
    c.rows.ensures.canonical c.requires.some c.requires.above c.requires.back c.rows.ensures.dims c.rows.ensures.rows
    c.generators.ensures.dims c.generators.ensures.generators c.in_ok-rows.ensures.made
    c.in_ok-by_generators.ensures.made c.in_ok-rows.ensures.dims in
    subst (IsPolyhedronOf p.dims (Image p.dims c.args.column c.args.form.now (Con p.rows))) (sym c.in_ok-from_canonical.ensures)
    (moved_image p c.args.column c.args.form.now c.args.back.now rows list m).0

pub returns-in_err-rows-clause-excess : goal.returns-in_err-rows-clause-excess
returns-in_err-rows-clause-excess c =
    let p = err_from_is_err_and c.from_residual.result c.from_residual.ensures.1 in
    let f = rows_pass c.args.column c.args.form.now c.args.back.now c.args.p.now (constraints c.rows.result.now) c.in_err-rows.field-0.0 c.rows.ensures.rows c.in_err-rows.ensures.excess in
    rw (p.1, p.2) f

pub returns-in_err-by_generators-clause-excess : goal.returns-in_err-by_generators-clause-excess
returns-in_err-by_generators-clause-excess c =
    let p = err_from_is_err_and c.from_residual-in_err-by_generators.result c.from_residual-in_err-by_generators.ensures.1 in
    let f = generators_pass c.args.column c.args.form.now c.args.back.now c.args.p.now (generators c.generators.result.now) c.in_err-by_generators.field-0.0 c.generators.ensures.generators
    c.in_err-by_generators.ensures.excess in
    rw (p.1, p.2) f
