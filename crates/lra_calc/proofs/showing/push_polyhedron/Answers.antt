-- Goals of `push_polyhedron`: appends the lines of the constraints and of the generators, in their orders; or one
-- that says that there is no point.
use Rattle.std.proofs.Common.{string_bytes}
use Rattle.lra_calc.proofs.ShownLemmas.{written, some_rows}
use Rattle.lra_calc.proofs.showing.push_polyhedron.Goals as goal

pub returns : goal.returns
returns c =
    let p = c.args.set.now in
    let g = c.generators-generators.result.now in
    let some = some_rows c.is_empty.result c.rows.result.now g.rows c.is_empty.ensures c.if-is_empty.false c.rows.ensures.rows in
    written p c.rows-2.result.now g c.rows-3.result.now c.kinds.result.now c.in_ok-names.names c.dims.result
    (string_bytes c.args.text.now) (string_bytes c.push_rows.new.text) (string_bytes c.push_generators.new.text)
    c.rows-2.ensures.rows c.generators-generators.ensures.generators c.generators-generators.ensures.kinds c.rows-3.ensures.rows c.kinds.ensures.kinds c.kinds.ensures.len some
    c.in_ok-names.ensures c.dims.ensures c.in_ok-push_rows.ensures c.in_ok-push_generators.ensures
