-- Goals of `concatenate`: the polyhedron of both, side by side.
use Rattle.std.proofs.Common.{◌+◌, ◌∙◌, ap, arith, length}
use Rattle.lra_poly_queries.specs.Crates.lra_linear_spec.Descriptions.{Con}
use Rattle.lra_poly_queries.specs.Joined.{Concatenated, concatenated}
use Rattle.lra_poly_queries.proofs.{JoinedSets.joined_takes, TakenRows.rows_becomes}
use Rattle.lra_poly_queries.proofs.joining.concatenate.Goals as goal

pub push_moved-requires : goal.push_moved-requires
push_moved-requires c =
    let a = ap length c.as_slice.ensures.value in
    let b = c.in_ok-first.ensures.len in
    let d = c.new-none.ensures.dims in
    omega (arith, a, b, d)

pub push_moved-requires-2 : goal.push_moved-requires-2
push_moved-requires-2 c =
    let a = ap length c.as_slice-2.ensures.value in
    let b = c.in_ok-last.ensures.len in
    let d = c.new-none.ensures.dims in
    let e = c.in_ok-own.ensures.dims in
    omega (arith, a, b, d, e)

pub returns : goal.returns
returns c =
    let p = c.args.p.now in
    let q = c.args.q.now in
    rows_becomes (p.dims + q.dims) (Concatenated p.dims (Con p.rows) (Con q.rows)) (concatenated p q) c.in_ok-all.all
    c.in_ok-made.made c.in_ok-made.outcome
    (joined_takes p q c.new-none.result c.in_ok-own.own c.in_ok-all.all c.rows.result.now c.rows-2.result.now
    c.as_slice.result.now c.as_slice-2.result.now c.dims-n.result c.dims-m.result c.rows.ensures.canonical
    c.rows-2.ensures.canonical c.dims-n.ensures c.dims-m.ensures c.new-none.ensures.rows c.new-none.ensures.dims
    c.in_ok-own.ensures.dims c.in_ok-all.ensures.dims
    (c.as_slice.ensures.value ∙ c.in_ok-first.ensures.dims) (c.as_slice-2.ensures.value ∙ c.in_ok-last.ensures.dims) c.rows.ensures.rows
    c.rows-2.ensures.rows c.in_ok-own.ensures.rows c.in_ok-all.ensures.rows)
    c.in_ok-made.ensures.becomes
