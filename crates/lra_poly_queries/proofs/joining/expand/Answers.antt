-- Goals of `expand`: the points with a twin of a coordinate.
use Rattle.std.proofs.Common.{◌+◌, ◌∙◌, ap, arith, length}
use Rattle.lra_poly_queries.specs.Crates.lra_linear_spec.Descriptions.{Con}
use Rattle.lra_poly_queries.specs.Expanded.{Expanded, expanded}
use Rattle.lra_poly_queries.proofs.{ExpandedSets.expanded_takes, ExpandedSets.twin_length, TakenRows.rows_becomes}
use Rattle.lra_poly_queries.proofs.joining.expand.Goals as goal

pub push_moved-requires : goal.push_moved-requires
push_moved-requires c =
    let a = ap length c.as_slice.ensures.value in
    let b = c.in_ok-first.ensures.len in
    let d = c.new-none.ensures.dims in
    omega (arith, a, b, d)

pub push_moved-requires-2 : goal.push_moved-requires-2
push_moved-requires-2 c =
    let a = ap length c.as_slice-2.ensures.value in
    let b = twin_length c.dims-n.result c.args.dim c.in_ok-twin.twin.items c.push.new.self.items c.in_ok-twin.ensures
    c.in_ok-push.ensures.items in
    let d = c.new-none.ensures.dims in
    let e = c.in_ok-own.ensures.dims in
    omega (arith, a, b, d, e)

pub returns : goal.returns
returns c =
    let p = c.args.p.now in
    let k = c.args.dim in
    rows_becomes (p.dims + 1) (Expanded p.dims k (Con p.rows)) (expanded k p) c.in_ok-all.all
    c.in_ok-made.made c.in_ok-made.outcome
    (expanded_takes p c.new-none.result c.in_ok-own.own c.in_ok-all.all c.rows.result.now c.rows-2.result.now
    c.as_slice.result.now c.as_slice-2.result.now c.in_ok-twin.twin.items c.dims-n.result k c.rows.ensures.canonical
    c.requires.dim c.dims-n.ensures c.new-none.ensures.rows c.new-none.ensures.dims c.in_ok-own.ensures.dims
    c.in_ok-all.ensures.dims (c.as_slice.ensures.value ∙ c.in_ok-first.ensures.dims) c.in_ok-twin.ensures
    (c.as_slice-2.ensures.value ∙ c.in_ok-push.ensures.items) c.rows.ensures.rows c.rows-2.ensures.rows
    c.in_ok-own.ensures.rows c.in_ok-all.ensures.rows)
    c.in_ok-made.ensures.becomes
