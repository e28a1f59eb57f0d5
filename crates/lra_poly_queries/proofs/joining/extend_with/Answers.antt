-- Goals of `extend_with`: the points with one further coordinate that meet the constraint.
use Rattle.std.proofs.Common.{◌+◌, ◌∙◌, ap, arith, length}
use Rattle.lra_poly_queries.specs.Crates.{lra_linear_spec.Descriptions.Con, lra_linear_spec.Descriptions.LinearRow, lra_linear_spec.Kinds.is_equality}
use Rattle.lra_poly_queries.specs.Related.{Extended, extended}
use Rattle.lra_poly_queries.proofs.{RelatedSets.extended_takes, TakenRows.rows_becomes}
use Rattle.lra_poly_queries.proofs.joining.extend_with.Goals as goal

pub push_moved-requires : goal.push_moved-requires
push_moved-requires c =
    let a = ap length c.as_slice.ensures.value in
    let b = c.in_ok-first.ensures.len in
    let d = c.new-none.ensures.dims in
    omega (arith, a, b, d)

pub returns : goal.returns
returns c =
    let p = c.args.p.now in
    let g : LinearRow = record { row = c.args.row.now; equal = is_equality c.args.kind } in
    rows_becomes (p.dims + 1) (Extended p.dims g (Con p.rows)) (extended g p) c.push_copy.new.self
    c.in_ok-made.made c.in_ok-made.outcome
    (extended_takes p c.new-none.result c.in_ok-own.own c.push_copy.new.self c.rows.result.now
    c.as_slice.result.now c.dims-n.result c.args.row.now c.args.kind c.rows.ensures.canonical c.dims-n.ensures
    c.new-none.ensures.rows c.new-none.ensures.dims c.in_ok-own.ensures.dims
    (c.as_slice.ensures.value ∙ c.in_ok-first.ensures.dims)
    c.rows.ensures.rows c.in_ok-own.ensures.rows c.in_ok-own.ensures.count c.in_ok-push_copy.ensures.dims
    c.in_ok-push_copy.ensures.rows c.in_ok-push_copy.ensures.kinds)
    c.in_ok-made.ensures.becomes
