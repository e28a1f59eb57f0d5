-- Goals of `simplify`: the constraints that describe the same points within the context.
use Rattle.std.proofs.Common.{◌∙◌, ◌<◌, arith, ap, length, sym}
use Rattle.lra_poly_queries.proofs.SimplifiedRows.{all_told, at_first, place_kept, place_left}
use Rattle.lra_poly_queries.proofs.{TightenedRows.one_counted, context.simplify.Goals.in-Some+in_ok-push_copy, context.simplify.Goals.in_default}
use Rattle.lra_poly_queries.proofs.context.simplify.Goals as goal

pub loop-place-init : goal.loop-place-init
loop-place-init c = record {
  dims = c.in_ok-kept.ensures.dims ∙ c.dims.ensures;
  told = at_first c.args.p.now c.args.context.now c.rows-list.result.now c.in_ok-kept.kept c.rows-list.ensures.rows
      c.in_ok-kept.ensures.rows;
  count = ap length c.in_ok-kept.ensures.kinds ∙ sym (ap length c.in_ok-kept.ensures.rows);
}

pub loop-place-preserved : goal.loop-place-preserved
loop-place-preserved c =
    let list = c.rows-list.result.now in
    let i = c.loop-place.place in
    let same = sym c.len-place-end.ensures.kinds ∙ c.len-place-end.ensures.rows in
    let here : i < length list.rows =
    (let n = c.len-place-end.ensures.rows in let h = c.loop-place-test.true in omega (arith, n, h)) in
    elim c.match-branch-3.branch [
      | in-Some+in_ok-push_copy w ↦ rw (w.kept-is, w.outcome-is) (record {
        dims = w.in_ok-push_copy.ensures.dims ∙ c.loop-place.invariant.dims;
        told = place_kept c.args.p.now c.args.context.now list c.loop-place.kept w.push_copy.new.self i
            c.args.context.now.dims _ _ c.loop-place.outcome w.in-Some.told w.and-outcome.result c.requires
            w.at-kind.ensures.row w.at-kind.ensures.kind c.loop-place.invariant.told
            (rw (w.in-Some.is) at c.in_ok-told.ensures) c.loop-place.invariant.count w.in_ok-push_copy.ensures.rows
            w.in_ok-push_copy.ensures.kinds w.and-outcome.ensures.first;
        count = one_counted c.loop-place.kept w.push_copy.new.self _ _ c.loop-place.invariant.count
            w.in_ok-push_copy.ensures.rows w.in_ok-push_copy.ensures.kinds;
      })
      | in_default w ↦ rw (w.kept-is, w.outcome-is) (record {
        dims = c.loop-place.invariant.dims;
        told = place_left c.args.p.now c.args.context.now list c.loop-place.kept i c.args.context.now.dims
            c.loop-place.outcome c.requires same here c.loop-place.invariant.told
            (rw (w.in_default.is) at c.in_ok-told.ensures);
        count = c.loop-place.invariant.count;
      })
    ]

pub returns-clause-simplified : goal.returns-clause-simplified
returns-clause-simplified c =
    all_told c.args.p.now c.args.context.now c.rows-list.result.now c.loop-place.kept c.loop-place.place
    c.loop-place.outcome (sym c.len-place-end.ensures.kinds ∙ c.len-place-end.ensures.rows)
    (let n = c.len-place-end.ensures.rows in let past = c.loop-place-test.false in omega (arith, n, past))
    c.loop-place.invariant.told
