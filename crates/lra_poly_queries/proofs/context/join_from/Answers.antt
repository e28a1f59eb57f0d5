-- Goals of `join_from`: the constraints, then those of the list from the place on.
use Rattle.std.proofs.Common.{◌∙◌, arith, sym}
use Rattle.lra_systems.specs.LinearSystems.{constraints}
use Rattle.lra_poly_queries.proofs.{SimplifiedRows.all_pushed, SimplifiedRows.one_pushed, TightenedRows.one_counted}
use Rattle.lra_poly_queries.proofs.context.join_from.Goals as goal

pub loop-place-preserved : goal.loop-place-preserved
loop-place-preserved c = record {
  dims = c.in_ok-push_copy.ensures.dims ∙ c.loop-place.invariant.dims;
  given = one_pushed c.args.list.now c.loop-place.all c.push_copy.new.self (constraints c.args.front.now) c.loop-place.place
      c.args.start _ _ c.at-kind.ensures.row c.at-kind.ensures.kind c.loop-place.invariant.count
      c.in_ok-push_copy.ensures.rows c.in_ok-push_copy.ensures.kinds c.loop-place.invariant.given;
  count = one_counted c.loop-place.all c.push_copy.new.self _ _ c.loop-place.invariant.count
      c.in_ok-push_copy.ensures.rows c.in_ok-push_copy.ensures.kinds;
}

pub returns-clause-rows : goal.returns-clause-rows
returns-clause-rows c =
    all_pushed c.args.list.now c.loop-place.all (constraints c.args.front.now) c.loop-place.place c.args.start
    (sym c.len-place-end.ensures.kinds ∙ c.len-place-end.ensures.rows)
    (let n = c.len-place-end.ensures.rows in let past = c.loop-place-test.false in omega (arith, n, past))
    c.loop-place.invariant.given
