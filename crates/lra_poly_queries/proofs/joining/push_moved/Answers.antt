-- Goals of `push_moved`: the constraints, then those of the list along these dimensions.
use Rattle.std.proofs.Common.{◌∙◌, ap, arith, length, suc, sym}
use Rattle.lra_poly_queries.specs.Crates.lra_linear_spec.declared.ConKind.TheVariants.{Ge}
use Rattle.lra_systems.specs.LinearSystems.{constraints}
use Rattle.lra_poly_queries.proofs.{JoinedSets.all_moved, JoinedSets.one_moved, MovedSets.chosen_width, TightenedRows.one_counted}
use Rattle.lra_poly_queries.proofs.joining.push_moved.Goals as goal

pub push-requires : goal.push-requires
push-requires c =
    chosen_width c.args.dims.now c.index-rows-place.result c.in_ok-row.row c.in_ok-row.ensures
    ∙ ap suc (c.requires ∙ sym c.loop-place.invariant.dims)

pub loop-place-preserved : goal.loop-place-preserved
loop-place-preserved c = record {
  dims = c.in_ok-push.ensures.dims ∙ c.loop-place.invariant.dims;
  given = one_moved (constraints c.args.own) c.args.dims.now c.rows-rows.result.now c.kinds-kinds-2.result.now
      c.loop-place.place c.index-rows-place.result Ge c.loop-place.all c.push.new.self c.in_ok-row.row
      (c.kinds-kinds-2.ensures.len ∙ sym (ap length c.rows-rows.ensures.rows)) c.loop-place-test.true
      c.index-rows-place.is c.loop-place.invariant.count c.in_ok-push.ensures.rows c.in_ok-push.ensures.kinds
      c.in_ok-row.ensures c.loop-place.invariant.given;
  count = one_counted c.loop-place.all c.push.new.self c.in_ok-row.row _ c.loop-place.invariant.count
      c.in_ok-push.ensures.rows c.in_ok-push.ensures.kinds;
}

pub returns-clause-rows : goal.returns-clause-rows
returns-clause-rows c =
    all_moved (constraints c.args.own) c.args.dims.now c.args.list.now c.loop-place.all c.rows-rows.result.now
    c.kinds-kinds-2.result.now c.loop-place.place c.rows-rows.ensures.rows c.kinds-kinds-2.ensures.kinds
    c.kinds-kinds-2.ensures.len (omega arith) c.loop-place.invariant.given
