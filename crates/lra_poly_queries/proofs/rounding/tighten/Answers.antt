-- Goals of `tighten`: the constraints, each rounded to whole points.
use Rattle.std.proofs.Common.{◌∙◌, ap, arith, length, sym}
use Rattle.lra_poly_queries.specs.Crates.lra_linear_spec.declared.ConKind.TheVariants.{Ge}
use Rattle.lra_systems.specs.LinearSystems.{constraints}
use Rattle.lra_poly_queries.proofs.TightenedRows.{all_tightened, one_counted, one_tightened, tightened_stores, tightened_within}
use Rattle.lra_poly_queries.proofs.rounding.tighten.Goals as goal

pub loop-place-preserved : goal.loop-place-preserved
loop-place-preserved c = record {
  dims = c.in_ok-push.ensures.dims ∙ c.loop-place.invariant.dims;
  count = one_counted c.loop-place.all c.push.new.self c.in_ok-row.row c.in_ok-row.kind c.loop-place.invariant.count
      c.in_ok-push.ensures.rows c.in_ok-push.ensures.kinds;
  each = one_tightened c.args.list.now.dims c.rows-rows.result.now c.kinds-kinds.result.now c.loop-place.place
      c.index-rows-place.result Ge c.loop-place.all c.push.new.self c.in_ok-row.row c.in_ok-row.kind
      (c.kinds-kinds.ensures.len ∙ sym (ap length c.rows-rows.ensures.rows)) c.loop-place-test.true
      c.index-rows-place.is c.loop-place.invariant.count c.in_ok-push.ensures.rows c.in_ok-push.ensures.kinds
      c.loop-place.invariant.each c.dims-n.result c.dims-n.ensures c.in_ok-row.ensures.tightened;
}

pub returns-clause-stores : goal.returns-clause-stores
returns-clause-stores c =
    tightened_stores c.args.list.now.dims (constraints c.args.list.now) (constraints c.loop-place.all)
    (all_tightened c.args.list.now.dims c.args.list.now c.loop-place.all c.rows-rows.result.now
    c.kinds-kinds.result.now c.loop-place.place c.rows-rows.ensures.rows c.kinds-kinds.ensures.kinds
    c.kinds-kinds.ensures.len (omega arith) c.loop-place.invariant.each)

pub returns-clause-within : goal.returns-clause-within
returns-clause-within c =
    tightened_within c.args.list.now.dims (constraints c.args.list.now) (constraints c.loop-place.all)
    (all_tightened c.args.list.now.dims c.args.list.now c.loop-place.all c.rows-rows.result.now
    c.kinds-kinds.result.now c.loop-place.place c.rows-rows.ensures.rows c.kinds-kinds.ensures.kinds
    c.kinds-kinds.ensures.len (omega arith) c.loop-place.invariant.each)
