-- Goals of `assign_list`: the generators, each with the form's value as coordinate x; or what is reported about the
-- first with which a number passes.
use Rattle.std.proofs.Common.{arith, refl, subst, suc, sym}
use Rattle.lra_mapped_systems.specs.Crates.{lra_linear_spec.CheckedArithmetic.checked_product, lra_linear_spec.SetOperations.assigned}
use Rattle.lra_mapped_systems.specs.Crates.lra_linear_spec.declared.Excess as E
use Rattle.lra_systems.specs.LinearSystems.{generators}
use Rattle.lra_mapped_systems.specs.Forming.{IsLossAt}
use Rattle.lra_mapped_systems.proofs.{Assigning.assigned_level, ListLemmas.mapped_kinds, ListLemmas.mapped_listed, LossLemmas.excess_of, LossLemmas.lost_at}
use Rattle.lra_mapped_systems.proofs.forming.assign_list.Goals as goal

pub returns-in-Err-Excess-clause-lost : goal.returns-in-Err-Excess-clause-lost
returns-in-Err-Excess-clause-lost c =
    let list = c.args.list.now in
    let given = generators list in
    let row = c.index-rows-place.result in
    let excess = c.in-Err-Excess.excess in
    let loss = c.in_ok-loss-in-Err-Excess.loss in
    lost_at (checked_product c.args.form.now) given given list.rows c.rows-rows.result.now c.loop-place.place row excess
    loss
    (subst (λ (e : E.Excess). IsLossAt given list.rows c.loop-place.place e loss) c.in-Err-Excess.excess-is
    c.in_ok-loss-in-Err-Excess.ensures) refl (sym c.rows-rows.ensures.rows) c.loop-place-test.true
    c.index-rows-place.is (excess_of (checked_product c.args.form.now row) c.in-Err-Excess.field-0 excess
    c.in-Err-Excess.field-0-is c.in-Err-Excess.ensures.excess)

pub returns-clause-generators : goal.returns-clause-generators
returns-clause-generators c =
    mapped_listed (assigned (suc c.args.x) c.args.form.now) c.args.list.now c.loop-place.all c.rows-rows.result.now
    c.kinds-kinds.result.now c.loop-place.place c.loop-place.invariant.rows c.loop-place.invariant.kinds
    c.rows-rows.ensures.rows c.kinds-kinds.ensures.kinds (omega arith) c.kinds-kinds.ensures.len

pub returns-clause-kinds : goal.returns-clause-kinds
returns-clause-kinds c =
    mapped_kinds (assigned (suc c.args.x) c.args.form.now) c.args.list.now c.loop-place.all c.rows-rows.result.now
    c.kinds-kinds.result.now c.loop-place.place c.loop-place.invariant.rows c.loop-place.invariant.kinds
    c.rows-rows.ensures.rows c.kinds-kinds.ensures.kinds (omega arith) c.kinds-kinds.ensures.len
    (λ r k. assigned_level c.args.x c.args.form.now r) c.requires.kinds
