-- Goals of `agrees_at`: whether the multiple of the claim is the sum in a column.
use Rattle.std.proofs.{Common.rules, Common.FitsSigned, Common.Some, Common.◌∙◌, Common.ap, lemmas.Int.to_z-of_z}
use Rattle.std.specs.Int.{w128}
use Rattle.lra_multipliers.specs.MultiplierViews.{multipliers_view}
use Rattle.lra_multipliers.proofs.CheckSteps.{agrees_told, premises_told, same_bits}
use Rattle.lra_multipliers.proofs.columns.agrees_at.Goals as goal

pub returns : goal.returns
returns c =
    let fm : FitsSigned w128 c.in_ok-multiple.multiple = search rules in
    let fs : FitsSigned w128 c.in_ok-sum.sum = search rules in
    let fd : FitsSigned w128 c.args.m.now.divisor = search rules in
    let fk : FitsSigned w128 c.args.m.now.constant = search rules in
    let fg : FitsSigned w128 c.get.result = search rules in
    let ff : FitsSigned w128 c.in_ok-first.first = search rules in
    let a = simp to_z-of_z at c.in_ok-multiple.ensures in
    let b = simp to_z-of_z at c.in_ok-sum.ensures in
    let f = simp to_z-of_z at c.in_ok-first.ensures.value in
    ap Some (same_bits c.in_ok-multiple.multiple c.in_ok-sum.sum fm fs) ∙
    agrees_told c.args.rows.now c.args.claim.now (multipliers_view c.args.m.now) c.args.column c.in_ok-multiple.multiple c.in_ok-sum.sum
    (rw (← c.get.ensures.entry) a)
    (premises_told c.args.rows.now (multipliers_view c.args.m.now) c.args.column c.in_ok-first.first c.in_ok-sum.sum f (rw c.as_slice.ensures.value at b))
