-- Goals of `columns_agree`: whether the multiple of the claim is the sum in each column.
use Rattle.std.proofs.Common.{◌≡◌, ℕ, arith, length, sym, subst, ◌∙◌}
use Rattle.lra_multipliers.specs.{Columns.column_agrees, Columns.AgreeBelow, MultiplierViews.multipliers_view}
use Rattle.lra_multipliers.proofs.{CheckSteps.agree_on, CheckSteps.agree_off, columns.columns_agree.Goals.then-agree, columns.columns_agree.Goals.else-agree}
use Rattle.lra_multipliers.proofs.columns.columns_agree.Goals as goal

pub loop-column-preserved : goal.loop-column-preserved
loop-column-preserved c = elim c.if-agree.branch [
  | then-agree w ↦
      agree_on (column_agrees c.args.rows.now c.args.claim.now (multipliers_view c.args.m.now)) c.loop-column.column c.loop-column.agree c.in-Some.same
      c.if-agree.agree
      c.loop-column.invariant (sym c.in-Some.ensures) w.if-agree.true w.agree-is
  | else-agree w ↦
      agree_off (column_agrees c.args.rows.now c.args.claim.now (multipliers_view c.args.m.now)) c.loop-column.column c.loop-column.agree c.in-Some.same
      c.if-agree.agree
      c.loop-column.invariant (sym c.in-Some.ensures) w.if-agree.false (w.agree-is ∙ w.if-agree.false)
]

pub returns : goal.returns
returns c =
    let last = c.width-column-end.ensures in
    let past = c.loop-column-test.false in
    let before = c.loop-column.auto.column-end in
    let all : c.loop-column.column ≡ length c.args.claim.now = omega (arith, last, past, before) in
    subst (λ (n : ℕ). AgreeBelow (column_agrees c.args.rows.now c.args.claim.now (multipliers_view c.args.m.now)) n c.loop-column.agree) all
    c.loop-column.invariant
