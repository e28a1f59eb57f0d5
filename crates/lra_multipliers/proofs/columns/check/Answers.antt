-- Goals of `check`: whether the multipliers show the claim by the premises.
use Rattle.std.proofs.Common.{sym, ap, length, ◌∙◌, ℤ, List}
use Rattle.lra_multipliers.specs.MultiplierViews.{answer_view, multipliers_view}
use Rattle.lra_multipliers.proofs.CheckAnswers.{check_made, check_exact}
use Rattle.lra_multipliers.proofs.columns.check.Goals as goal

pub returns-clause-made : goal.returns-clause-made
returns-clause-made c =
    check_made c.args.premises.now c.rows.result.now c.kinds.result.now c.args.claim.now (multipliers_view c.args.m.now) c.columns_agree-columns.result
    c.may_show.result
    (answer_view c.answer_of.result) c.rows.ensures.rows c.kinds.ensures.kinds
    (c.kinds.ensures.len ∙ sym (ap (λ (x : List (List ℤ)). length x) c.rows.ensures.rows)) c.rows.ensures.widths
    c.requires.width c.columns_agree-columns.ensures c.may_show.ensures c.answer_of.ensures

pub returns-clause-exact : goal.returns-clause-exact
returns-clause-exact c =
    check_exact c.args.premises.now c.rows.result.now c.kinds.result.now c.args.claim.now (multipliers_view c.args.m.now) c.columns_agree-columns.result
    c.may_show.result
    (answer_view c.answer_of.result) c.rows.ensures.rows c.kinds.ensures.kinds
    (c.kinds.ensures.len ∙ sym (ap (λ (x : List (List ℤ)). length x) c.rows.ensures.rows)) c.rows.ensures.widths
    c.requires.width c.columns_agree-columns.ensures c.may_show.ensures c.answer_of.ensures
