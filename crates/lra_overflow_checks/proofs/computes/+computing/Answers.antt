-- Goals of the functions that call each other around `condition_computes`: a chain computes if its first operand does,
-- or one of the others.
use Rattle.std.proofs.Common.{◌∙◌, List, ap, sym, map}
use Rattle.lra_program.specs.{Overflow.cond_computes, ProgramViews.cond_view}
use Rattle.lra_program.specs.declared.program.Cond as declared
use Rattle.lra_overflow_checks.specs.Judged.{some_computes}
use Rattle.lra_overflow_checks.proofs.ComputesSteps.{all_says, any_says, first_computes, others_compute}
use Rattle.lra_overflow_checks.proofs.computes.+computing.Goals as goal

pub condition_computes-returns-then-condition_computes : goal.condition_computes-returns-then-condition_computes
condition_computes-returns-then-condition_computes t c =
    let says = all_says c.args.condition.now c.in-All.first c.in-All.rest c.in-All.is in
    let here = c.condition_computes-in-All.ensures ∙ ap (λ (x : declared.Cond). cond_computes (cond_view x)) c.deref-in-All.ensures in
    here ∙ first_computes _ _ _ says (sym here ∙ c.if-condition_computes.true)

pub condition_computes-returns-else-condition_computes : goal.condition_computes-returns-else-condition_computes
condition_computes-returns-else-condition_computes t c =
    let says = all_says c.args.condition.now c.in-All.first c.in-All.rest c.in-All.is in
    let here = c.condition_computes-in-All.ensures ∙ ap (λ (x : declared.Cond). cond_computes (cond_view x)) c.deref-in-All.ensures in
    let others = c.some_computes.ensures ∙ ap (λ (xs : List declared.Cond). some_computes (map cond_view xs)) c.as_slice.ensures.value in
    others ∙ others_compute _ _ _ says (sym here ∙ c.if-condition_computes.false)

pub condition_computes-returns-then-condition_computes-2 : goal.condition_computes-returns-then-condition_computes-2
condition_computes-returns-then-condition_computes-2 t c =
    let says = any_says c.args.condition.now c.in-Any.first c.in-Any.rest c.in-Any.is in
    let here = c.condition_computes-in-Any.ensures ∙ ap (λ (x : declared.Cond). cond_computes (cond_view x)) c.deref-in-Any.ensures in
    here ∙ first_computes _ _ _ says (sym here ∙ c.if-condition_computes-2.true)

pub condition_computes-returns-else-condition_computes-2 : goal.condition_computes-returns-else-condition_computes-2
condition_computes-returns-else-condition_computes-2 t c =
    let says = any_says c.args.condition.now c.in-Any.first c.in-Any.rest c.in-Any.is in
    let here = c.condition_computes-in-Any.ensures ∙ ap (λ (x : declared.Cond). cond_computes (cond_view x)) c.deref-in-Any.ensures in
    let others = c.some_computes-else-condition_computes-2.ensures ∙
    ap (λ (xs : List declared.Cond). some_computes (map cond_view xs)) c.as_slice-else-condition_computes-2.ensures.value in
    others ∙ others_compute _ _ _ says (sym here ∙ c.if-condition_computes-2.false)
