-- Goals of `move_forward`: the image under the assignment of the form to the column, by both lists.
use Rattle.std.proofs.{Common.inl, Common.inr, Common.refl, lemmas.Result.IfOk-weaker}
use Rattle.lra_poly_images.proofs.{BackImages.back_of, KeptLists.stays_passed}
use Rattle.lra_poly_images.proofs.Crates.lra_description_pair.PairLosses.{if_none}
use Rattle.lra_poly_images.proofs.moved.move_forward.Goals as goal

pub move_lists_in_range-requires-clause-back : goal.move_lists_in_range-requires-clause-back
move_lists_in_range-requires-clause-back c =
    back_of c.args.p.now c.args.column c.args.form.now c.in-Some.back c.in_ok-back.field-0 c.requires.width c.in-Some.is
    c.in_ok-back.ensures.back

pub returns-then-is_empty-clause-none : goal.returns-then-is_empty-clause-none
returns-then-is_empty-clause-none c = inl (c.if-is_empty.ensures.0 refl)

pub returns-in-Some-clause-none : goal.returns-in-Some-clause-none
returns-in-Some-clause-none c =
    let p = c.args.p.now in
    let back = back_of p c.args.column c.args.form.now c.in-Some.back c.in_ok-back.field-0 c.requires.width c.in-Some.is c.in_ok-back.ensures.back in
    IfOk-weaker c.move_lists_in_range.result _ _ (λ image. if_none image _ _ (stays_passed c.args.column c.args.form.now c.in-Some.back p back)) c.move_lists_in_range.ensures.none

pub returns-in-None-clause-none : goal.returns-in-None-clause-none
returns-in-None-clause-none c =
    let fails = rw c.in-None.is at c.in_ok-back.ensures.none in
    inr (inl fails)
