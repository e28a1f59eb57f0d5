-- Goals of `move_back`: the preimage under the assignment of the form to the column, by both lists; none as
-- with the image.
use Rattle.std.proofs.{Common.inl, Common.inr, Common.refl, Common.suc, lemmas.Result.IfOk-weaker}
use Rattle.lra_poly_images.proofs.{BackImages.back_of, BackImages.preimage_if_moved, KeptLists.stays_back_passed}
use Rattle.lra_mapped_systems.proofs.TakenBack.{taken_forth}
use Rattle.lra_poly_images.proofs.Crates.lra_description_pair.PairLosses.{if_none}
use Rattle.lra_poly_images.proofs.moved.move_back.Goals as goal

pub move_lists_in_range-requires-clause-back : goal.move_lists_in_range-requires-clause-back
move_lists_in_range-requires-clause-back c =
    let p = c.args.p.now in
    taken_forth c.args.column (suc p.dims) c.args.form.now c.in-Some.back
    (back_of p c.args.column c.args.form.now c.in-Some.back c.in_ok-back.field-0 c.requires.width c.in-Some.is
    c.in_ok-back.ensures.back)

pub returns-in-Some-clause-preimage : goal.returns-in-Some-clause-preimage
returns-in-Some-clause-preimage c =
    let p = c.args.p.now in
    IfOk-weaker c.move_lists_in_range.result _ _ (λ preimage. preimage_if_moved p c.args.column c.args.form.now c.in-Some.back preimage
    c.rows-canonical.ensures.canonical c.requires.above
    (back_of p c.args.column c.args.form.now c.in-Some.back c.in_ok-back.field-0 c.requires.width c.in-Some.is
    c.in_ok-back.ensures.back)) c.move_lists_in_range.ensures.image

pub returns-then-is_empty-clause-none : goal.returns-then-is_empty-clause-none
returns-then-is_empty-clause-none c = inl (c.if-is_empty.ensures.0 refl)

pub returns-in-Some-clause-none : goal.returns-in-Some-clause-none
returns-in-Some-clause-none c =
    let p = c.args.p.now in
    let back = back_of p c.args.column c.args.form.now c.in-Some.back c.in_ok-back.field-0 c.requires.width c.in-Some.is c.in_ok-back.ensures.back in
    IfOk-weaker c.move_lists_in_range.result _ _ (λ preimage. if_none preimage _ _ (stays_back_passed c.args.column c.args.form.now c.in-Some.back p back))
    c.move_lists_in_range.ensures.none

pub returns-in-None-clause-none : goal.returns-in-None-clause-none
returns-in-None-clause-none c =
    let fails = rw c.in-None.is at c.in_ok-back.ensures.none in
    inr (inl fails)
