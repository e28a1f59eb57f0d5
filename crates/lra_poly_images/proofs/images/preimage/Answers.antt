-- Goals of `preimage`: becomes the set of the points that are brought into it when the coordinate x is given the
-- form's value.
use Rattle.std.proofs.{Common.suc, Common.subst, Common.List, Common.ℤ, lemmas.Result.IfOk-weaker}
use Rattle.lra_poly_images.specs.Crates.{lra_linear_forms.Form.form_row, lra_linear_spec.Descriptions.Con, lra_linear_spec.OperationStrain.PreimageStrains, lra_linear_spec.SetOperations.Preimage}
use Rattle.lra_poly.specs.Outcomes.{Becomes}
use Rattle.lra_poly.proofs.PolyLemmas.{exactly}
use Rattle.lra_poly_images.proofs.GivenUp.{flagged_anyway}
use Rattle.lra_poly_images.proofs.{BackImages.preimage_made, BackImages.row_width, KeptLists.stays_back_for}
use Rattle.lra_poly_images.specs.FormedPreimages.{IsOfFormed}
use Rattle.lra_poly_images.proofs.images.preimage.Goals as goal

pub move_back-requires-clause-width : goal.move_back-requires-clause-width
move_back-requires-clause-width c =
    row_width c.args.form.now c.in_ok-row.row c.args.p.now.dims c.in_ok-row.ensures c.requires.form

pub convert_preimage-requires-clause-form : goal.convert_preimage-requires-clause-form
convert_preimage-requires-clause-form c =
    row_width c.args.form.now c.in_ok-row.row c.args.p.now.dims c.in_ok-row.ensures c.requires.form

pub returns-in-Some-clause-becomes : goal.returns-in-Some-clause-becomes
returns-in-Some-clause-becomes c =
    let p = c.args.p.now in
    let k = suc c.args.x in
    let form = form_row c.args.form.now in
    exactly p.dims (Preimage k form (Con p.rows)) (PreimageStrains k form p) c.in-Some.made
    (preimage_made p c.in-Some.made c.args.x form c.in_ok-row.row c.in_ok-made.field-0 c.in_ok-row.ensures c.in-Some.is c.in_ok-made.ensures.preimage)

pub returns-clause-becomes : goal.returns-clause-becomes
returns-clause-becomes c =
    let p = c.args.p.now in
    let k = suc c.args.x in
    IfOk-weaker c.convert_preimage.result _ _ (λ outcome. subst (λ (f : List ℤ). Becomes p.dims (Preimage k f (Con p.rows)) (PreimageStrains k f p) c.convert_preimage.new.p outcome)
    c.in_ok-row.ensures) c.convert_preimage.ensures.becomes

pub returns-clause-stays : goal.returns-clause-stays
returns-clause-stays c =
    let stays = rw c.in-None.is at c.in_ok-made.ensures.none in
    let of_form = stays_back_for c.args.p.now c.args.x (form_row c.args.form.now) c.in_ok-row.row c.in_ok-row.ensures stays in
    IfOk-weaker c.convert_preimage.result _ _ (λ outcome _. flagged_anyway _ outcome of_form) c.convert_preimage.ensures.becomes

pub returns-clause-formed : goal.returns-clause-formed
returns-clause-formed c =
    IfOk-weaker c.convert_preimage.result _ _ (λ outcome formed. flagged_anyway _ outcome
    (subst (λ (f : List ℤ). IsOfFormed (suc c.args.x) f c.args.p.now c.convert_preimage.new.p) c.in_ok-row.ensures formed)) c.convert_preimage.ensures.formed
