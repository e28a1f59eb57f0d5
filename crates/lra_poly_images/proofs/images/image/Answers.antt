-- Goals of `image`: gives the coordinate x the form's value.
use Rattle.std.proofs.{Common.suc, Common.subst, Common.List, Common.ℤ, lemmas.Result.IfOk-weaker}
use Rattle.lra_poly_images.specs.Crates.{lra_linear_forms.Form.form_row, lra_linear_spec.Descriptions.Con, lra_linear_spec.OperationStrain.ImageStrains, lra_linear_spec.SetOperations.Image}
use Rattle.lra_poly.specs.Outcomes.{Becomes}
use Rattle.lra_poly.proofs.PolyLemmas.{exactly}
use Rattle.lra_poly_images.proofs.{BackImages.row_width, GivenUp.flagged_anyway}
use Rattle.lra_poly_images.proofs.images.image.Goals as goal

pub convert_image-requires-clause-form : goal.convert_image-requires-clause-form
convert_image-requires-clause-form c =
    row_width c.args.form.now c.in_ok-row.row c.args.p.now.dims c.in_ok-row.ensures c.requires.form

pub returns-in-Some-clause-becomes : goal.returns-in-Some-clause-becomes
returns-in-Some-clause-becomes c =
    let p = c.args.p.now in
    let k = suc c.args.x in
    let form = form_row c.args.form.now in
    let made = rw c.in-Some.is at c.in_ok-made.ensures.image in
    exactly p.dims (Image p.dims k form (Con p.rows)) (ImageStrains k form p) c.in-Some.made made

pub returns-clause-becomes : goal.returns-clause-becomes
returns-clause-becomes c =
    let p = c.args.p.now in
    let k = suc c.args.x in
    IfOk-weaker c.convert_image.result _ _ (λ outcome. subst (λ (f : List ℤ). Becomes p.dims (Image p.dims k f (Con p.rows)) (ImageStrains k f p) c.convert_image.new.p outcome)
    c.in_ok-row.ensures) c.convert_image.ensures.becomes

pub returns-clause-stays : goal.returns-clause-stays
returns-clause-stays c =
    let stays = rw c.in-None.is at c.in_ok-made.ensures.none in
    IfOk-weaker c.convert_image.result _ _ (λ outcome _. flagged_anyway _ outcome stays) c.convert_image.ensures.becomes
