-- Goals of `find_image`: the image by what is at hand.
use Rattle.lra_poly_images.specs.Crates.lra_linear_forms.Form.{form_row}
use Rattle.lra_poly_images.proofs.{BackImages.image_made, KeptLists.stays_for}
use Rattle.lra_poly_images.proofs.images.find_image.Goals as goal

pub returns-in-Some-clause-image : goal.returns-in-Some-clause-image
returns-in-Some-clause-image c =
    image_made c.args.p.now c.in-Some.made c.args.x (form_row c.args.form.now) c.args.row.now c.in_ok-made.field-0 c.requires.row c.in-Some.is c.in_ok-made.ensures.image

pub returns-else-get-eq0-clause-none : goal.returns-else-get-eq0-clause-none
returns-else-get-eq0-clause-none c =
    let stays = rw c.in-None.is at c.in_ok-made.ensures.none in
    stays_for c.args.p.now c.args.x (form_row c.args.form.now) c.args.row.now c.requires.row stays
