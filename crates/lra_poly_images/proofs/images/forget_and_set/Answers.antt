-- Goals of `forget_and_set`: the image by a form without the coordinate x, which is anything, and then it is the form.
use Rattle.std.proofs.{Common.ap, Common.suc, lemmas.Result.IfOk-weaker}
use Rattle.lra_poly_images.specs.Crates.lra_linear_forms.Form.{form_row}
use Rattle.lra_poly_images.proofs.SolvedImages.{image_solved}
use Rattle.lra_poly_images.proofs.images.forget_and_set.Goals as goal

pub returns-in-Some : goal.returns-in-Some
returns-in-Some c =
    let free = rw c.in-Some.is at c.in_ok-free.ensures in
    IfOk-weaker c.meet_form.result _ _ (λ made. image_solved c.args.p.now c.in-Some.free made c.args.x (form_row c.args.form.now) c.requires.column (ap suc c.requires.form)
    c.requires.without free) c.meet_form.ensures
