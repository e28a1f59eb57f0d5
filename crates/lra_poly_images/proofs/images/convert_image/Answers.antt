-- Goals of `convert_image`: the image, if the generators are converted.
use Rattle.std.proofs.{Common.arith, Common.inl, Common.inr, Common.suc, Common.subst, Common.List, lemmas.Result.IfOk-weaker}
use Rattle.lra_poly_images.specs.Crates.lra_linear_spec.CheckedArithmetic.{checked_product}
use Rattle.lra_poly_images.specs.Crates.lra_linear_spec.OperationStrain.{FormingPasses, ImageStrains, mapped}
use Rattle.lra_poly_images.specs.Crates.{lra_linear_spec.Descriptions.Con, lra_linear_spec.Descriptions.LinearRow, lra_linear_spec.SetOperations.Forget, lra_linear_spec.SetOperations.Image}
use Rattle.lra_poly_images.proofs.{AssignedSets.image_forgets, AssignedSets.image_taken, GivenUp.forgotten_for_image}
use Rattle.lra_poly.proofs.TakenGenerators.{Takes, taken_becomes, taken_inside}
use Rattle.lra_poly_images.proofs.images.convert_image.Goals as goal

pub replace_or_forget-requires-clause-within : goal.replace_or_forget-requires-clause-within
replace_or_forget-requires-clause-within c =
    let p = c.args.p.now in
    let k = suc c.args.x in
    let row = c.args.form.now in
    let image = Image p.dims k row (Con p.rows) in
    let takes : Takes p.dims image (mapped k row p.generators) c.in-Ok.list =
    image_taken p c.generators.result.now c.in-Ok.list c.args.x row c.in_ok-list.field-0
    c.generators.ensures.canonical c.requires.column c.generators.ensures.dims c.generators.ensures.generators
    c.in-Ok.is c.in_ok-list.ensures.dims c.in_ok-list.ensures.generators in
    taken_inside p.dims image (mapped k row p.generators) c.in-Ok.list (Forget p.dims k (Con p.rows)) takes
    (image_forgets p.dims k row (Con p.rows) (omega arith))

pub returns-in-Ok-clause-becomes : goal.returns-in-Ok-clause-becomes
returns-in-Ok-clause-becomes c =
    let p = c.args.p.now in
    let k = suc c.args.x in
    let row = c.args.form.now in
    let image = Image p.dims k row (Con p.rows) in
    let takes : Takes p.dims image (mapped k row p.generators) c.in-Ok.list =
    image_taken p c.generators.result.now c.in-Ok.list c.args.x row c.in_ok-list.field-0
    c.generators.ensures.canonical c.requires.column c.generators.ensures.dims c.generators.ensures.generators
    c.in-Ok.is c.in_ok-list.ensures.dims c.in_ok-list.ensures.generators in
    IfOk-weaker c.replace_or_forget.result _ _ (λ outcome. taken_becomes p.dims image (mapped k row p.generators) c.in-Ok.list (ImageStrains k row p) c.replace_or_forget.new.p
    outcome takes (λ loss s. inr s)) c.replace_or_forget.ensures.becomes

pub returns-in_ok-give_up-in-Err-clause-becomes : goal.returns-in_ok-give_up-in-Err-clause-becomes
returns-in_ok-give_up-in-Err-clause-becomes c =
    let p = c.args.p.now in
    let k = suc c.args.x in
    let row = c.args.form.now in
    let loss = c.in-Err.loss in
    let passes = rw c.in-Err.is at c.in_ok-list.ensures.lost in
    forgotten_for_image k row p c.give_up.new.p loss (omega arith)
    (inl (subst (λ (l : List LinearRow). FormingPasses (λ g. checked_product row g.row) l loss) c.generators.ensures.generators passes))
    c.in_ok-give_up-in-Err.ensures.forgotten
