-- Goals of `convert_preimage`: the preimage, if the constraints are converted.
use Rattle.std.proofs.Common.{◌≡◌, ◌∙◌, suc, subst, List}
use Rattle.std.specs.{List.Contains, Prelude.IfNone, Prelude.IfSome}
use Rattle.lra_poly_images.specs.Crates.lra_linear_spec.OperationStrain.{FormingPasses, substituted_rows}
use Rattle.lra_poly_images.specs.Crates.{lra_linear_spec.CheckedArithmetic.checked_substitution, lra_linear_spec.Descriptions.LinearRow, lra_systems.LinearSystems.constraints}
use Rattle.lra_poly_images.proofs.{KeptLists.of_formed, SubstitutedSets.assignment_of, SubstitutedSets.preimage_becomes}
use Rattle.lra_poly_images.proofs.images.convert_preimage.Goals as goal

pub returns-clause-becomes : goal.returns-clause-becomes
returns-clause-becomes c =
    let p = c.args.p.now in
    let k = suc c.args.x in
    let row = c.args.form.now in
    let list = constraints c.in_ok-formed.formed.list in
    let told = c.in_ok-formed.ensures in
    let seen = c.rows.ensures.rows in
    preimage_becomes p c.in_ok-made.made k row c.in_ok-formed.formed.list.dims list c.in_ok-formed.formed.lost c.in_ok-made.outcome c.first_told.result
    (assignment_of p c.args.x row c.rows.ensures.canonical c.requires.column c.requires.form) (told.dims ∙ c.rows.ensures.dims) c.first_told.ensures.none c.first_told.ensures.some
    (subst (λ (l : List LinearRow). IfNone c.in_ok-formed.formed.lost (list ≡ substituted_rows k row l)) seen told.all)
    (subst (λ (l : List LinearRow). (g : LinearRow) → Contains list g → Contains (substituted_rows k row l) g) seen told.among)
    (subst (λ (l : List LinearRow). IfSome c.in_ok-formed.formed.lost (FormingPasses (λ g. checked_substitution k row g.row) l)) seen told.lost)
    c.in_ok-made.ensures.becomes

pub returns-clause-formed : goal.returns-clause-formed
returns-clause-formed c = of_formed (suc c.args.x) c.args.form.now c.args.p.now c.in_ok-made.made c.in_ok-formed.formed.list (constraints c.rows.result.now) c.in_ok-made.outcome
    (c.in_ok-formed.ensures.dims ∙ c.rows.ensures.dims) c.rows.ensures.rows c.in_ok-formed.ensures.among c.in_ok-formed.ensures.formed c.in_ok-made.ensures.tried
