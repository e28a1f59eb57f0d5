-- Goals of `forget_anew`: lets the coordinate x be anything, if the generators are converted from nothing.
use Rattle.std.proofs.Common.{◌++◌, ◌∷◌, [], suc}
use Rattle.lra_poly_images.specs.Crates.lra_linear_spec.OperationStrain.{ForgetStrains, unit_row}
use Rattle.lra_poly_images.specs.Crates.{lra_linear_spec.Descriptions.Con, lra_linear_spec.Descriptions.line, lra_linear_spec.SetOperations.Forget}
use Rattle.lra_poly_images.proofs.ForgetLemmas.{forget_takes}
use Rattle.lra_poly.proofs.{TakenGenerators.taken_becomes, UnitedLists.tried_as}
use Rattle.lra_poly_images.proofs.images.forget_anew.Goals as goal

pub returns-clause-becomes : goal.returns-clause-becomes
returns-clause-becomes c =
    let p = c.args.p.now in
    let k = suc c.args.x in
    taken_becomes p.dims (Forget p.dims k (Con p.rows)) (p.generators ++ line (unit_row p.dims k) ∷ []) c.in_ok-list.list (ForgetStrains k p) c.in_ok-made.made c.in_ok-made.outcome
    (forget_takes p c.generators.result.now c.in_ok-list.list c.args.x c.generators.ensures.canonical c.requires
    c.generators.ensures.dims c.generators.ensures.generators c.in_ok-list.ensures.dims
    c.in_ok-list.ensures.generators) (λ loss s. s) c.in_ok-made.ensures.becomes

pub returns-clause-tried : goal.returns-clause-tried
returns-clause-tried c =
    let p = c.args.p.now in
    let takes = forget_takes p c.generators.result.now c.in_ok-list.list c.args.x c.generators.ensures.canonical c.requires c.generators.ensures.dims c.generators.ensures.generators
    c.in_ok-list.ensures.dims c.in_ok-list.ensures.generators in
    tried_as p.dims (p.generators ++ line (unit_row p.dims (suc c.args.x)) ∷ []) c.in_ok-list.list c.in_ok-made.made c.in_ok-made.outcome takes.dimensions takes.are c.in_ok-made.ensures.tried
