-- Goals of `remove_last`: takes away the last k dimensions.
use Rattle.std.proofs.{Common.◌-◌, Common.ap, Common.ℕ, lemmas.Result.IfOk-weaker}
use Rattle.lra_poly_images.specs.Crates.lra_linear_spec.OperationStrain.{RemoveLastStrains, shortened}
use Rattle.lra_poly_images.specs.Crates.{lra_linear_spec.Descriptions.Con, lra_linear_spec.SetOperations.RemoveLast}
use Rattle.lra_poly.proofs.{TakenGenerators.taken_becomes, UnitedLists.tried_as}
use Rattle.lra_poly_images.proofs.ShortenedSets.{remove_takes}
use Rattle.lra_poly_images.proofs.maps.remove_last.Goals as goal

pub returns-clause-becomes : goal.returns-clause-becomes
returns-clause-becomes c =
    let p = c.args.p.now in
    let k = c.args.k in
    IfOk-weaker c.replace.result _ _ (λ outcome.
    taken_becomes (p.dims - k) (RemoveLast (p.dims - k) k (Con p.rows)) (shortened (p.dims - k) p.generators) c.in_ok-list.list (RemoveLastStrains k p) c.replace.new.p outcome
    (remove_takes p c.generators.result.now c.in_ok-list.list k _ c.generators.ensures.canonical c.requires
    c.generators.ensures.generators (ap (λ (d : ℕ). d - k) c.dims.ensures) c.in_ok-list.ensures.dims
    c.in_ok-list.ensures.generators) (λ loss s. s)) c.replace.ensures.becomes

pub returns-clause-tried : goal.returns-clause-tried
returns-clause-tried c =
    let p = c.args.p.now in
    let k = c.args.k in
    let takes = remove_takes p c.generators.result.now c.in_ok-list.list k _ c.generators.ensures.canonical c.requires c.generators.ensures.generators (ap (λ (d : ℕ). d - k) c.dims.ensures)
    c.in_ok-list.ensures.dims c.in_ok-list.ensures.generators in
    IfOk-weaker c.replace.result _ _ (λ outcome. tried_as (p.dims - k) (shortened (p.dims - k) p.generators) c.in_ok-list.list c.replace.new.p outcome takes.dimensions takes.are)
    c.replace.ensures.tried
