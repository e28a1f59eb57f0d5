-- Goals of `embed`: adds k dimensions, the last ones, in which the coordinates may be anything.
use Rattle.std.proofs.{Common.◌+◌, lemmas.Result.IfOk-weaker}
use Rattle.lra_poly_images.specs.Crates.{lra_linear_spec.Descriptions.Con, lra_linear_spec.OperationStrain.EmbedStrains, lra_linear_spec.OperationStrain.embedded, lra_linear_spec.SetOperations.Embed}
use Rattle.lra_poly_images.proofs.EmbeddedSets.{embed_takes}
use Rattle.lra_poly.proofs.{TakenGenerators.taken_becomes, UnitedLists.tried_as}
use Rattle.lra_poly_images.proofs.maps.embed.Goals as goal

pub returns-clause-becomes : goal.returns-clause-becomes
returns-clause-becomes c =
    let p = c.args.p.now in
    let k = c.args.k in
    IfOk-weaker c.replace.result _ _ (λ outcome. taken_becomes (p.dims + k) (Embed p.dims (Con p.rows)) (embedded k p) c.in_ok-list.list (EmbedStrains k p) c.replace.new.p outcome
    (embed_takes p c.generators.result.now c.in_ok-list.list k c.generators.ensures.canonical c.generators.ensures.dims
    c.generators.ensures.generators c.in_ok-list.ensures.dims
    c.in_ok-list.ensures.generators) (λ loss s. s)) c.replace.ensures.becomes

pub returns-clause-tried : goal.returns-clause-tried
returns-clause-tried c =
    let p = c.args.p.now in
    let k = c.args.k in
    let takes = embed_takes p c.generators.result.now c.in_ok-list.list k c.generators.ensures.canonical c.generators.ensures.dims c.generators.ensures.generators c.in_ok-list.ensures.dims
    c.in_ok-list.ensures.generators in
    IfOk-weaker c.replace.result _ _ (λ outcome. tried_as (p.dims + k) (embedded k p) c.in_ok-list.list c.replace.new.p outcome takes.dimensions takes.are) c.replace.ensures.tried
