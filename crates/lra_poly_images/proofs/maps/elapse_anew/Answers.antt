-- Goals of `elapse_anew`: the time-elapse of two that have a point each, if the generators are converted from nothing.
use Rattle.std.proofs.{Common.◌≡◌, Common.◌∙◌, Common.◌++◌, Common.subst, Common.ℕ, lemmas.Result.IfOk-weaker}
use Rattle.lra_poly_images.specs.Crates.{lra_linear_spec.OperationStrain.as_directions, lra_systems.LinearSystems.generators}
use Rattle.lra_poly.specs.Outcomes.{IsOfGenerators}
use Rattle.lra_poly_images.proofs.Crates.lra_duality.PolyhedronLemmas.{with_point}
use Rattle.lra_poly_images.proofs.ElapsedSets.{elapse_becomes, list_is}
use Rattle.lra_poly.proofs.UnitedLists.{tried_as}
use Rattle.lra_poly_images.proofs.maps.elapse_anew.Goals as goal

pub returns-clause-becomes : goal.returns-clause-becomes
returns-clause-becomes c =
    let p = c.args.p.now in
    let q = c.args.other.now in
    let list = generators c.in_ok-list.list in
    let e : list ≡ p.generators ++ as_directions q.generators =
    list_is p q (generators c.generators.result.now)
    (generators c.generators-2.result.now) list c.in_ok-list.ensures.generators
    c.generators.ensures.generators c.generators-2.ensures.generators in
    let d : c.in_ok-list.list.dims ≡ p.dims = c.in_ok-list.ensures.dims ∙ c.generators.ensures.dims in
    IfOk-weaker c.replace.result _ _ (λ outcome becomes. elapse_becomes p q c.replace.new.p list outcome
    (with_point p c.generators.ensures.canonical c.requires.first)
    (with_point q c.generators-2.ensures.canonical c.requires.second)
    c.requires.dims e (subst (λ (n : ℕ). IsOfGenerators n list c.replace.new.p outcome) d becomes)) c.replace.ensures.becomes

pub returns-clause-tried : goal.returns-clause-tried
returns-clause-tried c =
    let p = c.args.p.now in
    let q = c.args.other.now in
    let list = generators c.in_ok-list.list in
    let e : list ≡ p.generators ++ as_directions q.generators =
    list_is p q (generators c.generators.result.now)
    (generators c.generators-2.result.now) list c.in_ok-list.ensures.generators
    c.generators.ensures.generators c.generators-2.ensures.generators in
    let d : c.in_ok-list.list.dims ≡ p.dims = c.in_ok-list.ensures.dims ∙ c.generators.ensures.dims in
    IfOk-weaker c.replace.result _ _ (λ outcome. tried_as p.dims (p.generators ++ as_directions q.generators) c.in_ok-list.list c.replace.new.p outcome d e) c.replace.ensures.tried
