-- Goals of `Poly::unite_anew`: the polyhedron of its generators and of these, converted from nothing.
use Rattle.std.proofs.Common.{◌≡◌, ◌++◌, ◌∙◌, List, ℕ, ap, refl, subst}
use Rattle.lra_poly.specs.Crates.{lra_linear_spec.Descriptions.LinearRow, lra_linear_spec.Polyhedra.Polyhedron, lra_systems.LinearSystems.generators}
use Rattle.lra_poly.specs.{Outcomes.IfFlagged, Outcomes.IsOfGenerators, United.AreTriedPoints}
use Rattle.lra_poly.proofs.PolyLemmas.{joined_seen}
use Rattle.lra_poly.proofs.poly.Poly.unite_anew.Goals as goal

pub returns-clause-becomes : goal.returns-clause-becomes
returns-clause-becomes c =
    let p = c.args.self.now in
    let more = generators c.args.more.now in
    let list = generators c.in_ok-all.all in
    let made = c.in_ok-made.made in
    let o = c.in_ok-made.outcome in
    let e : list ≡ p.generators ++ more = joined_seen list (generators c.self.inside.by_generators) more p.generators more
    c.in_ok-all.ensures.generators (ap (λ (x : Polyhedron). x.generators) c.self.view_is) refl in
    let d : c.in_ok-all.all.dims ≡ p.dims = c.in_ok-all.ensures.dims ∙ c.self.invariant.1 ∙ ap (λ (x : Polyhedron). x.dims) c.self.view_is in
    subst (λ (l : List LinearRow). IsOfGenerators p.dims l made o) e
    (subst (λ (n : ℕ). IsOfGenerators n list made o) d c.in_ok-made.ensures.becomes)

pub returns-clause-tried : goal.returns-clause-tried
returns-clause-tried c =
    let p = c.args.self.now in
    let more = generators c.args.more.now in
    let list = generators c.in_ok-all.all in
    let made = c.in_ok-made.made in
    let o = c.in_ok-made.outcome in
    let e : list ≡ p.generators ++ more = joined_seen list (generators c.self.inside.by_generators) more p.generators more
    c.in_ok-all.ensures.generators (ap (λ (x : Polyhedron). x.generators) c.self.view_is) refl in
    let d : c.in_ok-all.all.dims ≡ p.dims = c.in_ok-all.ensures.dims ∙ c.self.invariant.1 ∙ ap (λ (x : Polyhedron). x.dims) c.self.view_is in
    subst (λ (l : List LinearRow). IfFlagged (λ _. AreTriedPoints p.dims l made o) o) e
    (subst (λ (n : ℕ). IfFlagged (λ _. AreTriedPoints n list made o) o) d c.in_ok-made.ensures.tried)
