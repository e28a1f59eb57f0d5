-- Goals of `Poly::hull`: becomes the hull with the other.
use Rattle.std.proofs.Common.{◌≡◌, ◌++◌, List, ap, refl, subst}
use Rattle.lra_poly.specs.Crates.lra_linear_spec.Descriptions.{Con, LinearRow}
use Rattle.lra_poly.specs.Crates.{lra_linear_spec.OperationStrain.HullStrains, lra_linear_spec.SetOperations.Union, lra_linear_spec.SetOperations.Hull, lra_systems.LinearSystems.generators}
use Rattle.lra_poly.specs.{Outcomes.IfFlagged, United.UnitesAnew}
use Rattle.lra_poly.proofs.{MetRows.never, PolyLemmas.exactly, PolyLemmas.hull_becomes, PolyLemmas.hull_inside}
use Rattle.lra_poly.proofs.poly.Poly.hull.Goals as goal

pub returns-then-lies_in-clause-becomes : goal.returns-then-lies_in-clause-becomes
returns-then-lies_in-clause-becomes c =
    let p = c.args.self.now in
    let q = c.args.other.now in
    exactly p.dims (Hull p.dims (Union (Con p.rows) (Con q.rows))) (HullStrains p q) p
    (hull_inside p q c.rows-rows.ensures.canonical c.requires (c.if-lies_in.ensures.within refl))

pub returns-clause-becomes : goal.returns-clause-becomes
returns-clause-becomes c =
    let p = c.args.self.now in
    let q = c.args.other.now in
    let list = p.generators ++ generators c.generators-more.result.now in
    let e : list ≡ p.generators ++ q.generators = ap (λ (l : List LinearRow). p.generators ++ l) c.generators-more.ensures.generators in
    hull_becomes p q c.in_ok-made.made list c.in_ok-made.outcome c.rows-rows.ensures.canonical c.rows-others.ensures.canonical c.requires e c.in_ok-made.ensures.becomes

pub returns-clause-anew : goal.returns-clause-anew
returns-clause-anew c =
    subst (λ (l : List LinearRow). IfFlagged (λ _. UnitesAnew c.args.self.now l c.in_ok-made.made c.in_ok-made.outcome) c.in_ok-made.outcome)
    c.generators-more.ensures.generators c.in_ok-made.ensures.anew

pub returns-clause-met : goal.returns-clause-met
returns-clause-met c = λ seen. absurd (never c.lies_in.result c.if-lies_in.false (c.lies_in.ensures.first.1 seen))
