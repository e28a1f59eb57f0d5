-- Goals of `Poly::meet_rows_anew`: the polyhedron of the constraints and of these, converted from nothing.
use Rattle.std.proofs.Common.{◌≡◌, ◌++◌, ◌∙◌, ap, List, [], ℕ, subst}
use Rattle.lra_poly.specs.Crates.{lra_linear_spec.Descriptions.LinearRow, lra_linear_spec.OperationStrain.with_positivity, lra_linear_spec.Polyhedra.Polyhedron, lra_systems.LinearSystems.constraints}
use Rattle.lra_poly.specs.Restricted.{IsTried}
use Rattle.lra_poly.proofs.poly.Poly.meet_rows_anew.Goals as goal

pub returns : goal.returns
returns c =
    let p = c.args.self.now in
    let more = constraints c.args.more.now in
    let list = constraints c.in_ok-list.list in
    let e : list ≡ p.rows ++ more = c.in_ok-list.ensures.rows ∙ ap (λ (q : Polyhedron). q.rows ++ more) c.self.view_is in
    let d : c.in_ok-list.list.dims ≡ p.dims = c.in_ok-list.ensures.dims ∙ ap (λ (q : Polyhedron). q.dims) c.self.view_is in
    subst (λ (l : List LinearRow). IsTried p.dims (with_positivity p.dims []) l c.in_ok-made.made c.in_ok-made.outcome) e
    (subst (λ (n : ℕ). IsTried n (with_positivity n []) list c.in_ok-made.made c.in_ok-made.outcome) d c.in_ok-made.ensures.tried)
