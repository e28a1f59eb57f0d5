-- Goals of `Poly::maximise_opposite`: the greatest value of the form's opposite.
use Rattle.std.proofs.Common.{◌≡◌, ◌∙◌, ap, length, refl, suc, sym}
use Rattle.lra_poly.specs.Crates.lra_systems.LinearSystems.{constraints, generators}
use Rattle.lra_poly.specs.Crates.{lra_linear_forms.Form.form_row, lra_linear_spec.Polyhedra.Polyhedron, lra_linear_spec.Vectors.negated}
use Rattle.lra_poly.proofs.Crates.lra_linear_spec.Products.{negated_length}
use Rattle.lra_duality.proofs.GreatestValues.{maximum_tells, starts_with_point}
use Rattle.lra_poly.proofs.poly.Poly.maximise_opposite.Goals as goal

pub maximum_of-requires : goal.maximum_of-requires
maximum_of-requires c =
    let list = c.self.inside.by_generators in
    let p : Polyhedron = record {
      dims = c.self.inside.rows.dims;
      rows = constraints c.self.inside.rows;
      generators = generators list;
    } in
    starts_with_point p list c.self.invariant.0 refl (ap length (sym c.kinds-kinds.ensures.kinds) ∙
    c.kinds-kinds.ensures.len)

pub returns-clause-tells : goal.returns-clause-tells
returns-clause-tells c =
    let p : Polyhedron = record {
      dims = c.self.inside.rows.dims;
      rows = constraints c.self.inside.rows;
      generators = generators c.self.inside.by_generators;
    } in
    let width : length (negated (form_row c.args.form.now)) ≡ suc c.self.inside.rows.dims =
    negated_length (form_row c.args.form.now) ∙ ap suc (c.requires ∙ ap (λ (q : Polyhedron). q.dims)
    (sym c.self.view_is)) in
    rw (← c.self.view_is) (maximum_tells p (negated (form_row c.args.form.now)) c.maximum_of.result c.self.invariant.0
    width c.maximum_of.ensures.maximum)
