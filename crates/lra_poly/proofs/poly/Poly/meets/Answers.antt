-- Goals of `Poly::meets`: whether it is known that each point meets each of the constraints.
use Rattle.std.proofs.Common.{◌↔◌, IsTrue, subst, true, false}
use Rattle.lra_poly.specs.Crates.{lra_linear_spec.Polyhedra.Polyhedron, lra_systems.LinearSystems.constraints, lra_systems.LinearSystems.generators}
use Rattle.lra_duality.specs.declared.inclusion.Inclusion.TheVariants.{No, Wide}
use Rattle.lra_duality.proofs.InclusionLemmas.{yes_within}
use Rattle.lra_poly.specs.Restricted.{IsSeenWithin}
use Rattle.lra_poly.proofs.MetRows.{is_other, is_yes, no_is_not_yes, wide_is_not_yes}
use Rattle.lra_poly.proofs.poly.Poly.meets.Goals as goal

pub returns-in-Yes-clause-within : goal.returns-in-Yes-clause-within
returns-in-Yes-clause-within c =
    let p : Polyhedron = record {
      dims = c.self.inside.rows.dims;
      rows = constraints c.self.inside.rows;
      generators = generators c.self.inside.by_generators;
    } in
    let within = yes_within p (constraints c.args.list.now) c.inclusion_of.result c.self.invariant.0 c.inclusion_of.ensures c.in-Yes.is in
    rw (← c.self.view_is) (λ _. within)

pub returns-in-Yes-clause-first : goal.returns-in-Yes-clause-first
returns-in-Yes-clause-first c =
    let rows = constraints c.args.list.now in
    subst (λ (p : Polyhedron). IsTrue true ↔ IsSeenWithin p rows) c.self.view_is
    (is_yes rows (generators c.self.inside.by_generators) c.inclusion_of.result c.inclusion_of.ensures c.in-Yes.is)

pub returns-in-No-clause-first : goal.returns-in-No-clause-first
returns-in-No-clause-first c =
    let rows = constraints c.args.list.now in
    subst (λ (p : Polyhedron). IsTrue false ↔ IsSeenWithin p rows) c.self.view_is
    (is_other rows (generators c.self.inside.by_generators) c.inclusion_of.result (No c.in-No.field-0) c.inclusion_of.ensures c.in-No.is (no_is_not_yes c.in-No.field-0))

pub returns-in-Wide-clause-first : goal.returns-in-Wide-clause-first
returns-in-Wide-clause-first c =
    let rows = constraints c.args.list.now in
    subst (λ (p : Polyhedron). IsTrue false ↔ IsSeenWithin p rows) c.self.view_is
    (is_other rows (generators c.self.inside.by_generators) c.inclusion_of.result (Wide c.in-Wide.field-0 c.in-Wide.field-1) c.inclusion_of.ensures c.in-Wide.is
    (wide_is_not_yes c.in-Wide.field-0 c.in-Wide.field-1))
