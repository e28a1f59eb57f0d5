-- Goals of `PolyhedronShow::show`.
use Rattle.std.proofs.Common.{◌∙◌, sym, subst}
use Rattle.lra_report_build.specs.Crates.{lra_linear_spec.Polyhedra.IsPolyhedron, lra_linear_spec.Representable.IsRepresentable}
use Rattle.lra_report_build.proofs.PolyhedronParts.{lists_are, state_canonical, state_is, state_told}
use Rattle.lra_report_build.proofs.polyhedron.PolyhedronShow.show.Goals as goal

pub polyhedron_state-requires-clause-dims : goal.polyhedron_state-requires-clause-dims
polyhedron_state-requires-clause-dims c = c.generators.ensures.dims ∙ sym c.rows.ensures.dims

pub polyhedron_state-requires-clause-canonical : goal.polyhedron_state-requires-clause-canonical
polyhedron_state-requires-clause-canonical c =
    subst IsPolyhedron (sym (lists_are c.args.self.now c.rows.result.now c.generators.result.now c.rows.ensures.dims c.rows.ensures.rows
    c.generators.ensures.generators)) c.rows.ensures.canonical

pub polyhedron_state-requires-clause-formed : goal.polyhedron_state-requires-clause-formed
polyhedron_state-requires-clause-formed c =
    subst IsRepresentable (sym (lists_are c.args.self.now c.rows.result.now c.generators.result.now c.rows.ensures.dims c.rows.ensures.rows
    c.generators.ensures.generators)) c.rows.ensures.formed

pub returns-clause-canonical : goal.returns-clause-canonical
returns-clause-canonical c =
    state_canonical c.args.self.now _ (lists_are c.args.self.now c.rows.result.now c.generators.result.now c.rows.ensures.dims c.rows.ensures.rows
    c.generators.ensures.generators)
    c.polyhedron_state.result c.polyhedron_state.ensures.canonical

pub returns-clause-shown : goal.returns-clause-shown
returns-clause-shown c =
    state_is c.args.self.now _ (lists_are c.args.self.now c.rows.result.now c.generators.result.now c.rows.ensures.dims c.rows.ensures.rows
    c.generators.ensures.generators) c.polyhedron_state.result
    c.polyhedron_state.ensures.shown

pub returns-clause-told : goal.returns-clause-told
returns-clause-told c =
    state_told c.args.self.now _ (lists_are c.args.self.now c.rows.result.now c.generators.result.now c.rows.ensures.dims c.rows.ensures.rows
    c.generators.ensures.generators) c.rows.ensures.canonical
    c.polyhedron_state.result c.polyhedron_state.ensures.shown c.polyhedron_state.ensures.told
