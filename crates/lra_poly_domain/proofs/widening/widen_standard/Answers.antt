-- Goals of `widen_standard`: the standard widening by a polyhedron that the first lies in.
use Rattle.lra_domain.specs.declared.Mode.TheVariants.{Widen}
use Rattle.lra_linear_spec.specs.Kinds.{is_equality}
use Rattle.lra_poly_domain.specs.Crates.lra_systems.LinearSystems.{constraints}
use Rattle.lra_poly_widening.proofs.WideningLemmas.{seen_columns}
use Rattle.lra_poly_domain.proofs.GrowthLemmas.{is_widening, never_refused}
use Rattle.lra_poly_domain.proofs.widening.widen_standard.Goals as goal

pub unreachable-requires : goal.unreachable-requires
unreachable-requires c =
    never_refused c.args.p.now c.args.q.now c.in-Err-NotIncluded.field-0 c.in-Err-NotIncluded.field-0-0 c.rows-rows.ensures.canonical c.requires.within c.in-Err-NotIncluded.field-0-is
    c.in-Err-NotIncluded.ensures.refused

pub returns-in-Ok : goal.returns-in-Ok
returns-in-Ok c =
    let given = constraints c.args.given.now in
    let columns = seen_columns is_equality c.args.p.now.dims c.args.given.now.dims c.args.given.now c.rows-given.result.now c.rows-given.ensures.rows c.requires.given c.rows-given.ensures.widths in
    rw c.exactness_of-exactness.ensures
    (is_widening Widen c.args.p.now c.args.q.now c.in-Ok.made given c.in-Ok.outcome c.in-Ok.ensures.becomes c.in-Ok.ensures.old
    (λ apart. c.in-Ok.ensures.falls apart given columns))
