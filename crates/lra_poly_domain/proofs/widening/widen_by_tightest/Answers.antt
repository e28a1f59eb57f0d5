-- Goals of `widen_by_tightest`: the widening limited by the tightest rows, by a polyhedron that the first lies in.
use Rattle.lra_domain.specs.declared.Mode.TheVariants.{Tightest}
use Rattle.lra_poly_domain.specs.Crates.lra_systems.LinearSystems.{constraints}
use Rattle.lra_poly_domain.proofs.GrowthLemmas.{is_widening, never_refused}
use Rattle.lra_poly_domain.proofs.widening.widen_by_tightest.Goals as goal

pub unreachable-requires : goal.unreachable-requires
unreachable-requires c =
    never_refused c.args.p.now c.args.q.now c.in-Err-NotIncluded.field-0 c.in-Err-NotIncluded.field-0-0 c.rows-rows.ensures.canonical c.requires.within c.in-Err-NotIncluded.field-0-is
    c.in-Err-NotIncluded.ensures.refused

pub returns-in-Ok : goal.returns-in-Ok
returns-in-Ok c =
    rw c.exactness_of-exactness.ensures
    (is_widening Tightest c.args.p.now c.args.q.now c.in-Ok.made (constraints c.args.given.now) c.in-Ok.outcome c.in-Ok.ensures.becomes c.in-Ok.ensures.old c.in-Ok.ensures.falls)
