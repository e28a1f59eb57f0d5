-- Goals of `PolyhedronHead::give_up`: what it becomes if it isn't decided whether next lies in its value.
use Rattle.lra_linear_spec.specs.Kinds.{is_equality}
use Rattle.lra_poly_domain.specs.Crates.lra_systems.LinearSystems.{constraints}
use Rattle.lra_poly_widening.proofs.WideningLemmas.{seen_columns}
use Rattle.lra_poly_domain.specs.Growth.{head}
use Rattle.lra_poly_domain.proofs.GrowthLemmas.{grew_wide, wide_lower}
use Rattle.lra_poly_domain.proofs.head.PolyhedronHead.give_up.Goals as goal

pub returns-clause-grew : goal.returns-clause-grew
returns-clause-grew c = λ mode.
    rw (c.in_ok-new.ensures.content, ← c.self.view_is)
    (grew_wide (head c.self.inside.value (constraints c.self.inside.thresholds)) c.args.next.now mode (head c.in_ok-all.all.value (constraints c.in_ok-all.all.thresholds))
    (rw c.in_ok-new.ensures.content at c.in_ok-new.ensures.formed) (rw (← c.self.view_is) at c.requires.dims) (rw (← c.self.view_is) at c.requires.strains)
    c.in_ok-all.ensures.all c.in_ok-all.ensures.left)

pub returns-clause-lower : goal.returns-clause-lower
returns-clause-lower c =
    let given = c.self.inside.thresholds in
    let columns = seen_columns is_equality c.self.inside.value.dims given.dims given c.rows-given.result.now c.rows-given.ensures.rows c.self.invariant.0 c.rows-given.ensures.widths in
    rw (c.in_ok-new.ensures.content, ← c.self.view_is)
    (wide_lower (head c.self.inside.value (constraints given)) c.args.next.now (head c.in_ok-all.all.value (constraints c.in_ok-all.all.thresholds)) c.rows-rows.ensures.canonical columns
    (rw (← c.self.view_is) at c.requires.strains) c.in_ok-all.ensures.all c.in_ok-all.ensures.left)
