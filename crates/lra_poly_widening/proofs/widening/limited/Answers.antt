-- Goals of `limited`: the standard widening met with each given constraint that is valid on both.
use Rattle.lra_poly_widening.specs.Crates.lra_linear_spec.Kinds.{is_equality}
use Rattle.lra_systems.specs.LinearSystems.{constraints}
use Rattle.lra_poly_widening.proofs.WideningLemmas.{limited_falls, seen_columns}
use Rattle.lra_poly_widening.proofs.widening.limited.Goals as goal

pub returns-clause-becomes : goal.returns-clause-becomes
returns-clause-becomes c = c.in_ok-made.ensures.widened.becomes

pub returns-clause-falls : goal.returns-clause-falls
returns-clause-falls c =
    limited_falls c.args.p.now c.args.q.now c.in_ok-made.made (constraints c.args.given.now) c.in_ok-made.outcome c.in_ok-made.ensures.canonical
    (seen_columns is_equality c.args.p.now.dims c.args.given.now.dims c.args.given.now c.rows-rows.result.now c.rows-rows.ensures.rows c.requires.given c.rows-rows.ensures.widths)
    c.in_ok-made.ensures.widened
