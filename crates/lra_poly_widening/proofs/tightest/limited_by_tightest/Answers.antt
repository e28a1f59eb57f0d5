-- Goals of `limited_by_tightest`: the limited widening, for which the tightest of the given constraints alone are
-- added.
use Rattle.std.proofs.Common.{ap, ◌∙◌}
use Rattle.lra_poly_widening.specs.Crates.lra_linear_spec.Kinds.{is_equality}
use Rattle.lra_systems.specs.LinearSystems.{constraints}
use Rattle.lra_poly_widening.specs.Tightest.{tightest}
use Rattle.lra_poly_widening.proofs.TightestLemmas.{kept_exact, lost_becomes, tightest_becomes, tightest_falls}
use Rattle.lra_poly_widening.proofs.WideningLemmas.{not_exact, seen_columns}
use Rattle.lra_poly_widening.proofs.tightest.limited_by_tightest.Goals as goal

pub returns-then-is_exact-clause-becomes : goal.returns-then-is_exact-clause-becomes
returns-then-is_exact-clause-becomes c =
    tightest_becomes c.args.p.now c.args.q.now c.in_ok-made.made (constraints c.args.given.now) (constraints c.in_ok-few.few) c.in_ok-made.outcome c.rows-rows.ensures.canonical
    c.rows-others.ensures.canonical c.requires.second c.requires.within (c.in_ok-few.ensures.rows ∙ ap tightest c.in_ok-held.ensures.rows)
    (kept_exact c.args.p.now c.args.q.now (constraints c.args.given.now) c.in_ok-lost.lost c.in_ok-lost.ensures.exact (c.is_exact.ensures.0 c.if-is_exact.true)) c.in_ok-made.ensures.widened

pub returns-then-is_exact-clause-falls : goal.returns-then-is_exact-clause-falls
returns-then-is_exact-clause-falls c =
    tightest_falls c.args.p.now c.args.q.now c.in_ok-made.made (constraints c.args.given.now) (constraints c.in_ok-few.few) c.in_ok-made.outcome
    (c.in_ok-few.ensures.rows ∙ ap tightest c.in_ok-held.ensures.rows) c.rows-rows.ensures.canonical
    (seen_columns is_equality c.args.p.now.dims c.args.given.now.dims c.args.given.now c.rows-given.result.now c.rows-given.ensures.rows c.requires.given c.rows-given.ensures.widths)
    c.in_ok-made.ensures.widened

pub returns-clause-becomes : goal.returns-clause-becomes
returns-clause-becomes c =
    lost_becomes c.args.p.now c.args.q.now c.in_ok-made.made (constraints c.args.given.now) (constraints c.in_ok-few.few) c.in_ok-made.outcome c.in_ok-lost.lost
    (c.in_ok-few.ensures.rows ∙ ap tightest c.in_ok-held.ensures.rows) c.in_ok-made.ensures.widened (not_exact c.is_exact.result c.in_ok-lost.lost c.is_exact.ensures c.if-is_exact.false)
    c.in_ok-lost.ensures.flagged

pub returns-clause-falls : goal.returns-clause-falls
returns-clause-falls c =
    tightest_falls c.args.p.now c.args.q.now c.in_ok-made.made (constraints c.args.given.now) (constraints c.in_ok-few.few) c.in_ok-made.outcome
    (c.in_ok-few.ensures.rows ∙ ap tightest c.in_ok-held.ensures.rows) c.rows-rows.ensures.canonical
    (seen_columns is_equality c.args.p.now.dims c.args.given.now.dims c.args.given.now c.rows-given.result.now c.rows-given.ensures.rows c.requires.given c.rows-given.ensures.widths)
    c.in_ok-made.ensures.widened
