-- Goals of `grow_by_widening`: the growth by a widening with the join; all points if the join is flagged.
use Rattle.std.proofs.Common.{rules, ◌≡◌}
use Rattle.lra_domain.specs.declared.Exactness.TheVariants as degree
use Rattle.lra_linear_spec.specs.Kinds.{is_equality}
use Rattle.lra_poly_domain.specs.Crates.lra_systems.LinearSystems.{constraints}
use Rattle.lra_poly_widening.proofs.WideningLemmas.{seen_columns}
use Rattle.lra_poly_domain.proofs.GrowthLemmas.{grown_by_widening, grown_up}
use Rattle.lra_poly_domain.proofs.growth.grow_by_widening.Goals as goal

pub returns-then-eq-clause-grown : goal.returns-then-eq-clause-grown
returns-then-eq-clause-grown c =
    let given = constraints c.args.given.now in
    let columns = seen_columns is_equality c.args.p.now.dims c.args.given.now.dims c.args.given.now c.rows-given.result.now c.rows-given.ensures.rows c.requires.given c.rows-given.ensures.widths in
    let flags : c.in_ok-join.exactness ≡ degree.Flagged = search rules in
    grown_up c.args.mode c.args.p.now c.args.next.now c.in_ok-join.join c.in_ok-all.all.value given (constraints c.in_ok-all.all.thresholds) c.in_ok-join.exactness c.in_ok-all.all.exactness
    c.requires.widens c.rows-rows.ensures.canonical columns c.in_ok-join.ensures flags c.in_ok-all.ensures.all c.in_ok-all.ensures.left c.in_ok-all.ensures.flagged

pub returns-clause-grown : goal.returns-clause-grown
returns-clause-grown c =
    let given = constraints c.args.given.now in
    let fits : c.in_ok-join.exactness ≡ degree.Exact = search rules in
    grown_by_widening c.args.mode c.args.p.now c.args.next.now c.in_ok-join.join c.in_ok-value.value given (constraints c.in_ok-left.left) c.in_ok-join.exactness c.in_ok-value.widening
    c.strike-exactness.result c.requires.widens c.in_ok-join.ensures fits c.in_ok-value.ensures c.in_ok-left.ensures.rows c.strike-exactness.ensures
