-- Goals of `missed_with`: which signs the form misses with a generator.
use Rattle.std.proofs.{Common.rules, Common.FitsSigned, lemmas.Int.to_z-of_z}
use Rattle.std.specs.Int.{w128}
use Rattle.lra_poly_queries.proofs.MissedLists.{missed_here}
use Rattle.lra_poly_queries.proofs.relation.missed_with.Goals as goal

pub returns-clause-misses : goal.returns-clause-misses
returns-clause-misses c =
    let value = c.in_ok-value.value in
    let other = c.opposite.result in
    let fits : FitsSigned w128 value = search rules in
    let fits_other : FitsSigned w128 other = search rules in
    let below = rw (to_z-of_z w128 value fits) at c.accepts.ensures in
    let zero = rw (to_z-of_z w128 value fits) at c.misses_zero.ensures in
    let turned = rw (to_z-of_z w128 value fits) at c.opposite.ensures.value in
    let above = rw (to_z-of_z w128 other fits_other) at c.accepts-2.ensures in
    missed_here c.args.form.now c.args.generator.now c.args.line value other
    (record { below = c.accepts.result; zero = c.misses_zero.result; above = c.accepts-2.result }) below zero above
    c.in_ok-value.ensures.value turned
