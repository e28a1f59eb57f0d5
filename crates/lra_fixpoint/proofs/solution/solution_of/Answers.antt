-- Goals of `solution_of`: what a pass found, in the order of the points.
use Rattle.std.proofs.{Common.map, Common.length, Common.refl, Common.sym, lemmas.List.length-map}
use Rattle.lra_operations.specs.TreeViews.{site_view}
use Rattle.lra_pass_results.specs.Outcome.{outcome_view}
use Rattle.lra_fixpoint.proofs.Tabled.{apart, tables_solve, values_count, verdicts_count}
use Rattle.lra_fixpoint.proofs.solution.solution_of.Goals as goal

pub tables_of-requires : goal.tables_of-requires
tables_of-requires g c =
    let sites = c.args.sites.now in
    rw c.into_entries-entries.ensures
    (apart (map site_view sites) (outcome_view c.args.outcome).entries c.requires (length sites) (sym (length-map sites site_view)))

pub returns-clause-solves : goal.returns-clause-solves
returns-clause-solves g c =
    let sites = c.args.sites.now in
    let tabled = rw c.into_entries-entries.ensures at c.in_ok-tables.ensures.tabled in
    let verdicts = rw c.deref.ensures.value at c.in_ok-number_held.ensures in
    tables_solve g.D.Domain.abstraction (map site_view sites) (outcome_view c.args.outcome) (length sites) c.in_ok-tables.tables.values.items c.in_ok-tables.tables.verdicts.items
    (sym (length-map sites site_view)) c.requires
    tabled c.in_ok-take_held.field-0.items c.in_ok-number_held.field-0.items c.args.outcome.flag c.in_ok-take_held.ensures verdicts refl

pub returns-clause-points : goal.returns-clause-points
returns-clause-points g c =
    let sites = c.args.sites.now in
    let tabled = rw c.into_entries-entries.ensures at c.in_ok-tables.ensures.tabled in
    let count = values_count g.D.Domain.abstraction (map site_view sites) (outcome_view c.args.outcome) (length sites) c.in_ok-tables.tables.values.items c.in_ok-tables.tables.verdicts.items
    (sym (length-map sites site_view)) c.requires
    tabled c.in_ok-take_held.field-0.items c.in_ok-take_held.ensures in
    rw (length-map sites site_view) at count

pub returns-clause-assertions : goal.returns-clause-assertions
returns-clause-assertions g c =
    let sites = c.args.sites.now in
    let tabled = rw c.into_entries-entries.ensures at c.in_ok-tables.ensures.tabled in
    let verdicts = rw c.deref.ensures.value at c.in_ok-number_held.ensures in
    verdicts_count g.D.Domain.abstraction (map site_view sites) (outcome_view c.args.outcome) (length sites) c.in_ok-tables.tables.values.items c.in_ok-tables.tables.verdicts.items
    (sym (length-map sites site_view)) c.requires
    tabled c.in_ok-number_held.field-0.items verdicts

pub returns-clause-noted : goal.returns-clause-noted
returns-clause-noted g c = rw c.into_entries-entries.ensures at c.in_ok-tables.ensures.noted
