-- Goals of `try_given`: whether the constraint is given, or what was lost as it was tried.
use Rattle.std.proofs.Common.{◌∙◌, ap, sym, true≢false}
use Rattle.lra_poly_queries.specs.Crates.lra_linear_spec.Kinds.{is_equality}
use Rattle.lra_systems.specs.LinearSystems.{constraints}
use Rattle.lra_poly_queries.proofs.TriedRows.{around_given, trial_given, trial_needed, trial_passes}
use Rattle.lra_poly_queries.proofs.context.try_given.Goals as goal

pub returns-then-relation : goal.returns-then-relation
returns-then-relation c =
    trial_given c.args.context.now.dims c.args.context.now.rows (constraints c.args.others.now)
    (record { row = c.args.row.now; equal = is_equality c.args.kind }) c.add_rows.new.self c.in_ok-outcome.outcome
    (around_given c.args.context.now c.in_ok-around.around c.add_rows.new.self (constraints c.args.others.now)
    c.in_ok-outcome.outcome c.in_ok-around.ensures c.in_ok-outcome.ensures.becomes)
    (c.in-Ok.ensures.relation.on_all.0 c.if-relation.true)

pub returns-in-Ok : goal.returns-in-Ok
returns-in-Ok c =
    trial_needed c.args.context.now.dims c.args.context.now.rows (constraints c.args.others.now)
    (record { row = c.args.row.now; equal = is_equality c.args.kind }) c.add_rows.new.self c.in_ok-outcome.outcome
    (around_given c.args.context.now c.in_ok-around.around c.add_rows.new.self (constraints c.args.others.now)
    c.in_ok-outcome.outcome c.in_ok-around.ensures c.in_ok-outcome.ensures.becomes)
    (λ valid. true≢false (sym (c.in-Ok.ensures.relation.on_all.1 valid) ∙ c.if-relation.false))

pub returns : goal.returns
returns c =
    trial_passes c.args.context.now.dims c.args.context.now.rows (constraints c.args.others.now)
    (record { row = c.args.row.now; equal = is_equality c.args.kind }) c.add_rows.new.self c.in_ok-outcome.outcome
    c.and.result c.in_ok-loss-in-Err.loss c.in-Err.excess
    (around_given c.args.context.now c.in_ok-around.around c.add_rows.new.self (constraints c.args.others.now)
    c.in_ok-outcome.outcome c.in_ok-around.ensures c.in_ok-outcome.ensures.becomes)
    c.in-Err.ensures.wide (ap (λ l. l.chosen) c.in_ok-loss-in-Err.ensures)
    (ap (λ l. l.further) c.in_ok-loss-in-Err.ensures) (ap (λ l. l.cause) c.in_ok-loss-in-Err.ensures)
    c.and.ensures.first
