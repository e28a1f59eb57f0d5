-- Goals of `rows_of`: the rows that a loop's head is given.
use Rattle.std.proofs.Common.{◌≡◌, ap, sym, subst, ◌∙◌}
use Rattle.std.specs.Prelude.{option_map, IfOk}
use Rattle.lra_operations.specs.TreeViews.{node_view}
use Rattle.lra_pass_results.specs.Crates.{lra_analysis_spec.GuardThresholds.guard_thresholds, lra_analysis_spec.Thresholds.loop_thresholds, lra_analysis_spec.Thresholds.threshold_rows}
use Rattle.lra_pass_results.specs.Crates.{lra_linear_spec.declared.ConKind.ConKind, lra_program.ProgramViews.cond_view, lra_systems.LinearSystems.LinearSystem}
use Rattle.lra_pass_results.proofs.GivenLoops.{rows_by_condition, rows_by_thresholds}
use Rattle.lra_pass_results.proofs.heads.rows_of.Goals as goal

pub returns-in-None : goal.returns-in-None
returns-in-None c =
    let l = c.args.the_loop.now in
    let condition = cond_view l.condition.now in
    let body = node_view l.body.now in
    let same : guard_thresholds c.args.live l.base condition ≡ loop_thresholds l.plan.now.widening c.args.live l.base condition body =
    rows_by_condition l.plan.now.widening c.args.live l.base condition body (ap (option_map (λ x. x.now)) (sym c.in-None.is) ∙ c.thresholds.ensures) in
    subst (λ (rows : LinearSystem ConKind). IfOk c.guard_thresholds_of.result (λ s. s ≡ rows)) same c.guard_thresholds_of.ensures

pub returns-in-Some : goal.returns-in-Some
returns-in-Some c =
    let l = c.args.the_loop.now in
    let condition = cond_view l.condition.now in
    let body = node_view l.body.now in
    let constants = c.in-Some.constants.now in
    let same : threshold_rows constants c.args.live l.base condition body ≡ loop_thresholds l.plan.now.widening c.args.live l.base condition body =
    rows_by_thresholds l.plan.now.widening constants c.args.live l.base condition body (ap (option_map (λ x. x.now)) (sym c.in-Some.is) ∙ c.thresholds.ensures) in
    subst (λ (rows : LinearSystem ConKind). IfOk c.thresholds_of.result (λ s. s ≡ rows)) same c.thresholds_of.ensures
