-- Goals of `analyse_over`: the report of a source over a domain that shows its values as the options name it, or
-- its one refusal.
use Rattle.std.proofs.Common.{ap, ◌∙◌}
use Rattle.lra_analyse_source.specs.Crates.{lra_analysis_spec.Plan.plan_of, lra_report.View.report_of, lra_syntax.Views.tree_view}
use Rattle.lra_analyse_source.proofs.StageSteps.{is_answered}
use Rattle.lra_analyse_source.proofs.source_report.analyse_over.Goals as goal

pub returns-clause-answered : goal.returns-clause-answered
returns-clause-answered g c =
    is_answered g.D.Domain.abstraction g.met.D.Domain.laws g.D.Show.shown c.args.options c.in_ok-front.front.constants.items c.args.bytes.now
    (tree_view c.in_ok-front.front.tree) (report_of c.in_ok-report.report) c.in_ok-front.ensures.tree c.in_ok-front.ensures.constants c.in_ok-report.ensures c.requires.parts

pub report_front-requires-clause-plan : goal.report_front-requires-clause-plan
report_front-requires-clause-plan g c = c.in_ok-plan.ensures ∙ ap (plan_of c.args.options) c.deref.ensures.value
