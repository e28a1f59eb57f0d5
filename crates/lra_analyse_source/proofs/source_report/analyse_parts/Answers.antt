-- Goals of `analyse_parts`: the report of a source over the sets of a domain's values if the options allow more
-- parts than one, else over the domain itself; or its one refusal.
use Rattle.std.proofs.lemmas.Result.{IfOk-weaker}
use Rattle.lra_analyse_source.specs.Crates.lra_report.View.{report_of}
use Rattle.lra_analyse_source.specs.SourceReports.{IsAnalysisReportOver}
use Rattle.lra_analyse_source.proofs.Sayings.{over_sets, over_one}
use Rattle.lra_analyse_source.proofs.source_report.analyse_parts.Goals as goal

pub returns-then-options-gt1-clause-answered : goal.returns-then-options-gt1-clause-answered
returns-then-options-gt1-clause-answered g c =
    IfOk-weaker c.analyse_over.result _ _
    (λ r. over_sets (λ V H m shown. IsAnalysisReportOver m shown c.args.options c.args.bytes.now (report_of r)) g.D.Domain.abstraction g.D.Show.shown c.args.options.parts c.if-options-gt1.true)
    c.analyse_over.ensures.answered

pub returns-else-options-gt1-clause-answered : goal.returns-else-options-gt1-clause-answered
returns-else-options-gt1-clause-answered g c =
    IfOk-weaker c.analyse_over-else-options-gt1.result _ _
    (λ r. over_one (λ V H m shown. IsAnalysisReportOver m shown c.args.options c.args.bytes.now (report_of r)) g.D.Domain.abstraction g.D.Show.shown c.args.options.parts c.if-options-gt1.false)
    c.analyse_over-else-options-gt1.ensures.answered
