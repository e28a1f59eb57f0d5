-- Goals of `list_verdicts`: all verdicts, as a report lists them.
use Rattle.std.proofs.Common.{◌∙◌, map, ap, ◌++◌, append_assoc}
use Rattle.std.specs.List.{flat_map}
use Rattle.lra_report_build.specs.Crates.{lra_base.AccessVerdicts.reported_view, lra_operations.TreeViews.site_view}
use Rattle.lra_report.specs.{View.verdict_of, declared.verdict_kinds.VerdictKind.TheVariants.Assertion, declared.verdict_kinds.VerdictKind.TheVariants.Fit}
use Rattle.lra_report_build.specs.{AnalysisResults.access_verdicts_at, AnalysisResults.verdict_at}
use Rattle.lra_report_build.proofs.Verdicts.{added_to_none}
use Rattle.lra_report_build.proofs.listing.list_verdicts.Goals as goal

pub returns : goal.returns
returns c =
    let asserted = map (verdict_at c.args.labels.now.labels (map site_view c.args.sites.now) Assertion) c.args.found.now.assertions.now in
    let fitting = map (verdict_at c.args.labels.now.labels (map site_view c.args.sites.now) Fit) c.args.found.now.fitting.now in
    let inside = flat_map (access_verdicts_at c.args.labels.now.labels (map site_view c.args.sites.now)) (map reported_view c.args.found.now.inside.now) in
    c.in_ok-push_accesses.ensures ∙ ap (λ xs. xs ++ inside) (c.in_ok-push_verdicts-2.ensures ∙
    ap (λ xs. xs ++ fitting) (added_to_none verdict_of _ _ _ c.in_ok-push_verdicts.ensures c.new-listed.ensures.items)) ∙ append_assoc asserted fitting inside
