-- Goals of `is_listed`: whether a verdict stands under this key.
use Rattle.std.proofs.{Common.rules, Common.tests, Common.◌∙◌, lemmas.Iterator.YieldsList-from_slice, lemmas.Iterator.Search.any_from_yields_List}
use Rattle.lra_report.specs.{View.verdict_of, declared.report.Verdict.Verdict}
use Rattle.lra_report_json.specs.ReportJson.{is_under}
use Rattle.lra_report_json.proofs.Keyed.{list_any-map}
use Rattle.lra_report_json.proofs.whole.is_listed.Goals as goal

pub returns : goal.returns
returns c =
    let key = c.args.key.now in
    let verdicts = c.args.report.now.verdicts.items in
    any_from_yields_List (λ (v : Verdict). is_under key (verdict_of v)) _ _ _ c.any.ensures.ran (YieldsList-from_slice verdicts cc) (λ x b q k. search (rules, tests))
    ∙ list_any-map (is_under key) verdict_of verdicts
