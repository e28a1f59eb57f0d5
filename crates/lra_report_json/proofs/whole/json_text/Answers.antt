-- Goals of `json_text`: the JSON of a report, ended by a line feed.
use Rattle.std.proofs.Common.{◌∷◌, ◌++◌, [], ap, ◌∙◌}
use Rattle.lra_report.specs.View.{report_of}
use Rattle.lra_report_json.proofs.Floats.{written_without_floats}
use Rattle.lra_report_json.proofs.whole.json_text.Goals as goal

pub returns : goal.returns
returns c =
    c.in_ok-push.ensures.items ∙ ap (λ t. t ++ 10 ∷ []) (written_without_floats (report_of c.args.report.now) _ _ c.in_ok-value.ensures c.in_ok-bytes.ensures.text)
