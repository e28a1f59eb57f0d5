-- Goals of `one_json`: two reports of one source under one list of options that have the same JSON are the same
-- report.
use Rattle.lra_report.specs.View.{report_of}
use Rattle.lra_report_json.proofs.OneJson.{one_source_json}
use Rattle.lra_report_json.proofs.law.one_json.Goals as goal

pub returns : goal.returns
returns c = one_source_json _ (λ t z h. h) (report_of c.args.first.now) (report_of c.args.second.now)
