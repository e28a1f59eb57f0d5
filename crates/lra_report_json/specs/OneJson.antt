-- One JSON text, one report.
use Rattle.std.specs.Prelude.{◌≡◌, ℕ, List}
use Rattle.lra_options.specs.declared.options.Options.{Options}
use Rattle.lra_report_json.specs.Crates.lra_syntax.Faults.{Language}
use Rattle.lra_report.specs.{Listing.IsReportOf, Report.Report, Spelled.IsReadable, Spelled.HasOneTree}
use Rattle.lra_report_json.specs.ReportJson.{report_json}

-- two reports of one source of the language L under one list of options that have the same JSON are the same
abbrev pub OneSourceJson : Language → Report → Report → Type 0
OneSourceJson L r s = (o : Options) (source : List ℕ) → HasOneTree L source → IsReportOf L o source r →
    IsReportOf L o source s → IsReadable r → IsReadable s → report_json r ≡ report_json s → r ≡ s
