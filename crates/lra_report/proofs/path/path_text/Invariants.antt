use Rattle.std.proofs.Common.{◌≡◌, take, map, string_bytes}
use Rattle.lra_report.specs.{ReportText.path_text, View.call_place_of}
use Rattle.lra_report.proofs.path.path_text.Given as goal

abbrev pub invariant-loop-call : goal.invariant-loop-call
invariant-loop-call l = string_bytes l.text ≡ path_text (map call_place_of (take l.call-index l.calls))
