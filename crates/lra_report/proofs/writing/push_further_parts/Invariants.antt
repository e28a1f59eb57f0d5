use Rattle.std.proofs.Common.{◌≡◌, ◌++◌, drop, string_bytes}
use Rattle.lra_report.specs.ReportText.{further_parts_text}
use Rattle.lra_report.proofs.writing.push_further_parts.Given as goal

abbrev pub invariant-loop-part : goal.invariant-loop-part
invariant-loop-part l = string_bytes l.text ++ further_parts_text l.names (drop l.part-index l.parts) ≡ string_bytes l.initial.text ++ further_parts_text l.names l.parts
