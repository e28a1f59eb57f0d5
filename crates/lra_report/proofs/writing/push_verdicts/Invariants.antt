use Rattle.std.proofs.Common.{◌≡◌, ◌++◌, take, map, string_bytes}
use Rattle.std.specs.List.{flat_map}
use Rattle.lra_report.specs.{ReportText.verdict_text, View.verdict_of}
use Rattle.lra_report.proofs.writing.push_verdicts.Given as goal

abbrev pub invariant-loop-verdict : goal.invariant-loop-verdict
invariant-loop-verdict l = string_bytes l.text ≡ string_bytes l.initial.text ++ flat_map verdict_text (map verdict_of (take l.verdict-index l.verdicts))
