use Rattle.std.proofs.Common.{◌≡◌, ◌++◌, drop, map, string_bytes}
use Rattle.lra_resolution_spec.specs.ShownNames.{shown_names}
use Rattle.lra_report.proofs.names.names_at.Given as goal

abbrev pub invariant-loop-index : goal.invariant-loop-index
invariant-loop-index l = l.shown ++ shown_names (map string_bytes (drop l.index l.texts)) ≡ shown_names (map string_bytes l.texts)
