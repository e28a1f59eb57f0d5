use Rattle.std.proofs.Common.{◌≡◌, ◌++◌, drop, string_bytes}
use Rattle.lra_certify.specs.Crates.lra_systems.LinearSystems.{constraints}
use Rattle.lra_certify.specs.Lines.{rows_text}
use Rattle.lra_certify.proofs.text.push_rows.Given as goal

abbrev pub invariant-loop-place : goal.invariant-loop-place
invariant-loop-place l = string_bytes l.text ++ rows_text (drop l.place (constraints l.rows)) ≡
    string_bytes l.initial.text ++ rows_text (constraints l.rows)
