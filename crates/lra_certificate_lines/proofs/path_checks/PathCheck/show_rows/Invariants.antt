use Rattle.std.proofs.Common.{◌≡◌, ◌≤◌, length, drop}
use Rattle.lra_certificate_lines.specs.Crates.lra_systems.LinearSystems.{constraints}
use Rattle.lra_certificate_spec.specs.Lines.{judged_in_turn, left_at}
use Rattle.lra_certificate_lines.specs.PathCheckViews.{row_by}
use Rattle.lra_certificate_lines.proofs.path_checks.PathCheck.show_rows.Given as goal

abbrev pub invariant-loop-place : goal.invariant-loop-place
invariant-loop-place l = record {
  so_far : judged_in_turn (row_by l.self) (drop l.place (constraints l.rows)) (left_at l.bytes l.next) ≡
      judged_in_turn (row_by l.self) (constraints l.rows) (left_at l.bytes l.at);
  within : l.next ≤ length l.bytes;
}
