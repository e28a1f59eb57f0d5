use Rattle.std.proofs.Common.{◌≡◌, ◌≤◌, ◌-◌, length}
use Rattle.lra_verify.specs.Crates.{lra_certificate_spec.Judged.judged_rows, lra_certificate_spec.Lines.line_number_at, lra_certificate_spec.Lines.pieces_at, lra_systems.LinearSystems.constraints}
use Rattle.lra_certificate_lines.proofs.JudgedLines.{rows_after}
use Rattle.lra_verify.proofs.points.take_rows.Given as goal

abbrev pub invariant-rows : goal.invariant-rows
invariant-rows l = record {
  so_far : rows_after (constraints l.rows) (judged_rows l.live (line_number_at l.bytes l.behind) (pieces_at l.bytes l.behind)) ≡
      judged_rows l.live (line_number_at l.bytes l.fn.at) (pieces_at l.bytes l.fn.at);
  within : l.behind ≤ length l.bytes;
  same : length l.rows.kinds ≡ length l.rows.rows;
  dims : l.rows.dims ≡ l.live;
}

abbrev pub decreases-rows : goal.decreases-rows
decreases-rows l = length l.bytes - l.behind
