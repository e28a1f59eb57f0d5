use Rattle.std.proofs.Common.{◌≡◌, ◌++◌, take, length}
use Rattle.lra_certificate_lines.specs.Crates.lra_systems.LinearSystems.{constraints}
use Rattle.lra_certificate_lines.proofs.path_checks.push_rows.Given as goal

abbrev pub invariant-loop-place : goal.invariant-loop-place
invariant-loop-place l = record {
  so_far : constraints l.all ≡ constraints l.initial.all ++ take l.place (constraints l.rows);
  dims : l.all.dims ≡ l.initial.all.dims;
  kinds : length l.all.kinds ≡ length l.all.rows;
}
