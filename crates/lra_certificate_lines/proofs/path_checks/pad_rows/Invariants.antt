use Rattle.std.proofs.Common.{◌≡◌, suc, map, take, length}
use Rattle.lra_certificate_lines.specs.Crates.lra_systems.LinearSystems.{constraints}
use Rattle.lra_certificate_spec.specs.Certificates.{padded}
use Rattle.lra_certificate_lines.proofs.path_checks.pad_rows.Given as goal

abbrev pub invariant-loop-place : goal.invariant-loop-place
invariant-loop-place l = record {
  so_far : constraints l.wide ≡ map (padded (suc l.dims)) (take l.place (constraints l.rows));
  dims : l.wide.dims ≡ l.dims;
  kinds : length l.wide.kinds ≡ length l.wide.rows;
}
