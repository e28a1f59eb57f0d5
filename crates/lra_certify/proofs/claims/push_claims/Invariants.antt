use Rattle.std.proofs.Common.{drop, string_bytes}
use Rattle.lra_certify.specs.Crates.{lra_linear_spec.Descriptions.system_of, lra_systems.LinearSystems.constraints}
use Rattle.lra_certify.specs.PathFactViews.{LinesLeft}
use Rattle.lra_certify.proofs.claims.push_claims.Given as goal

abbrev pub invariant-loop-place : goal.invariant-loop-place
invariant-loop-place l = LinesLeft l.grounds (system_of (drop l.place (constraints l.rows))) (system_of (constraints l.rows)) (string_bytes l.text)
    (string_bytes l.initial.text)
