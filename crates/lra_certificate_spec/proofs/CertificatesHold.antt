-- What a certificate says holds in all runs of its program.
use Rattle.std.proofs.Common.{ℕ, List}
use Rattle.lra_paths.proofs.{CoverSteps.kept, FollowedRuns.trees_follow_runs}
use Rattle.lra_certificate_spec.specs.Claims.{IsCertificate, RowsHold, ClaimsAt, program_of}
use Rattle.lra_certificate_spec.proofs.CertificatesKept.{first_kept, next_kept, rows_hold}

pub certificates_hold : (bytes : List ℕ) (x : IsCertificate bytes) → RowsHold (program_of x.program) x.certificate
certificates_hold bytes x =
    let P = program_of x.program in
    let g = x.program.operations in
    rows_hold P g x.certificate x.meets (kept P g (trees_follow_runs P g x.program.graph.well x.program.graph.is_graph) (ClaimsAt x.certificate)
    (record { first = first_kept P g x.certificate x.meets; next = next_kept P g x.certificate x.meets }))
