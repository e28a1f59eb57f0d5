-- The crates below, by name: for the files here, and for the crates above.
pub use Rattle.lra_certificate_lines.proofs as lra_certificate_lines
pub use Rattle.lra_certificate_lines.proofs.Crates.lra_certificate_spec
pub use Rattle.lra_certificate_lines.proofs.Crates.lra_multipliers
pub use Rattle.lra_paths.proofs.Crates.lra_path_disjuncts
pub use Rattle.lra_paths.proofs.Crates.lra_path_segments
pub use Rattle.lra_paths.proofs.Crates.lra_resolution_spec
