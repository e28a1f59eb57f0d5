-- The crates below, by name: for the files here, and for the crates above.
pub use Rattle.lra_verify.proofs as lra_verify
pub use Rattle.lra_verify.proofs.Crates.lra_certificate_lines
pub use Rattle.lra_verify.proofs.Crates.lra_certificate_spec
pub use Rattle.lra_farkas.proofs.Crates.lra_linear_spec
pub use Rattle.lra_farkas.proofs.Crates.lra_multipliers
pub use Rattle.lra_verify.proofs.Crates.lra_path_segments
