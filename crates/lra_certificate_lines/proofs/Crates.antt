-- The crates below, by name: for the files here, and for the crates above.
pub use Rattle.lra_certificate_spec.proofs as lra_certificate_spec
pub use Rattle.lra_multipliers.proofs as lra_multipliers
pub use Rattle.lra_row.proofs.Crates.lra_linear_spec
pub use Rattle.lra_certificate_spec.proofs.Crates.lra_systems
