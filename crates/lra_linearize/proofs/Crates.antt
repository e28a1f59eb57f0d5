-- The crates below, by name: for the files here, and for the crates above.
pub use Rattle.lra_analysis_spec.proofs as lra_analysis_spec
pub use Rattle.lra_operations.proofs as lra_operations
pub use Rattle.lra_analysis_spec.proofs.Crates.lra_domain
pub use Rattle.lra_analysis_spec.proofs.Crates.lra_linear_spec
