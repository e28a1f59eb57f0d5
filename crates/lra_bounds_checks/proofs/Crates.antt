-- The crates below, by name: for the files here, and for the crates above.
pub use Rattle.lra_overflow_checks.proofs.Crates.lra_analysis_spec
pub use Rattle.lra_overflow_checks.proofs.Crates.lra_linear_spec
pub use Rattle.lra_overflow_checks.proofs.Crates.lra_linearize
pub use Rattle.lra_overflow_checks.proofs.Crates.lra_operations_list
