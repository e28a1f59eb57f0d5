-- The crates below, by name: for the files here, and for the crates above.
pub use Rattle.lra_analysis_spec.proofs.Crates.lra_linear_spec
pub use Rattle.lra_analysis_spec.proofs.Crates.lra_program
