-- The crates below, by name: for the files here, and for the crates above.
pub use Rattle.lra_paths.proofs as lra_paths
pub use Rattle.lra_operations.proofs as lra_operations
pub use Rattle.lra_paths.proofs.Crates.lra_analysis_spec
pub use Rattle.lra_paths.proofs.Crates.lra_linear_spec
pub use Rattle.lra_pass_results.proofs.Crates.lra_linearize
pub use Rattle.lra_paths.proofs.Crates.lra_path_disjuncts
pub use Rattle.lra_paths.proofs.Crates.lra_path_segments
