-- The crates below, by name: for the files here, and for the crates above.
pub use Rattle.lra_paths.proofs as lra_paths
pub use Rattle.lra_paths.proofs.Crates.lra_analysis_spec
pub use Rattle.lra_poly_domain.proofs.Crates.lra_linear_spec
pub use Rattle.lra_paths.proofs.Crates.lra_path_segments
pub use Rattle.lra_paths.proofs.Crates.lra_transfer
