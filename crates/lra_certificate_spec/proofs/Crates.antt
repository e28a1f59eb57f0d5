-- The crates below, by name: for the files here, and for the crates above.
pub use Rattle.lra_paths.proofs as lra_paths
pub use Rattle.lra_paths.proofs.Crates.lra_analysis_spec
pub use Rattle.lra_script.proofs.Crates.lra_linear_spec
pub use Rattle.lra_paths.proofs.Crates.lra_path_segments
pub use Rattle.lra_row_text.proofs.Crates.lra_systems
