-- The crates below, by name: for the files here, and for the crates above.
pub use Rattle.lra_fixpoint.proofs.Crates.lra_analysis_spec
pub use Rattle.lra_fixpoint.proofs.Crates.lra_inline_sound
pub use Rattle.lra_back.proofs.Crates.lra_linear_spec
pub use Rattle.lra_back.proofs.Crates.lra_linearize
pub use Rattle.lra_back.proofs.Crates.lra_operations
pub use Rattle.lra_back.proofs.Crates.lra_path_disjuncts
pub use Rattle.lra_back.proofs.Crates.lra_path_segments
pub use Rattle.lra_back.proofs.Crates.lra_paths
pub use Rattle.lra_fixpoint.proofs.Crates.lra_transfer
