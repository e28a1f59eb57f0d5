-- The crates below, by name: for the files here, and for the crates above.
pub use Rattle.lra_path_disjuncts.proofs as lra_path_disjuncts
pub use Rattle.lra_path_disjuncts.proofs.Crates.lra_analysis_spec
pub use Rattle.lra_path_disjuncts.proofs.Crates.lra_inline_sound
pub use Rattle.lra_path_disjuncts.proofs.Crates.lra_linear_spec
pub use Rattle.lra_path_disjuncts.proofs.Crates.lra_path_segments
pub use Rattle.lra_operations.proofs.Crates.lra_program
pub use Rattle.lra_path_disjuncts.proofs.Crates.lra_resolution_spec
pub use Rattle.lra_path_disjuncts.proofs.Crates.lra_transfer
