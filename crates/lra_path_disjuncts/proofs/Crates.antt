-- The crates below, by name: for the files here, and for the crates above.
pub use Rattle.lra_path_segments.proofs as lra_path_segments
pub use Rattle.lra_transfer.proofs as lra_transfer
pub use Rattle.lra_inline_sound.proofs as lra_inline_sound
pub use Rattle.lra_linearize.proofs.Crates.lra_analysis_spec
pub use Rattle.lra_path_segments.proofs.Crates.lra_linear_spec
pub use Rattle.lra_inline_sound.proofs.Crates.lra_resolution_spec
