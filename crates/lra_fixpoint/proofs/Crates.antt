-- The crates below, by name: for the files here, and for the crates above.
pub use Rattle.lra_pass_results.proofs as lra_pass_results
pub use Rattle.lra_interference_sound.proofs as lra_interference_sound
pub use Rattle.lra_interference_sound.proofs.Crates.lra_analysis_spec
pub use Rattle.lra_pass_results.proofs.Crates.lra_domain
pub use Rattle.lra_interference_sound.proofs.Crates.lra_inline_sound
pub use Rattle.lra_interference_sound.proofs.Crates.lra_linear_spec
pub use Rattle.lra_pass_results.proofs.Crates.lra_transfer
