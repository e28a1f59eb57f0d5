-- The crates below, by name: for the files here, and for the crates above.
pub use Rattle.lra_threads_fixpoint.proofs as lra_threads_fixpoint
pub use Rattle.lra_threads_instrument.proofs as lra_threads_instrument
pub use Rattle.lra_bounds_checks.proofs.Crates.lra_analysis_spec
pub use Rattle.lra_threads_fixpoint.proofs.Crates.lra_box
pub use Rattle.lra_threads_instrument.proofs.Crates.lra_fixpoint
pub use Rattle.lra_threads_instrument.proofs.Crates.lra_inline_sound
pub use Rattle.lra_threads_instrument.proofs.Crates.lra_interference_sound
pub use Rattle.lra_bounds_checks.proofs.Crates.lra_linear_spec
pub use Rattle.lra_threads_instrument.proofs.Crates.lra_operations
pub use Rattle.lra_threads_instrument.proofs.Crates.lra_program
