-- The crates below, by name: for the files here, and for the crates above.
pub use Rattle.lra_fixpoint.proofs as lra_fixpoint
pub use Rattle.lra_operations.proofs as lra_operations
pub use Rattle.lra_program.proofs as lra_program
pub use Rattle.lra_fixpoint.proofs.Crates.lra_inline_sound
pub use Rattle.lra_fixpoint.proofs.Crates.lra_interference_sound
