-- The crates below, by name: for the files here, and for the crates above.
pub use Rattle.lra_fixpoint.specs as lra_fixpoint
pub use Rattle.lra_operations.specs as lra_operations
pub use Rattle.lra_program.specs as lra_program
pub use Rattle.lra_fixpoint.specs.Crates.lra_analysis_spec
pub use Rattle.lra_program.specs.Crates.lra_base
pub use Rattle.lra_fixpoint.specs.Crates.lra_interference_sound
pub use Rattle.lra_fixpoint.specs.Crates.lra_interleavings
pub use Rattle.lra_fixpoint.specs.Crates.lra_pass_results
pub use Rattle.lra_fixpoint.specs.Crates.lra_transfer
