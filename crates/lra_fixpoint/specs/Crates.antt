-- The crates below, by name: for the files here, and for the crates above.
pub use Rattle.lra_pass_results.specs as lra_pass_results
pub use Rattle.lra_interference_sound.specs as lra_interference_sound
pub use Rattle.lra_interference_sound.specs.Crates.lra_analysis_spec
pub use Rattle.lra_operations.specs.Crates.lra_base
pub use Rattle.lra_interference_sound.specs.Crates.lra_domain
pub use Rattle.lra_interference_sound.specs.Crates.lra_interleavings
pub use Rattle.lra_operations.specs.Crates.lra_program
pub use Rattle.lra_pass_results.specs.Crates.lra_transfer
