-- The crates below, by name: for the files here, and for the crates above.
pub use Rattle.lra_threads_instrument.specs.Crates.lra_analysis_spec
pub use Rattle.lra_program.specs.Crates.lra_base
pub use Rattle.lra_octagon.specs.Crates.lra_domain
pub use Rattle.lra_threads_instrument.specs.Crates.lra_fixpoint
pub use Rattle.lra_bounds_checks.specs.Crates.lra_overflow_checks
pub use Rattle.lra_threads_instrument.specs.Crates.lra_pass_results
pub use Rattle.lra_threads_instrument.specs.Crates.lra_transfer
