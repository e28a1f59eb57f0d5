-- The crates below, by name: for the files here, and for the crates above.
pub use Rattle.lra_pass_results.specs.Crates.lra_analysis_spec
pub use Rattle.lra_operations.specs.Crates.lra_base
pub use Rattle.lra_pass_results.specs.Crates.lra_domain
pub use Rattle.lra_operations.specs.Crates.lra_program
pub use Rattle.lra_pass_results.specs.Crates.lra_transfer
