-- The crates below, by name: for the files here, and for the crates above.
pub use Rattle.lra_transfer.specs as lra_transfer
pub use Rattle.lra_program.specs as lra_program
pub use Rattle.lra_transfer.specs.Crates.lra_analysis_spec
pub use Rattle.lra_transfer.specs.Crates.lra_domain
pub use Rattle.lra_transfer.specs.Crates.lra_linear_spec
pub use Rattle.lra_transfer.specs.Crates.lra_systems
