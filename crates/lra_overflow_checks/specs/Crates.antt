-- The crates below, by name: for the files here, and for the crates above.
pub use Rattle.lra_operations_list.specs as lra_operations_list
pub use Rattle.lra_operations.specs as lra_operations
pub use Rattle.lra_transfer.specs.Crates.lra_analysis_spec
pub use Rattle.lra_program.specs.Crates.lra_base
pub use Rattle.lra_transfer.specs.Crates.lra_domain
pub use Rattle.lra_transfer.specs.Crates.lra_linear_forms
