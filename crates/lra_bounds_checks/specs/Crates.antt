-- The crates below, by name: for the files here, and for the crates above.
pub use Rattle.lra_overflow_checks.specs as lra_overflow_checks
pub use Rattle.lra_operations.specs as lra_operations
pub use Rattle.lra_overflow_checks.specs.Crates.lra_analysis_spec
pub use Rattle.lra_program.specs.Crates.lra_base
pub use Rattle.lra_domain.specs.Crates.lra_linear_forms
pub use Rattle.lra_domain.specs.Crates.lra_linear_spec
pub use Rattle.lra_overflow_checks.specs.Crates.lra_operations_list
