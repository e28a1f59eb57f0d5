-- The crates below, by name: for the files here, and for the crates above.
pub use Rattle.lra_row_text.specs as lra_row_text
pub use Rattle.lra_resolution_spec.specs as lra_resolution_spec
pub use Rattle.lra_operations.specs as lra_operations
pub use Rattle.lra_base.specs as lra_base
pub use Rattle.lra_options.specs as lra_options
pub use Rattle.lra_row.specs.Crates.lra_linear_spec
pub use Rattle.lra_resolution_spec.specs.Crates.lra_program
pub use Rattle.lra_resolution_spec.specs.Crates.lra_syntax
pub use Rattle.lra_row_text.specs.Crates.lra_systems
