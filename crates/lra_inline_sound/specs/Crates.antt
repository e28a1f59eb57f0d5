-- The crates below, by name: for the files here, and for the crates above.
pub use Rattle.lra_resolution_spec.specs as lra_resolution_spec
pub use Rattle.lra_operations.specs as lra_operations
pub use Rattle.lra_resolution_spec.specs.Crates.lra_base
pub use Rattle.lra_resolution_spec.specs.Crates.lra_program
pub use Rattle.lra_resolution_spec.specs.Crates.lra_syntax
