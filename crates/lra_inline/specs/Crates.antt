-- The crates below, by name: for the files here, and for the crates above.
pub use Rattle.lra_inline_steps.specs as lra_inline_steps
pub use Rattle.lra_operations.specs as lra_operations
pub use Rattle.lra_inline_steps.specs.Crates.lra_resolution_spec
pub use Rattle.lra_inline_steps.specs.Crates.lra_syntax
