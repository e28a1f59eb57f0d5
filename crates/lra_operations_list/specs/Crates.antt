-- The crates below, by name: for the files here, and for the crates above.
pub use Rattle.lra_operations.specs as lra_operations
pub use Rattle.lra_program.specs as lra_program
pub use Rattle.lra_linearize.specs.Crates.lra_base
