-- The crates below, by name: for the files here, and for the crates above.
pub use Rattle.lra_program.specs as lra_program
pub use Rattle.lra_operations.specs.Crates.lra_base
