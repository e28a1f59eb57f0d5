-- The crates below, by name: for the files here, and for the crates above.
pub use Rattle.lra_resolution_spec.specs as lra_resolution_spec
pub use Rattle.lra_program.specs as lra_program
pub use Rattle.lra_syntax.specs as lra_syntax
pub use Rattle.lra_base.specs as lra_base
