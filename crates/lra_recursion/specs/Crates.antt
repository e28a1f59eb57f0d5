-- The crates below, by name: for the files here, and for the crates above.
pub use Rattle.lra_scopes.specs as lra_scopes
pub use Rattle.lra_scopes.specs.Crates.lra_base
pub use Rattle.lra_scopes.specs.Crates.lra_program
pub use Rattle.lra_scopes.specs.Crates.lra_resolution_spec
pub use Rattle.lra_scopes.specs.Crates.lra_syntax
