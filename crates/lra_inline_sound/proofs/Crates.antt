-- The crates below, by name: for the files here, and for the crates above.
pub use Rattle.lra_resolution_spec.proofs as lra_resolution_spec
pub use Rattle.lra_operations.proofs as lra_operations
pub use Rattle.lra_resolution_spec.proofs.Crates.lra_program
pub use Rattle.lra_resolution_spec.proofs.Crates.lra_syntax
