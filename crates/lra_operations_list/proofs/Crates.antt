-- The crates below, by name: for the files here, and for the crates above.
pub use Rattle.lra_linearize.proofs as lra_linearize
pub use Rattle.lra_operations.proofs as lra_operations
pub use Rattle.lra_linearize.proofs.Crates.lra_linear_spec
