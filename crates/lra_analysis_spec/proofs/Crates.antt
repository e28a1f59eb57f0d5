-- The crates below, by name: for the files here, and for the crates above.
pub use Rattle.lra_operations.proofs as lra_operations
pub use Rattle.lra_domain.proofs as lra_domain
pub use Rattle.lra_operations.proofs.Crates.lra_base
pub use Rattle.lra_domain.proofs.Crates.lra_linear_forms
pub use Rattle.lra_domain.proofs.Crates.lra_linear_spec
pub use Rattle.lra_operations.proofs.Crates.lra_program
