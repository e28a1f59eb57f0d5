-- The crates below, by name: for the files here, and for the crates above.
pub use Rattle.lra_canonical.proofs as lra_canonical
pub use Rattle.lra_systems.proofs as lra_systems
pub use Rattle.lra_canonical.proofs.Crates.lra_bits
pub use Rattle.lra_systems.proofs.Crates.lra_linear_spec
pub use Rattle.lra_canonical.proofs.Crates.lra_row
