-- The crates below, by name: for the files here, and for the crates above.
pub use Rattle.lra_descriptions.proofs as lra_descriptions
pub use Rattle.lra_cone.proofs as lra_cone
pub use Rattle.lra_descriptions.proofs.Crates.lra_bits
pub use Rattle.lra_descriptions.proofs.Crates.lra_canonical
pub use Rattle.lra_descriptions.proofs.Crates.lra_linear_spec
pub use Rattle.lra_descriptions.proofs.Crates.lra_systems
