-- The crates below, by name: for the files here, and for the crates above.
pub use Rattle.lra_duality.proofs as lra_duality
pub use Rattle.lra_description_pair.proofs as lra_description_pair
pub use Rattle.lra_description_pair.proofs.Crates.lra_canonical
pub use Rattle.lra_duality.proofs.Crates.lra_cone
pub use Rattle.lra_duality.proofs.Crates.lra_linear_spec
pub use Rattle.lra_duality.proofs.Crates.lra_systems
