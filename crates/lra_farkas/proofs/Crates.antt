-- The crates below, by name: for the files here, and for the crates above.
pub use Rattle.lra_multipliers.proofs as lra_multipliers
pub use Rattle.lra_poly.proofs.Crates.lra_canonical
pub use Rattle.lra_poly.proofs.Crates.lra_description_pair
pub use Rattle.lra_poly.proofs.Crates.lra_duality
pub use Rattle.lra_systems.proofs.Crates.lra_linear_spec
