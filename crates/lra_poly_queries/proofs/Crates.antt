-- The crates below, by name: for the files here, and for the crates above.
pub use Rattle.lra_mapped_systems.proofs as lra_mapped_systems
pub use Rattle.lra_poly.proofs.Crates.lra_description_pair
pub use Rattle.lra_poly.proofs.Crates.lra_duality
pub use Rattle.lra_domain.proofs.Crates.lra_linear_forms
pub use Rattle.lra_systems.proofs.Crates.lra_linear_spec
pub use Rattle.lra_systems.proofs.Crates.lra_row
pub use Rattle.lra_systems.proofs.Crates.lra_linear_spec.Products.{entry_past}
