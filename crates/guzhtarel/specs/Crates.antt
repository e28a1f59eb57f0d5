-- The crates below, by name: for the files here, and for the crates above.
pub use Rattle.lra_octagon.specs.Crates.lra_dbm
pub use Rattle.lra_poly.specs.Crates.lra_description_pair
pub use Rattle.lra_poly_domain.specs.Crates.lra_duality
pub use Rattle.lra_poly_domain.specs.Crates.lra_linear_spec
pub use Rattle.lra_poly_images.specs.Crates.lra_mapped_systems
