-- The crates below, by name: for the files here, and for the crates above.
pub use Rattle.lra_duality.specs as lra_duality
pub use Rattle.lra_domain.specs as lra_domain
pub use Rattle.lra_linear_spec.specs as lra_linear_spec
pub use Rattle.lra_duality.specs.Crates.lra_linear_forms
pub use Rattle.lra_poly_images.specs.Crates.lra_poly
pub use Rattle.lra_domain.specs.Crates.lra_systems
