-- The crates below, by name: for the files here, and for the crates above.
pub use Rattle.lra_poly_widening.specs.Crates.lra_duality
pub use Rattle.lra_poly_images.specs.Crates.lra_linear_forms
pub use Rattle.lra_script.specs.Crates.lra_linear_spec
pub use Rattle.lra_poly_widening.specs.Crates.lra_poly
pub use Rattle.lra_script.specs.Crates.lra_systems
