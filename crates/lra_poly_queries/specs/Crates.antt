-- The crates below, by name: for the files here, and for the crates above.
pub use Rattle.lra_poly.specs.Crates.lra_duality
pub use Rattle.lra_domain.specs.Crates.lra_linear_forms
pub use Rattle.lra_systems.specs.Crates.lra_linear_spec
pub use Rattle.lra_systems.specs.Crates.lra_row
