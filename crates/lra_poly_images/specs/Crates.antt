-- The crates below, by name: for the files here, and for the crates above.
pub use Rattle.lra_mapped_systems.specs as lra_mapped_systems
pub use Rattle.lra_poly.specs as lra_poly
pub use Rattle.lra_mapped_systems.specs.Crates.lra_canonical
pub use Rattle.lra_mapped_systems.specs.Crates.lra_description_pair
pub use Rattle.lra_mapped_systems.specs.Crates.lra_descriptions
pub use Rattle.lra_poly.specs.Crates.lra_duality
pub use Rattle.lra_poly.specs.Crates.lra_linear_forms
pub use Rattle.lra_mapped_systems.specs.Crates.lra_linear_spec
pub use Rattle.lra_mapped_systems.specs.Crates.lra_row
pub use Rattle.lra_mapped_systems.specs.Crates.lra_systems
