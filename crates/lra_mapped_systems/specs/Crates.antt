-- The crates below, by name: for the files here, and for the crates above.
pub use Rattle.lra_description_pair.specs as lra_description_pair
pub use Rattle.lra_systems.specs as lra_systems
pub use Rattle.lra_description_pair.specs.Crates.lra_canonical
pub use Rattle.lra_description_pair.specs.Crates.lra_descriptions
pub use Rattle.lra_systems.specs.Crates.lra_linear_spec
pub use Rattle.lra_systems.specs.Crates.lra_row
