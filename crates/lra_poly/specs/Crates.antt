-- The crates below, by name: for the files here, and for the crates above.
pub use Rattle.lra_duality.specs as lra_duality
pub use Rattle.lra_description_pair.specs as lra_description_pair
pub use Rattle.lra_duality.specs.Crates.lra_bits
pub use Rattle.lra_duality.specs.Crates.lra_cone
pub use Rattle.lra_duality.specs.Crates.lra_linear_forms
pub use Rattle.lra_duality.specs.Crates.lra_linear_spec
pub use Rattle.lra_duality.specs.Crates.lra_systems
