-- The crates below, by name: for the files here, and for the crates above.
pub use Rattle.lra_poly.specs as lra_poly
pub use Rattle.lra_poly.specs.Crates.lra_bits
pub use Rattle.lra_poly.specs.Crates.lra_description_pair
pub use Rattle.lra_poly.specs.Crates.lra_duality
pub use Rattle.lra_systems.specs.Crates.lra_linear_spec
