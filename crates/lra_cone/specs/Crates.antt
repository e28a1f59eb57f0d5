-- The crates below, by name: for the files here, and for the crates above.
pub use Rattle.lra_double_description.specs as lra_double_description
pub use Rattle.lra_double_description.specs.Crates.lra_bits
pub use Rattle.lra_systems.specs.Crates.lra_linear_spec
