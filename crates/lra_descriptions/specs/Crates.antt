-- The crates below, by name: for the files here, and for the crates above.
pub use Rattle.lra_canonical.specs as lra_canonical
pub use Rattle.lra_systems.specs as lra_systems
pub use Rattle.lra_canonical.specs.Crates.lra_bits
pub use Rattle.lra_systems.specs.Crates.lra_linear_spec
pub use Rattle.lra_canonical.specs.Crates.lra_row
