-- The crates below, by name: for the files here, and for the crates above.
pub use Rattle.lra_systems.specs as lra_systems
pub use Rattle.lra_base.specs as lra_base
pub use Rattle.lra_systems.specs.Crates.lra_linear_spec
