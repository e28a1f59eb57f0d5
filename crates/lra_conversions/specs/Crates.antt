-- The crates below, by name: for the files here, and for the crates above.
pub use Rattle.lra_descriptions.specs.Crates.lra_linear_spec
pub use Rattle.lra_descriptions.specs.Crates.lra_systems
