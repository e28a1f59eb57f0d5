-- The crates below, by name: for the files here, and for the crates above.
pub use Rattle.lra_domain.specs as lra_domain
pub use Rattle.lra_domain.specs.Crates.lra_linear_forms
pub use Rattle.lra_domain.specs.Crates.lra_linear_spec
pub use Rattle.lra_domain.specs.Crates.lra_systems
