-- The crates below, by name: for the files here, and for the crates above.
pub use Rattle.lra_linear_forms.specs as lra_linear_forms
pub use Rattle.lra_systems.specs as lra_systems
pub use Rattle.lra_systems.specs.Crates.lra_linear_spec
