-- The crates below, by name: for the files here, and for the crates above.
pub use Rattle.lra_dbm.specs as lra_dbm
pub use Rattle.lra_box.specs as lra_box
pub use Rattle.lra_domain.specs as lra_domain
pub use Rattle.lra_linear_spec.specs as lra_linear_spec
pub use Rattle.lra_domain.specs.Crates.lra_linear_forms
pub use Rattle.lra_domain.specs.Crates.lra_systems
