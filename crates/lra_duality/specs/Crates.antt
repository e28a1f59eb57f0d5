-- The crates below, by name: for the files here, and for the crates above.
pub use Rattle.lra_cone.specs as lra_cone
pub use Rattle.lra_linear_forms.specs as lra_linear_forms
pub use Rattle.lra_descriptions.specs.Crates.lra_bits
pub use Rattle.lra_cone.specs.Crates.lra_double_description
pub use Rattle.lra_row.specs.Crates.lra_linear_spec
pub use Rattle.lra_descriptions.specs.Crates.lra_systems
