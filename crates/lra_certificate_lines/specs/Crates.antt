-- The crates below, by name: for the files here, and for the crates above.
pub use Rattle.lra_certificate_spec.specs as lra_certificate_spec
pub use Rattle.lra_multipliers.specs as lra_multipliers
pub use Rattle.lra_multipliers.specs.Crates.lra_domain
pub use Rattle.lra_certificate_spec.specs.Crates.lra_front_end
pub use Rattle.lra_multipliers.specs.Crates.lra_linear_forms
pub use Rattle.lra_row.specs.Crates.lra_linear_spec
pub use Rattle.lra_certificate_spec.specs.Crates.lra_path_disjuncts
pub use Rattle.lra_certificate_spec.specs.Crates.lra_program
pub use Rattle.lra_certificate_spec.specs.Crates.lra_row_text
pub use Rattle.lra_certificate_spec.specs.Crates.lra_script
pub use Rattle.lra_certificate_spec.specs.Crates.lra_syntax
pub use Rattle.lra_multipliers.specs.Crates.lra_systems
