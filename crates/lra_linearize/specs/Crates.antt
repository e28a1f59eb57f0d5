-- The crates below, by name: for the files here, and for the crates above.
pub use Rattle.lra_analysis_spec.specs as lra_analysis_spec
pub use Rattle.lra_base.specs as lra_base
pub use Rattle.lra_operations.specs as lra_operations
pub use Rattle.lra_program.specs as lra_program
pub use Rattle.lra_analysis_spec.specs.Crates.lra_domain
pub use Rattle.lra_analysis_spec.specs.Crates.lra_linear_forms
pub use Rattle.lra_analysis_spec.specs.Crates.lra_linear_spec
pub use Rattle.lra_analysis_spec.specs.Crates.lra_systems
