-- The crates below, by name: for the files here, and for the crates above.
pub use Rattle.lra_certificate_spec.specs as lra_certificate_spec
pub use Rattle.lra_back_sound.specs.Crates.lra_analysis_spec
pub use Rattle.lra_back_sound.specs.Crates.lra_back
pub use Rattle.lra_certificate_spec.specs.Crates.lra_base
pub use Rattle.lra_back_sound.specs.Crates.lra_domain
pub use Rattle.lra_back_sound.specs.Crates.lra_fixpoint
pub use Rattle.lra_analyse_source.specs.Crates.lra_front_end
pub use Rattle.lra_certificate_spec.specs.Crates.lra_linear_spec
pub use Rattle.lra_report.specs.Crates.lra_operations
pub use Rattle.lra_report.specs.Crates.lra_options
pub use Rattle.lra_back_sound.specs.Crates.lra_path_disjuncts
pub use Rattle.lra_certificate_spec.specs.Crates.lra_paths
pub use Rattle.lra_analyse_source.specs.Crates.lra_poly_domain
pub use Rattle.lra_back_sound.specs.Crates.lra_program
pub use Rattle.lra_analyse_source.specs.Crates.lra_report_build
pub use Rattle.lra_report.specs.Crates.lra_resolution_spec
pub use Rattle.lra_report.specs.Crates.lra_syntax
