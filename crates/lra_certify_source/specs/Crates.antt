-- The crates below, by name: for the files here, and for the crates above.
pub use Rattle.lra_certify.specs as lra_certify
pub use Rattle.lra_analyse_source.specs as lra_analyse_source
pub use Rattle.lra_analyse_source.specs.Crates.lra_analysis_spec
pub use Rattle.lra_report.specs.Crates.lra_base
pub use Rattle.lra_certify.specs.Crates.lra_certificate_lines
pub use Rattle.lra_certify.specs.Crates.lra_certificate_spec
pub use Rattle.lra_inductive_sound.specs.Crates.lra_domain
pub use Rattle.lra_analyse_source.specs.Crates.lra_fixpoint
pub use Rattle.lra_analyse_source.specs.Crates.lra_front_end
pub use Rattle.lra_inductive_sound.specs.Crates.lra_linear_forms
pub use Rattle.lra_inductive_sound.specs.Crates.lra_linear_spec
pub use Rattle.lra_report.specs.Crates.lra_operations
pub use Rattle.lra_report.specs.Crates.lra_options
pub use Rattle.lra_inductive_sound.specs.Crates.lra_path_segments
pub use Rattle.lra_inductive_sound.specs.Crates.lra_paths
pub use Rattle.lra_inductive_sound.specs.Crates.lra_poly_domain
pub use Rattle.lra_report.specs.Crates.lra_program
pub use Rattle.lra_analyse_source.specs.Crates.lra_report_build
pub use Rattle.lra_report.specs.Crates.lra_resolution_spec
pub use Rattle.lra_report.specs.Crates.lra_row_text
pub use Rattle.lra_report.specs.Crates.lra_syntax
pub use Rattle.lra_report.specs.Crates.lra_systems
pub use Rattle.lra_certify.specs.Crates.lra_verify
