-- The crates below, by name: for the files here, and for the crates above.
pub use Rattle.lra_threads_analysis.specs as lra_threads_analysis
pub use Rattle.lra_analyse_source.specs.Crates.lra_analysis_spec
pub use Rattle.lra_report.specs.Crates.lra_base
pub use Rattle.lra_threads_analysis.specs.Crates.lra_box
pub use Rattle.lra_threads_analysis.specs.Crates.lra_domain
pub use Rattle.lra_analyse_source.specs.Crates.lra_fixpoint
pub use Rattle.lra_analyse_source.specs.Crates.lra_front_end
pub use Rattle.lra_threads_analysis.specs.Crates.lra_interleavings
pub use Rattle.lra_report.specs.Crates.lra_operations
pub use Rattle.lra_report.specs.Crates.lra_options
pub use Rattle.lra_threads_analysis.specs.Crates.lra_overflow_checks
pub use Rattle.lra_analyse_source.specs.Crates.lra_pass_results
pub use Rattle.lra_report.specs.Crates.lra_program
pub use Rattle.lra_analyse_source.specs.Crates.lra_report_build
pub use Rattle.lra_report.specs.Crates.lra_resolution_spec
pub use Rattle.lra_report.specs.Crates.lra_row_text
pub use Rattle.lra_report.specs.Crates.lra_syntax
pub use Rattle.lra_threads_analysis.specs.Crates.lra_threads_fixpoint
