-- The crates below, by name: for the files here, and for the crates above.
pub use Rattle.lra_front_end.specs as lra_front_end
pub use Rattle.lra_report_build.specs as lra_report_build
pub use Rattle.lra_fixpoint.specs as lra_fixpoint
pub use Rattle.lra_poly_domain.specs as lra_poly_domain
pub use Rattle.lra_operations.specs as lra_operations
pub use Rattle.lra_fixpoint.specs.Crates.lra_analysis_spec
pub use Rattle.lra_front_end.specs.Crates.lra_base
pub use Rattle.lra_report_build.specs.Crates.lra_box
pub use Rattle.lra_poly_domain.specs.Crates.lra_domain
pub use Rattle.lra_report_build.specs.Crates.lra_octagon
pub use Rattle.lra_bounds_checks.specs.Crates.lra_overflow_checks
pub use Rattle.lra_fixpoint.specs.Crates.lra_pass_results
pub use Rattle.lra_report_build.specs.Crates.lra_powerset
pub use Rattle.lra_report_build.specs.Crates.lra_program
pub use Rattle.lra_report_build.specs.Crates.lra_report
pub use Rattle.lra_report_build.specs.Crates.lra_resolution_spec
pub use Rattle.lra_front_end.specs.Crates.lra_syntax
pub use Rattle.lra_fixpoint.specs.Crates.lra_transfer
