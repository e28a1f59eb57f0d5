-- The crates below, by name: for the files here, and for the crates above.
pub use Rattle.lra_front_end.proofs as lra_front_end
pub use Rattle.lra_report_build.proofs as lra_report_build
pub use Rattle.lra_fixpoint.proofs as lra_fixpoint
pub use Rattle.lra_fixpoint.proofs.Crates.lra_analysis_spec
pub use Rattle.lra_front_end.proofs.Crates.lra_inline_sound
pub use Rattle.lra_poly_domain.proofs.Crates.lra_linear_spec
pub use Rattle.lra_fixpoint.proofs.Crates.lra_pass_results
pub use Rattle.lra_report_build.proofs.Crates.lra_program
pub use Rattle.lra_report_build.proofs.Crates.lra_report
