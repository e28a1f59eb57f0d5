-- The crates below, by name: for the files here, and for the crates above.
pub use Rattle.lra_analyse_source.proofs as lra_analyse_source
pub use Rattle.lra_analyse_source.proofs.Crates.lra_fixpoint
pub use Rattle.lra_analyse_source.proofs.Crates.lra_front_end
pub use Rattle.lra_analyse_source.proofs.Crates.lra_linear_spec
pub use Rattle.lra_analyse_source.proofs.Crates.lra_program
pub use Rattle.lra_analyse_source.proofs.Crates.lra_report_build
pub use Rattle.lra_threads_analysis.proofs.Crates.lra_threads_fixpoint
pub use Rattle.lra_threads_analysis.proofs.Crates.lra_threads_instrument
