-- The crates below, by name: for the files here, and for the crates above.
pub use Rattle.lra_threads_source.proofs.Crates.lra_analyse_source
pub use Rattle.lra_back_source.proofs.Crates.lra_certificate_spec
pub use Rattle.lra_command_answers.proofs.Crates.lra_front_end
pub use Rattle.lra_back_source.proofs.Crates.lra_paths
pub use Rattle.lra_report.proofs.Crates.lra_syntax
pub use Rattle.lra_threads_source.proofs.Crates.lra_threads_fixpoint
