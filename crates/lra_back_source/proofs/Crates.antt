-- The crates below, by name: for the files here, and for the crates above.
pub use Rattle.lra_certificate_spec.proofs as lra_certificate_spec
pub use Rattle.lra_back_sound.proofs.Crates.lra_analysis_spec
pub use Rattle.lra_analyse_source.proofs.Crates.lra_front_end
pub use Rattle.lra_analyse_source.proofs.Crates.lra_linear_spec
pub use Rattle.lra_certificate_spec.proofs.Crates.lra_paths
