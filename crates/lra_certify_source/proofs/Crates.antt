-- The crates below, by name: for the files here, and for the crates above.
pub use Rattle.lra_certify.proofs.Crates.lra_certificate_spec
pub use Rattle.lra_analyse_source.proofs.Crates.lra_fixpoint
pub use Rattle.lra_analyse_source.proofs.Crates.lra_front_end
pub use Rattle.lra_analyse_source.proofs.Crates.lra_linear_spec
pub use Rattle.lra_inductive_sound.proofs.Crates.lra_paths
pub use Rattle.lra_certify.proofs.Crates.lra_verify
