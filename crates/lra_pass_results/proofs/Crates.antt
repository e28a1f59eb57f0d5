-- The crates below, by name: for the files here, and for the crates above.
pub use Rattle.lra_transfer.proofs as lra_transfer
pub use Rattle.lra_transfer.proofs.Crates.lra_analysis_spec
pub use Rattle.lra_transfer.proofs.Crates.lra_domain
pub use Rattle.lra_transfer.proofs.Crates.lra_linearize
