-- The crates below, by name: for the files here, and for the crates above.
pub use Rattle.lra_domain.proofs.Crates.lra_linear_spec
