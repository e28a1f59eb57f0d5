-- The crates below, by name: for the files here, and for the crates above.
pub use Rattle.lra_scopes.proofs.Crates.lra_resolution_spec
