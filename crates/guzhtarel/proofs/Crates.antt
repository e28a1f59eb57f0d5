-- The crates below, by name: for the files here, and for the crates above.
pub use Rattle.lra_poly_domain.proofs.Crates.lra_linear_spec
pub use Rattle.lra_poly_queries.proofs.Crates.lra_mapped_systems
