-- The crates below, by name: for the files here, and for the crates above.
pub use Rattle.lra_poly_widening.proofs.Crates.lra_duality
pub use Rattle.lra_script.proofs.Crates.lra_linear_spec
pub use Rattle.lra_script.proofs.Crates.lra_systems
