-- The crates below, by name: for the files here, and for the crates above.
pub use Rattle.lra_linear_spec.proofs as lra_linear_spec
pub use Rattle.lra_poly_images.proofs.Crates.lra_description_pair
pub use Rattle.lra_poly_images.proofs.Crates.lra_poly
