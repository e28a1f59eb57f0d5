-- The crates below, by name: for the files here, and for the crates above.
pub use Rattle.lra_box.proofs as lra_box
pub use Rattle.lra_linear_spec.proofs as lra_linear_spec
pub use Rattle.lra_domain.proofs.Crates.lra_linear_forms
