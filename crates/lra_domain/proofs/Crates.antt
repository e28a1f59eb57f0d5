-- The crates below, by name: for the files here, and for the crates above.
pub use Rattle.lra_linear_forms.proofs as lra_linear_forms
pub use Rattle.lra_systems.proofs.Crates.lra_linear_spec
