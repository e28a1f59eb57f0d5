-- The crates below, by name: for the files here, and for the crates above.
pub use Rattle.lra_double_description.proofs as lra_double_description
pub use Rattle.lra_systems.proofs.Crates.lra_linear_spec
