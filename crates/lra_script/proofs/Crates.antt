-- The crates below, by name: for the files here, and for the crates above.
pub use Rattle.lra_systems.proofs as lra_systems
pub use Rattle.lra_systems.proofs.Crates.lra_linear_spec
