-- The crates below, by name: for the files here, and for the crates above.
pub use Rattle.lra_threads_instrument.proofs.Crates.lra_fixpoint
pub use Rattle.lra_octagon.proofs.Crates.lra_linear_spec
