-- The crates below, by name: for the files here, and for the crates above.
pub use Rattle.lra_program.proofs as lra_program
pub use Rattle.lra_program.proofs.Crates.lra_base
