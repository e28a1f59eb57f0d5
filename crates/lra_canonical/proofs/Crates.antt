-- The crates below, by name: for the files here, and for the crates above.
pub use Rattle.lra_bits.proofs as lra_bits
pub use Rattle.lra_row.proofs as lra_row
pub use Rattle.lra_row.proofs.Crates.lra_linear_spec
