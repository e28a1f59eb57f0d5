-- The crates below, by name: for the files here, and for the crates above.
pub use Rattle.lra_row.proofs as lra_row
pub use Rattle.lra_linear_spec.proofs as lra_linear_spec
