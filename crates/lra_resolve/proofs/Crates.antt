-- The crates below, by name: for the files here, and for the crates above.
pub use Rattle.lra_syntax.proofs as lra_syntax
