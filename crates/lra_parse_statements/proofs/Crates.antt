-- The crates below, by name: for the files here, and for the crates above.
pub use Rattle.lra_parse_expressions.proofs as lra_parse_expressions
