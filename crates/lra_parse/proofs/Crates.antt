-- The crates below, by name: for the files here, and for the crates above.
pub use Rattle.lra_parser_spec.proofs as lra_parser_spec
pub use Rattle.lra_parse_statements.proofs.Crates.lra_parse_expressions
