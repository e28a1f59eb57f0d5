-- The crates below, by name: for the files here, and for the crates above.
pub use Rattle.lra_parser_spec.specs as lra_parser_spec
