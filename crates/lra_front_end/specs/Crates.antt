-- The crates below, by name: for the files here, and for the crates above.
pub use Rattle.lra_base.specs as lra_base
pub use Rattle.lra_inline.specs.Crates.lra_inline_steps
pub use Rattle.lra_inline.specs.Crates.lra_operations
pub use Rattle.lra_parse.specs.Crates.lra_parser_spec
pub use Rattle.lra_recursion.specs.Crates.lra_program
pub use Rattle.lra_recursion.specs.Crates.lra_resolution_spec
pub use Rattle.lra_recursion.specs.Crates.lra_scopes
pub use Rattle.lra_lex.specs.Crates.lra_syntax
