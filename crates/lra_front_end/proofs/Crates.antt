-- The crates below, by name: for the files here, and for the crates above.
pub use Rattle.lra_inline.proofs.Crates.lra_inline_sound
pub use Rattle.lra_parse.proofs.Crates.lra_parser_spec
pub use Rattle.lra_recursion.proofs.Crates.lra_resolution_spec
pub use Rattle.lra_resolve.proofs.Crates.lra_syntax
