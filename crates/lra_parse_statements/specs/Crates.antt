-- The crates below, by name: for the files here, and for the crates above.
pub use Rattle.lra_syntax.specs.Crates.lra_base
