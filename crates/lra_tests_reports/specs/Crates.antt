-- The crates below, by name: for the files here, and for the crates above.
pub use Rattle.lra_row_text.specs.Crates.lra_linear_spec
pub use Rattle.lra_row_text.specs.Crates.lra_systems
