-- The crates below, by name: for the files here, and for the crates above.
pub use Rattle.lra_bits.specs as lra_bits
pub use Rattle.lra_row.specs as lra_row
pub use Rattle.lra_row.specs.Crates.lra_linear_spec
