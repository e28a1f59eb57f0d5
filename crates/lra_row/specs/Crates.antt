-- The crates below, by name: for the files here, and for the crates above.
pub use Rattle.lra_linear_spec.specs as lra_linear_spec
