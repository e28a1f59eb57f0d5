-- The crates below, by name: for the files here, and for the crates above.
pub use Rattle.lra_base.specs as lra_base
