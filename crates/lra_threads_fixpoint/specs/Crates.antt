-- The crates below, by name: for the files here, and for the crates above.
pub use Rattle.lra_box.specs as lra_box
pub use Rattle.lra_domain.specs as lra_domain
