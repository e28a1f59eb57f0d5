-- The crates below, by name: for the files here, and for the crates above.
pub use Rattle.lra_box.proofs as lra_box
