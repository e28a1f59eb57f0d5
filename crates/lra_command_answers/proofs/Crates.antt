-- The crates below, by name: for the files here, and for the crates above.
pub use Rattle.lra_front_end.proofs as lra_front_end
