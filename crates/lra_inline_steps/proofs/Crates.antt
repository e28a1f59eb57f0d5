-- The crates below, by name: for the files here, and for the crates above.
pub use Rattle.lra_inline_sound.proofs as lra_inline_sound
