-- The crates below, by name: for the files here, and for the crates above.
pub use Rattle.lra_inline_steps.proofs.Crates.lra_inline_sound
