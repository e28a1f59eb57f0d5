-- The crates below, by name: for the files here, and for the crates above.
pub use Rattle.lra_program.specs.Crates.lra_base
pub use Rattle.lra_inline_sound.specs.Crates.lra_resolution_spec
pub use Rattle.lra_inline_sound.specs.Crates.lra_syntax
