-- The crates below, by name: for the files here, and for the crates above.
pub use Rattle.lra_path_segments.specs as lra_path_segments
pub use Rattle.lra_operations.specs as lra_operations
pub use Rattle.lra_linearize.specs.Crates.lra_analysis_spec
pub use Rattle.lra_linearize.specs.Crates.lra_base
pub use Rattle.lra_linearize.specs.Crates.lra_domain
pub use Rattle.lra_linearize.specs.Crates.lra_linear_spec
pub use Rattle.lra_inline_sound.specs.Crates.lra_resolution_spec
