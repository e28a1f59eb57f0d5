-- The crates below, by name: for the files here, and for the crates above.
pub use Rattle.lra_paths.specs as lra_paths
pub use Rattle.lra_row_text.specs as lra_row_text
pub use Rattle.lra_front_end.specs as lra_front_end
pub use Rattle.lra_script.specs as lra_script
pub use Rattle.lra_script.specs.Crates.lra_base
pub use Rattle.lra_multipliers.specs.Crates.lra_domain
pub use Rattle.lra_multipliers.specs.Crates.lra_linear_forms
pub use Rattle.lra_row_text.specs.Crates.lra_linear_spec
pub use Rattle.lra_paths.specs.Crates.lra_operations
pub use Rattle.lra_paths.specs.Crates.lra_path_disjuncts
pub use Rattle.lra_paths.specs.Crates.lra_path_segments
pub use Rattle.lra_paths.specs.Crates.lra_program
pub use Rattle.lra_paths.specs.Crates.lra_resolution_spec
pub use Rattle.lra_front_end.specs.Crates.lra_syntax
