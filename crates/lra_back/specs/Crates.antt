-- The crates below, by name: for the files here, and for the crates above.
pub use Rattle.lra_paths.specs as lra_paths
pub use Rattle.lra_operations.specs as lra_operations
pub use Rattle.lra_program.specs as lra_program
pub use Rattle.lra_domain.specs as lra_domain
pub use Rattle.lra_paths.specs.Crates.lra_analysis_spec
pub use Rattle.lra_domain.specs.Crates.lra_linear_forms
pub use Rattle.lra_domain.specs.Crates.lra_linear_spec
pub use Rattle.lra_paths.specs.Crates.lra_path_disjuncts
pub use Rattle.lra_paths.specs.Crates.lra_path_segments
pub use Rattle.lra_domain.specs.Crates.lra_systems
