-- The crates below, by name: for the files here, and for the crates above.
pub use Rattle.lra_certificate_lines.specs as lra_certificate_lines
pub use Rattle.lra_paths.specs as lra_paths
pub use Rattle.lra_operations.specs as lra_operations
pub use Rattle.lra_operations.specs.Crates.lra_base
pub use Rattle.lra_certificate_lines.specs.Crates.lra_certificate_spec
pub use Rattle.lra_certificate_lines.specs.Crates.lra_domain
pub use Rattle.lra_certificate_lines.specs.Crates.lra_front_end
pub use Rattle.lra_certificate_lines.specs.Crates.lra_linear_spec
pub use Rattle.lra_certificate_lines.specs.Crates.lra_multipliers
pub use Rattle.lra_paths.specs.Crates.lra_path_disjuncts
pub use Rattle.lra_paths.specs.Crates.lra_path_segments
pub use Rattle.lra_operations.specs.Crates.lra_program
pub use Rattle.lra_paths.specs.Crates.lra_resolution_spec
pub use Rattle.lra_certificate_lines.specs.Crates.lra_row_text
pub use Rattle.lra_certificate_lines.specs.Crates.lra_script
pub use Rattle.lra_certificate_lines.specs.Crates.lra_syntax
pub use Rattle.lra_certificate_lines.specs.Crates.lra_systems
