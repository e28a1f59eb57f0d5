-- The crates below, by name: for the files here, and for the crates above.
pub use Rattle.lra_verify.specs as lra_verify
pub use Rattle.lra_verify.specs.Crates.lra_certificate_lines
pub use Rattle.lra_verify.specs.Crates.lra_certificate_spec
pub use Rattle.lra_verify.specs.Crates.lra_domain
pub use Rattle.lra_farkas.specs.Crates.lra_linear_forms
pub use Rattle.lra_farkas.specs.Crates.lra_linear_spec
pub use Rattle.lra_farkas.specs.Crates.lra_multipliers
pub use Rattle.lra_verify.specs.Crates.lra_operations
pub use Rattle.lra_verify.specs.Crates.lra_path_disjuncts
pub use Rattle.lra_verify.specs.Crates.lra_path_segments
pub use Rattle.lra_verify.specs.Crates.lra_paths
pub use Rattle.lra_verify.specs.Crates.lra_program
pub use Rattle.lra_verify.specs.Crates.lra_row_text
pub use Rattle.lra_farkas.specs.Crates.lra_systems
