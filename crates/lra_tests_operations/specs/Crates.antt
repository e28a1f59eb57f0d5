-- The crates below, by name: for the files here, and for the crates above.
pub use Rattle.lra_bounds_checks.specs.Crates.lra_operations_list
pub use Rattle.lra_front_end.specs.Crates.lra_parser_spec
pub use Rattle.lra_paths.specs.Crates.lra_path_disjuncts
pub use Rattle.lra_operations.specs.Crates.lra_program
pub use Rattle.lra_report.specs.Crates.lra_resolution_spec
pub use Rattle.lra_report.specs.Crates.lra_row_text
pub use Rattle.lra_front_end.specs.Crates.lra_syntax
