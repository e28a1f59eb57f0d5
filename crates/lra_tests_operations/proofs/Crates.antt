-- The crates below, by name: for the files here, and for the crates above.
pub use Rattle.lra_paths.proofs.Crates.lra_analysis_spec
pub use Rattle.lra_report_build.proofs.Crates.lra_linear_spec
pub use Rattle.lra_bounds_checks.proofs.Crates.lra_operations_list
pub use Rattle.lra_front_end.proofs.Crates.lra_parser_spec
