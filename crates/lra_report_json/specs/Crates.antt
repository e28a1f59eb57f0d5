-- The crates below, by name: for the files here, and for the crates above.
pub use Rattle.lra_report.specs.Crates.lra_program
pub use Rattle.lra_report.specs.Crates.lra_resolution_spec
pub use Rattle.lra_report.specs.Crates.lra_syntax
pub use Rattle.lra_row_text.specs.Crates.lra_systems
