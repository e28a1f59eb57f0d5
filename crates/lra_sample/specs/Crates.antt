-- The crates below, by name: for the files here, and for the crates above.
pub use Rattle.lra_options.specs as lra_options
pub use Rattle.lra_report.specs.Crates.lra_base
pub use Rattle.lra_report.specs.Crates.lra_program
pub use Rattle.lra_report.specs.Crates.lra_resolution_spec
pub use Rattle.lra_report.specs.Crates.lra_row_text
pub use Rattle.lra_report.specs.Crates.lra_syntax
