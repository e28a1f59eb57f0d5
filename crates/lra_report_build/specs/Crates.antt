-- The crates below, by name: for the files here, and for the crates above.
pub use Rattle.lra_report.specs as lra_report
pub use Rattle.lra_octagon.specs as lra_octagon
pub use Rattle.lra_powerset.specs as lra_powerset
pub use Rattle.lra_options.specs as lra_options
pub use Rattle.lra_syntax.specs.Crates.lra_base
pub use Rattle.lra_octagon.specs.Crates.lra_box
pub use Rattle.lra_octagon.specs.Crates.lra_dbm
pub use Rattle.lra_poly_domain.specs.Crates.lra_domain
pub use Rattle.lra_octagon.specs.Crates.lra_linear_spec
pub use Rattle.lra_report.specs.Crates.lra_operations
pub use Rattle.lra_report.specs.Crates.lra_program
pub use Rattle.lra_report.specs.Crates.lra_resolution_spec
pub use Rattle.lra_row_text.specs.Crates.lra_systems
