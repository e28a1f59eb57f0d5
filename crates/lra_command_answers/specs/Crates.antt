-- The crates below, by name: for the files here, and for the crates above.
pub use Rattle.lra_front_end.specs as lra_front_end
pub use Rattle.lra_front_end.specs.Crates.lra_base
pub use Rattle.lra_report.specs.Crates.lra_resolution_spec
pub use Rattle.lra_front_end.specs.Crates.lra_syntax
