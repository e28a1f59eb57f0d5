-- The crates below, by name: for the files here, and for the crates above.
pub use Rattle.lra_report.proofs as lra_report
pub use Rattle.lra_octagon.proofs.Crates.lra_box
pub use Rattle.lra_octagon.proofs.Crates.lra_linear_spec
pub use Rattle.lra_report.proofs.Crates.lra_program
