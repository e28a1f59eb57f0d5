-- The crates below, by name: for the files here, and for the crates above.
pub use Rattle.lra_report.proofs.Crates.lra_syntax
