-- The crates below, by name: for the files here, and for the crates above.
pub use Rattle.lra_pass_results.proofs.Crates.lra_analysis_spec
