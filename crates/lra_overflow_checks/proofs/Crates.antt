-- The crates below, by name: for the files here, and for the crates above.
pub use Rattle.lra_operations_list.proofs as lra_operations_list
pub use Rattle.lra_transfer.proofs.Crates.lra_analysis_spec
pub use Rattle.lra_operations_list.proofs.Crates.lra_linear_spec
pub use Rattle.lra_operations_list.proofs.Crates.lra_linearize
