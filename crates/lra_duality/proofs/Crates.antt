-- The crates below, by name: for the files here, and for the crates above.
pub use Rattle.lra_cone.proofs as lra_cone
pub use Rattle.lra_cone.proofs.Crates.lra_double_description
pub use Rattle.lra_row.proofs.Crates.lra_linear_spec
pub use Rattle.lra_descriptions.proofs.Crates.lra_systems
