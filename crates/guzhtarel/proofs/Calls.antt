-- What calls of domains that never exceed a limit must guarantee; lists of changes.
pub use Rattle.lra_domain.proofs.ExactCalls
pub use Rattle.lra_domain.proofs.ChangeLists
