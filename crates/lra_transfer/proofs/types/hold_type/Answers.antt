-- Goals of `hold_type`: nothing is tested of a `long`.
use Rattle.lra_transfer.proofs.types.hold_type.Goals as goal

pub returns-in-Long-clause-holds : goal.returns-in-Long-clause-holds
returns-in-Long-clause-holds g c = rw c.in-Long.is (λ p v made. made)
