use Rattle.lra_certificate_spec.proofs.JudgedBothWays.{judged_exactly}
use Rattle.lra_certificate_spec.proofs.laws.judged_exactly.Goals as goal

pub returns : goal.returns
returns c = λ bytes points proved. judged_exactly bytes points proved
