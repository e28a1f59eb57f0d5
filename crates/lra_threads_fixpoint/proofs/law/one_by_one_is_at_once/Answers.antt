-- Goals of `one_by_one_is_at_once`.
use Rattle.lra_threads_fixpoint.proofs.InterferenceLemmas.{one_by_one}
use Rattle.lra_threads_fixpoint.proofs.law.one_by_one_is_at_once.Goals as goal

pub returns : goal.returns
returns c = one_by_one
