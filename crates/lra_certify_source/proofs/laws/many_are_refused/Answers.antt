-- Goals of `many_are_refused`.
use Rattle.lra_certify_source.proofs.OneRefusal.{many_refused}
use Rattle.lra_certify_source.proofs.laws.many_are_refused.Goals as goal

pub returns : goal.returns
returns c = many_refused
