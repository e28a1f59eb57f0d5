-- Goals of `back_or_refused`: the law.
use Rattle.lra_back_source.proofs.OneAnswer.{back_or_refused}
use Rattle.lra_back_source.proofs.laws.back_or_refused.Goals as goal

pub returns : goal.returns
returns c = back_or_refused
