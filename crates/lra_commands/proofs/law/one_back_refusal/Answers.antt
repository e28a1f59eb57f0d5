-- Goals of `one_back_refusal`: the law.
use Rattle.lra_commands.proofs.OneBack.{one_refusal}
use Rattle.lra_commands.proofs.law.one_back_refusal.Goals as goal

pub returns : goal.returns
returns c = one_refusal
