-- Goals of `Test::opposite`: the test that passes exactly if this one fails.
use Rattle.std.proofs.Common.{rules}
use Rattle.lra_linear_forms.proofs.FormLemmas.{opposite_holds}
use Rattle.lra_linear_forms.proofs.test.Test.opposite.Goals as goal

pub returns-clause-opposes : goal.returns-clause-opposes
returns-clause-opposes c = λ s. search (rules, opposite_holds c.args.self.now.expr s)
