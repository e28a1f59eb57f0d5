-- Goals of `variables`: the names `x1`, `x2` and on, n of them.
use Rattle.std.proofs.Common.{arith, ◌∙◌}
use Rattle.lra_calc.proofs.ShownLemmas.{one_more}
use Rattle.lra_calc.proofs.showing.variables.Goals as goal

pub loop-index-preserved : goal.loop-index-preserved
loop-index-preserved c =
    one_more c.args.n c.loop-index.index c.loop-index.names c.push.new.self c.as_str.result.now _ (omega (arith, c.loop-index-test.true))
    (c.as_str.ensures.value ∙ c.in_ok-name.ensures.ok) c.in_ok-push.ensures.ok c.loop-index.invariant
