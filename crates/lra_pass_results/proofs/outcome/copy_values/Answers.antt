-- Goals of `copy_values`: copies of values.
use Rattle.std.proofs.Common.{◌∙◌}
use Rattle.lra_pass_results.proofs.Copying.{copied_more}
use Rattle.lra_pass_results.proofs.outcome.copy_values.Goals as goal

pub values-preserved : goal.values-preserved
values-preserved g c = c.in_ok-push.ensures.items ∙ copied_more c.args.values.now c.values.copies.items c.values.value-index
    c.value-item.result c.in_ok-copy.field-0 c.values.invariant c.values-test.true c.value-item.is c.in_ok-copy.ensures
