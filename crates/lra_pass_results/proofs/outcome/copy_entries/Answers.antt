-- Goals of `copy_entries`: copies of entries.
use Rattle.std.proofs.Common.{◌∙◌}
use Rattle.lra_pass_results.proofs.Copying.{copied_more}
use Rattle.lra_pass_results.proofs.outcome.copy_entries.Goals as goal

pub entries-preserved : goal.entries-preserved
entries-preserved g c = c.in_ok-push.ensures.items ∙ copied_more c.args.entries.now c.entries.copies.items c.entries.entry-index
    c.entry-item.result c.in_ok-copy.field-0 c.entries.invariant c.entries-test.true c.entry-item.is c.in_ok-copy.ensures
