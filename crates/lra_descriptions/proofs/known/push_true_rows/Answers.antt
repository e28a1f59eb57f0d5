-- Goals of `push_true_rows`: so many rows that are all true, after what is there.
use Rattle.std.proofs.Common.{◌∙◌, ap, replicate, true, ℕ}
use Rattle.lra_descriptions.proofs.KnownLists.{true_more}
use Rattle.lra_descriptions.proofs.known.push_true_rows.Goals as goal

pub loop-preserved : goal.loop-preserved
loop-preserved c = true_more c.args.matrix.now c.loop.matrix c.add_row.new.self c.loop.counter c.in_ok-all_true.field-0
    (c.in_ok-all_true.ensures ∙ ap (λ (n : ℕ). replicate n true) c.width-width.ensures.width) c.loop.invariant c.in_ok-add_row.ensures.added
