-- Goals of `compare_widths`: compares two rows of any widths by columns 1, 2, 3 and on, and by column 0 last.
use Rattle.std.proofs.Common.{arith, ◌∙◌}
use Rattle.lra_row.proofs.OrderLemmas.{places_end}
use Rattle.lra_row.proofs.entries.compare_widths.Goals as goal

pub returns : goal.returns
returns c = c.cmp.ensures ∙ places_end c.loop-place.place c.args.xs.now c.args.ys.now (omega arith) ∙ c.loop-place.invariant
