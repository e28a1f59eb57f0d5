use Rattle.lra_dbm.specs.Cells.{entries}
use Rattle.lra_octagon.proofs.UnaryLemmas.{IntervalsRead}
use Rattle.lra_octagon.proofs.unary.intervals_of.Given as goal

abbrev pub invariant-loop-k : goal.invariant-loop-k
invariant-loop-k l = IntervalsRead l.n (entries l.n l.matrix.cells) l.k l.intervals.items
