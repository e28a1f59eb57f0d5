use Rattle.lra_bits.proofs.AllTrue.{AreTrueTo}
use Rattle.lra_bits.proofs.bit_row.BitRow.all_true.Given as goal

abbrev pub invariant-loop-k : goal.invariant-loop-k
invariant-loop-k l = AreTrueTo l.fn.width l.k l.row
