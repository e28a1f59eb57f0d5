use Rattle.lra_bits.proofs.Removal.{IsPartlyKept}
use Rattle.lra_canonical.proofs.redundancy.remove_marked.Given as goal

abbrev pub invariant-loop-k : goal.invariant-loop-k
invariant-loop-k l = IsPartlyKept l.gone l.fn.rows.items l.rows.items l.kept l.k
