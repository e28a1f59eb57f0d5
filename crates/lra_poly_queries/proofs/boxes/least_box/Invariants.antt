use Rattle.lra_poly_queries.proofs.BoxLemmas.{IsBoxSoFar}
use Rattle.lra_poly_queries.proofs.boxes.least_box.Given as goal

abbrev pub invariant-loop-dim : goal.invariant-loop-dim
invariant-loop-dim l = IsBoxSoFar l.p l.dim l.extents.items
