use Rattle.lra_duality.specs.Maxima.{directed}
use Rattle.lra_duality.proofs.MaximumLemmas.{BestOfFront}
use Rattle.lra_duality.proofs.maximum.place_of_greatest.Given as goal

abbrev pub invariant-loop-place : goal.invariant-loop-place
invariant-loop-place l = BestOfFront (directed l.form l.is_opposite) l.rows l.list.kinds l.place l.best
