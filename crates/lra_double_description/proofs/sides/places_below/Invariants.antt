use Rattle.lra_double_description.specs.Below.{AreBelow}
use Rattle.lra_double_description.proofs.sides.places_below.Given as goal

abbrev pub invariant-loop-k : goal.invariant-loop-k
invariant-loop-k l = AreBelow l.products 0 l.k l.places.items
