use Rattle.std.proofs.Common.{◌≡◌, take}
use Rattle.lra_descriptions.specs.ShownLists.{directions_of}
use Rattle.lra_descriptions.proofs.shown.directions_among.Given as goal

abbrev pub invariant-loop-ray : goal.invariant-loop-ray
invariant-loop-ray l = l.directions.items ≡ directions_of (take l.ray-index l.rays)
