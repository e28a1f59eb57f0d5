use Rattle.std.proofs.Common.{◌≡◌, take}
use Rattle.lra_descriptions.specs.ShownLists.{points_of}
use Rattle.lra_descriptions.proofs.shown.points_among.Given as goal

abbrev pub invariant-loop-ray : goal.invariant-loop-ray
invariant-loop-ray l = l.points.items ≡ points_of (take l.ray-index l.rays)
