-- Goals of `multipliers_are_points`: the points of the polyhedron are the multipliers that show the claim.
use Rattle.lra_farkas.proofs.ShownPoints.{points_show}
use Rattle.lra_farkas.proofs.laws.multipliers_are_points.Goals as goal

pub returns : goal.returns
returns c = points_show
