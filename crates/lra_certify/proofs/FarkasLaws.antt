-- The laws of the polyhedron of all multipliers, together.
use Rattle.lra_farkas.proofs.{ShownClaims.holds_at_points_shown, ShownClaims.no_point_shown, ShownPoints.points_show}
use Rattle.lra_certify.proofs.NeverUnshown.{AreLaws}

pub laws : AreLaws
laws = record { points = points_show; at_points = holds_at_points_shown; nowhere = no_point_shown }
