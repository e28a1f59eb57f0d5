use Rattle.std.specs.List.{All}
use Rattle.lra_poly_queries.specs.Crates.{lra_duality.Maxima.StaysInRange, lra_linear_spec.Kinds.is_line}
use Rattle.lra_systems.proofs.FirstMembers.{front}
use Rattle.lra_poly_queries.specs.Relations.{AreMissed}
use Rattle.lra_poly_queries.proofs.relation.missed_by.Given as goal

abbrev pub invariant-loop-place : goal.invariant-loop-place
invariant-loop-place l = All (StaysInRange l.form) (front is_line l.rows l.kinds l.place)
    × AreMissed l.form (front is_line l.rows l.kinds l.place) l.missed
