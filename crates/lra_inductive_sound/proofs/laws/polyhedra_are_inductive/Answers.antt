-- The goal of `polyhedra_are_inductive`.
use Rattle.lra_inductive_sound.proofs.RationalPoints.{polyhedra_closed}
use Rattle.lra_inductive_sound.proofs.laws.polyhedra_are_inductive.Goals as goal

pub returns : goal.returns
returns c = polyhedra_closed
