use Rattle.std.proofs.Common.{take}
use Rattle.lra_poly_queries.specs.Parted.{AreMadeOf}
use Rattle.lra_poly_queries.proofs.parts.polyhedra.Given as goal

abbrev pub invariant-loop-part : goal.invariant-loop-part
invariant-loop-part l = AreMadeOf (take l.part-index l.parts) l.made.items l.outcome
