use Rattle.std.proofs.Common.{◌≡◌, map, take}
use Rattle.lra_systems.specs.LinearSystems.{generators}
use Rattle.lra_poly_widening.specs.Crates.lra_duality.Saturations.{saturated}
use Rattle.lra_poly_widening.proofs.saturation.all_saturated.Given as goal

abbrev pub invariant-loop-place : goal.invariant-loop-place
invariant-loop-place l = l.classes.items ≡ map (saturated (generators l.list)) (take l.place l.rows)
