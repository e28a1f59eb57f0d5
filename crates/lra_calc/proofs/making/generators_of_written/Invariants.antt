use Rattle.std.proofs.Common.{◌≡◌, ◌++◌, drop, length, map}
use Rattle.lra_calc.specs.Crates.lra_systems.LinearSystems.{generators, FitKinds}
use Rattle.lra_script.specs.{LineForms.row_of_generator, Views.generator_view}
use Rattle.lra_calc.proofs.making.generators_of_written.Given as goal

abbrev pub invariant-loop-generator : goal.invariant-loop-generator
invariant-loop-generator l = record {
  dims : l.system.dims ≡ l.n;
  kinds : length l.system.rows ≡ length l.system.kinds;
  made : generators l.system ++ map (λ g. row_of_generator (generator_view g)) (drop l.generator-index l.generators) ≡ map (λ g. row_of_generator (generator_view g)) l.generators;
  fit : FitKinds l.system.rows l.system.kinds;
}
