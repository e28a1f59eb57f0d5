use Rattle.std.proofs.Common.{◌≡◌, drop, map}
use Rattle.lra_calc.specs.Script as script
use Rattle.lra_script.specs.Views.{generator_view}
use Rattle.lra_calc.proofs.making.wrong_generator.Given as goal

abbrev pub invariant-loop-generator : goal.invariant-loop-generator
invariant-loop-generator l =
    script.wrong_generator l.n (map generator_view (drop l.generator-index l.generators)) ≡ script.wrong_generator l.n (map generator_view l.generators)
