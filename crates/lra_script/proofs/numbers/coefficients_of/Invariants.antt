use Rattle.std.proofs.Common.{◌≡◌, drop}
use Rattle.lra_script.specs.{LineForms.all_of, LineForms.coefficient_of, Views.texts}
use Rattle.lra_script.proofs.AllOf.{onto}
use Rattle.lra_script.proofs.numbers.coefficients_of.Given as goal

abbrev pub invariant-loop-word : goal.invariant-loop-word
invariant-loop-word l =
    onto l.numbers.items (all_of coefficient_of (texts (drop l.word-index l.words))) ≡ all_of coefficient_of (texts l.words)
