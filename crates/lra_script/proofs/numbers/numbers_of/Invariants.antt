use Rattle.std.proofs.Common.{◌≡◌, drop}
use Rattle.std.specs.List.{All}
use Rattle.lra_script.specs.Crates.lra_linear_spec.Range.{InRange}
use Rattle.lra_script.specs.{LineForms.all_of, ScriptText.number_of, Views.texts}
use Rattle.lra_script.proofs.AllOf.{onto}
use Rattle.lra_script.proofs.numbers.numbers_of.Given as goal

abbrev pub invariant-loop-word : goal.invariant-loop-word
invariant-loop-word l = record {
  so_far : onto l.numbers.items (all_of number_of (texts (drop l.word-index l.words))) ≡ all_of number_of (texts l.words);
  in_range : All InRange l.numbers.items;
}
