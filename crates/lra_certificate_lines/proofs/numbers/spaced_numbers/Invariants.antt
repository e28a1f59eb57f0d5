use Rattle.std.proofs.Common.{◌≡◌, ◌≤◌, ◌-◌, length}
use Rattle.std.specs.List.{All}
use Rattle.lra_certificate_lines.specs.Crates.lra_linear_spec.Range.{InRange}
use Rattle.lra_certificate_spec.specs.Judged.{spaced_numbers, words_of}
use Rattle.lra_certificate_spec.proofs.NumberSteps.{onto}
use Rattle.lra_certificate_lines.proofs.numbers.spaced_numbers.Given as goal

abbrev pub invariant-words : goal.invariant-words
invariant-words l = record {
  so_far : onto l.numbers.items (spaced_numbers (words_of l.rest)) ≡ spaced_numbers (words_of l.fn.text);
  few : length l.numbers.items ≤ l.count;
  in_range : All InRange l.numbers.items;
}

abbrev pub decreases-words : goal.decreases-words
decreases-words l = l.count - length l.numbers.items
