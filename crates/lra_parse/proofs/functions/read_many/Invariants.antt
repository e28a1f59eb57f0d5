use Rattle.std.proofs.Common.{length, ◌≤◌}
use Rattle.lra_parser_spec.specs.Files.{parameter_at}
use Rattle.lra_parse.proofs.Crates.lra_parse_expressions.Called.{ManyLeft}
use Rattle.lra_parse.proofs.functions.read_many.Given as goal

abbrev pub invariant-many : goal.invariant-many
invariant-many l = record {
  room : length l.left ≤ length l.fn.rest;
  read : ManyLeft parameter_at l.items.items l.left l.fn.rest;
}

abbrev pub decreases-many : goal.decreases-many
decreases-many l = length l.left
