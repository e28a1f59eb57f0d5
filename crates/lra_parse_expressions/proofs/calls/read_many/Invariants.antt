use Rattle.std.proofs.Common.{length, ◌≤◌, map}
use Rattle.lra_syntax.specs.Views.{expr_view}
use Rattle.lra_parser_spec.specs.Expressions.{expr_at}
use Rattle.lra_parse_expressions.proofs.Called.{ManyLeft}
use Rattle.lra_parse_expressions.proofs.calls.read_many.Given as goal

abbrev pub invariant-many : goal.invariant-many
invariant-many l = record {
  room : length l.left ≤ length l.fn.rest;
  read : ManyLeft (expr_at l.fn.depth) (map expr_view l.items.items) l.left l.fn.rest;
}

abbrev pub decreases-many : goal.decreases-many
decreases-many l = length l.left
