use Rattle.std.proofs.Common.{length, ◌≤◌, map}
use Rattle.lra_syntax.specs.declared.tokens.Mark.TheVariants as mark
use Rattle.lra_syntax.specs.Views.{global_view}
use Rattle.lra_parser_spec.specs.{Expressions.after_mark, Files.global_at, Reading.list_step, Reading.list_of, Tests.is_mark}
use Rattle.lra_parse.proofs.Crates.lra_parse_expressions.Turning.{Left}
use Rattle.lra_parse.proofs.globals.read_many.Given as goal

abbrev pub invariant-globals : goal.invariant-globals
invariant-globals l = record {
  room : length l.left ≤ length l.fn.rest;
  same : Left (is_mark mark.Comma) (list_step (after_mark mark.Comma global_at)) (map global_view l.globals.items) l.left
      (list_of (is_mark mark.Comma) (after_mark mark.Comma global_at) l.initial.left);
}

abbrev pub decreases-globals : goal.decreases-globals
decreases-globals l = length l.left
