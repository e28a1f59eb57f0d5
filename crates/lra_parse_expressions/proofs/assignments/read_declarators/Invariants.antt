use Rattle.std.proofs.Common.{◌≡◌, length, ℕ, ◌≤◌, map}
use Rattle.lra_syntax.specs.declared.tokens.Mark.TheVariants as mark
use Rattle.lra_syntax.specs.Views.{declarator_view}
use Rattle.lra_parser_spec.specs.{Expressions.after_mark, Reading.loop, Reading.list_step, Reading.list_of, Statements.declarator_at, Tests.is_mark}
use Rattle.lra_parse_expressions.proofs.assignments.read_declarators.Given as goal

abbrev pub invariant-declarators : goal.invariant-declarators
invariant-declarators l = record {
  room : length l.left ≤ length l.fn.rest;
  same : (n : ℕ) × (length l.left ≤ n)
      × (loop (is_mark mark.Comma) (list_step (after_mark mark.Comma (declarator_at l.fn.depth))) n (map declarator_view l.declarators.items) l.left
      ≡ list_of (is_mark mark.Comma) (after_mark mark.Comma (declarator_at l.fn.depth)) l.initial.left);
}

abbrev pub decreases-declarators : goal.decreases-declarators
decreases-declarators l = length l.left
