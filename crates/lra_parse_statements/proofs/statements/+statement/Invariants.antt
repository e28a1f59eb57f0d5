use Rattle.std.proofs.Common.{length, ◌+◌, ◌-◌, ◌*◌, ◌<◌, map}
use Rattle.lra_syntax.specs.Views.{case_view}
use Rattle.lra_parser_spec.specs.Statements.{items_at}
use Rattle.lra_parse_heads.specs.Begun.{branches_left}
use Rattle.lra_parse_statements.proofs.{Braces.Opened, Stated.State}
use Rattle.lra_parse_statements.proofs.statements.+statement.Given as goal

abbrev pub decreases-read_block : goal.decreases-read_block
decreases-read_block l = 8 * l.depth

abbrev pub decreases-read_braces : goal.decreases-read_braces
decreases-read_braces l = 8 * l.depth

abbrev pub decreases-read_branch : goal.decreases-read_branch
decreases-read_branch l = 8 * l.depth + 1

abbrev pub decreases-finish : goal.decreases-finish
decreases-finish l = 8 * l.depth + 2 + branches_left l.begun

abbrev pub decreases-read_stated : goal.decreases-read_stated
decreases-read_stated l = 8 * l.depth + 5

abbrev pub decreases-read_item : goal.decreases-read_item
decreases-read_item l = 8 * l.depth + 6

abbrev pub invariant-read_block-items : goal.invariant-read_block-items
invariant-read_block-items l = record {
  room : length l.left < length l.fn.rest;
  state : State (l.fn.depth - 1) l.items.items l.left (items_at (l.fn.depth - 1) l.initial.left);
}

abbrev pub decreases-read_block-items : goal.decreases-read_block-items
decreases-read_block-items l = length l.left

abbrev pub invariant-read_braces-cases : goal.invariant-read_braces-cases
invariant-read_braces-cases l = record {
  room : length l.left < length l.fn.rest;
  state : Opened (l.fn.depth - 1) (map case_view l.items.items) l.more l.left l.fn.rest;
}

abbrev pub decreases-read_braces-cases : goal.decreases-read_braces-cases
decreases-read_braces-cases l = length l.left
