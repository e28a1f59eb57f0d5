use Rattle.std.proofs.Common.{length, ◌≤◌}
use Rattle.lra_parser_spec.specs.{Reading.list_step, Statements.label_parser, Statements.labels_at, Tests.begins_label}
use Rattle.lra_parse_expressions.proofs.Turning.{Left}
use Rattle.lra_parse_heads.proofs.labels.read_labels.Given as goal

abbrev pub invariant-labels : goal.invariant-labels
invariant-labels l = record {
  room : length l.left ≤ length l.fn.rest;
  same : Left begins_label (list_step label_parser) l.labels.items l.left (labels_at l.fn.rest);
}

abbrev pub decreases-labels : goal.decreases-labels
decreases-labels l = length l.left
