-- Goals of `read_labels`: labels one after the other, or none.
use Rattle.std.proofs.Common.{refl, arith}
use Rattle.lra_parser_spec.specs.{Statements.label_parser, Statements.labels_at, Tests.begins_label}
use Rattle.lra_parse_expressions.proofs.Turning.{exit_gives, list_start, list_turn, list_exit, list_end}
use Rattle.lra_parse_heads.proofs.labels.read_labels.Goals as goal

pub labels-init : goal.labels-init
labels-init c = record {
  room = omega arith;
  same = list_start begins_label refl label_parser c.new-labels.result.items c.args.rest.now c.new-labels.ensures.items;
}

pub labels-preserved : goal.labels-preserved
labels-preserved c = record {
  room = omega (arith, c.in_ok-label.ensures.shorter, c.labels.invariant.room);
  same = list_turn begins_label refl label_parser c.labels.labels.items c.push.new.self.items c.in_ok-label.label c.labels.left.now c.in_ok-label.after.now
      (labels_at c.args.rest.now)
      c.in_ok-push.ensures.items c.labels.invariant.same c.labels-test.ensures c.in_ok-label.ensures.gives c.in_ok-label.ensures.shorter;
}

pub returns-in_err-label-clause-gives : goal.returns-in_err-label-clause-gives
returns-in_err-label-clause-gives c = exit_gives _ c.from_residual.result _ _ c.from_residual.ensures.1
    (list_exit begins_label refl label_parser c.labels.labels.items c.labels.left.now c.in_err-label.field-0.0 (labels_at c.args.rest.now)
    c.labels.invariant.same
    c.labels-test.ensures
    c.in_err-label.ensures.gives)

pub returns-clause-gives : goal.returns-clause-gives
returns-clause-gives c = list_end begins_label refl label_parser c.labels.labels.items c.labels.left.now (labels_at c.args.rest.now) c.labels.invariant.same
    c.labels-test.ensures
