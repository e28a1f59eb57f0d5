-- Goals of `begin_cases`: the first label of a `switch`, if there is one, as the first of its items.
use Rattle.lra_parse_statements.proofs.Braces.{first_given}
use Rattle.lra_parse_statements.proofs.statements.begin_cases.Goals as goal

pub returns-then-begins_label-clause-gives : goal.returns-then-begins_label-clause-gives
returns-then-begins_label-clause-gives c = first_given c.args.rest.now c.in_ok-label.behind.now c.in_ok-label.label c.new-items.result.items
    c.push.new.self.items
    c.if-begins_label.ensures c.in_ok-label.ensures.gives c.new-items.ensures.items c.in_ok-push.ensures.items
