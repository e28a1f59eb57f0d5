-- Goals of `push_labelled`: labels and the statement after them, after the other items.
use Rattle.std.proofs.Common.{map}
use Rattle.lra_syntax.specs.Views.{case_view}
use Rattle.lra_parse_statements.proofs.Braces.{label_end}
use Rattle.lra_parse_statements.proofs.statements.push_labelled.Goals as goal

pub returns : goal.returns
returns c = label_end (map case_view c.args.items.now.items) c.push_labels.new.items.items c.push.new.self.items c.args.labels.items c.into_inner.result
    c.args.stmt.value c.into_inner.ensures c.in_ok-push.ensures.items c.in_ok-push_labels.ensures
