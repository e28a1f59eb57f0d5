-- Goals of `push_labels`: labels, after the other items.
use Rattle.std.proofs.{Common.sym, Common.map, lemmas.List.append-nil}
use Rattle.lra_syntax.specs.Views.{case_view}
use Rattle.lra_parse_statements.proofs.Braces.{label_turn}
use Rattle.lra_parse_statements.proofs.statements.push_labels.Goals as goal

pub each-init : goal.each-init
each-init c = sym (append-nil (map case_view c.args.items.now.items))

pub each-preserved : goal.each-preserved
each-preserved c = label_turn (map case_view c.args.items.now.items) c.each.items.items c.push.new.self.items c.each.yielded c.in-Some.label
    c.in_ok-push.ensures.items c.each.invariant
