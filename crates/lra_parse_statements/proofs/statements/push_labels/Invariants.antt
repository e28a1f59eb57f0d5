use Rattle.std.proofs.Common.{◌≡◌, [], ◌++◌, map}
use Rattle.lra_syntax.specs.Views.{case_view}
use Rattle.lra_parse_statements.specs.Cases.{label_parts}
use Rattle.lra_parse_statements.proofs.statements.push_labels.Given as goal

abbrev pub invariant-each : goal.invariant-each
invariant-each l = map case_view l.items.items ≡ map case_view l.fn.items.items ++ label_parts l.yielded []
