-- What is there so far, and then the calls of the labels that are left, are those before and those of all labels.
use Rattle.std.proofs.Common.{◌≡◌, ◌++◌}
use Rattle.lra_recursion.specs.Crates.lra_syntax.Reach.{called_names}
use Rattle.lra_scopes.specs.Calls.{functions_at}
use Rattle.lra_recursion.specs.Calls.{calls_by, labels_between}
use Rattle.lra_recursion.proofs.calls.add_calls.Given as goal

abbrev pub invariant-labels : goal.invariant-labels
invariant-labels l =
    l.calls.items ++ calls_by (functions_at l.index) l.caller (called_names (labels_between l.labels.labels l.number l.end))
    ≡ l.fn.calls.items ++ calls_by (functions_at l.index) l.caller (called_names (labels_between l.labels.labels l.before l.end))
