-- Goals of `add_calls`: adds the calls of a function that ends at a label.
use Rattle.std.proofs.Common.{◌≡◌, ◌++◌, rules}
use Rattle.std.specs.Prelude.{option_to_list}
use Rattle.lra_scopes.specs.Calls.{functions_at}
use Rattle.lra_recursion.proofs.{Reading.further_label, calls.add_calls.Goals.in-Some+in_ok-push, calls.add_calls.Goals.in_default}
use Rattle.lra_recursion.proofs.calls.add_calls.Goals as goal

pub labels-preserved : goal.labels-preserved
labels-preserved c =
    let grown : c.match-find_call.calls.items ≡ c.labels.calls.items ++ option_to_list c.find_call.result =
    elim c.match-find_call.branch [ in-Some+in_ok-push w ↦ search rules | in_default w ↦ search rules ] in
    further_label (functions_at c.args.index.now) c.args.caller c.args.labels.now.labels c.labels.number c.args.end c.find_call.result c.labels.calls.items c.match-find_call.calls.items _
    c.labels-test.true c.find_call.ensures grown c.labels.invariant
