-- The calls so far, and then those of the functions that are left, are those of all.
use Rattle.std.proofs.Common.{◌≡◌, ◌++◌, map, drop}
use Rattle.lra_recursion.specs.Crates.lra_program.ProgramViews.{function_view}
use Rattle.lra_scopes.specs.Calls.{functions_at}
use Rattle.lra_recursion.specs.Calls.{calls_behind}
use Rattle.lra_recursion.proofs.calls.find_calls.Given as goal

abbrev pub invariant-functions : goal.invariant-functions
invariant-functions l =
    l.calls.items ++ calls_behind (functions_at l.index) l.labels.labels l.before (drop l.place l.callers.items) (map function_view (drop l.place l.functions))
    ≡ calls_behind (functions_at l.index) l.labels.labels 0 l.callers.items (map function_view l.functions)
