-- None of the first calls comes back.
use Rattle.std.proofs.Common.{map, take}
use Rattle.std.specs.List.{AllByRecursion}
use Rattle.lra_recursion.specs.Recursion.{IsRecursiveCall}
use Rattle.lra_recursion.proofs.recursion.first_back.Given as goal

abbrev pub invariant-calls : goal.invariant-calls
invariant-calls l = AllByRecursion (λ c. IsRecursiveCall (map (λ row. row.items) l.rows) c → ⊥) (take l.call-index l.calls)
