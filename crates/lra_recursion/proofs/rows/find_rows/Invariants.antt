-- Each row so far, and then what the calls that are left add to it, is what all of them add.
use Rattle.std.proofs.Common.{◌≡◌, ◌<◌, ◌++◌, ℕ, [], map, drop, length, get_or}
use Rattle.lra_recursion.specs.Calls.{callees_of}
use Rattle.lra_recursion.proofs.rows.find_rows.Given as goal

abbrev pub invariant-calls : goal.invariant-calls
invariant-calls l = (length l.rows.items ≡ l.count)
    × ((j : ℕ) → j < l.count → get_or (map (λ row. row.items) l.rows.items) j [] ++ callees_of j (drop l.call-index l.calls) ≡ callees_of j l.calls)
