-- The search is under way; each turn either closes a place or meets new ones.
use Rattle.std.proofs.Common.{◌+◌, length, map}
use Rattle.lra_recursion.specs.Search.{unvisited_count}
use Rattle.lra_recursion.proofs.Visiting.{IsUnderWay}
use Rattle.lra_recursion.proofs.search.reached.Given as goal

abbrev pub invariant-left : goal.invariant-left
invariant-left l = IsUnderWay (map (λ row. row.items) l.rows) l.start l.search.visited.items l.search.left.items

abbrev pub decreases-left : goal.decreases-left
decreases-left l = unvisited_count l.search.visited.items + length l.search.left.items
