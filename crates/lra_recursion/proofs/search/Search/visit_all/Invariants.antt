-- The first places are met.
use Rattle.std.proofs.Common.{take}
use Rattle.lra_recursion.specs.Search.{MarksVisited}
use Rattle.lra_recursion.proofs.search.Search.visit_all.Given as goal

abbrev pub invariant-places : goal.invariant-places
invariant-places l =
    MarksVisited (take l.place-index l.places) l.fn.self.visited.items l.fn.self.left.items l.self.visited.items l.self.left.items
