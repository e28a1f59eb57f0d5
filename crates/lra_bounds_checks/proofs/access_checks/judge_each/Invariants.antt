use Rattle.std.proofs.Common.{map, drop}
use Rattle.lra_bounds_checks.specs.Listed.{access_view}
use Rattle.lra_bounds_checks.proofs.BoundsSteps.{AreToldSoFar}
use Rattle.lra_bounds_checks.proofs.access_checks.judge_each.Given as goal

-- what is reported so far
abbrev pub invariant-accesses : goal.invariant-accesses
invariant-accesses g l = AreToldSoFar g.D.Domain.abstraction l.value l.around.base (map access_view l.accesses) l.fn.told.items
    (map access_view (drop l.access-index l.accesses)) l.so_far l.told.items
