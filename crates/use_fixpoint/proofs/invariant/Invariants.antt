use Rattle.std.proofs.Common.{◌≡◌, ◌^◌}
use Rattle.guzhtarel.specs.{Domains.Actions.Within, Domains.Gammas.InGamma, Domains.Gammas.InHeadGamma, Domains.Rank.RankFits}
use Rattle.guzhtarel.proofs.Ranks.RankNumbers.{phased}
use Rattle.use_fixpoint.proofs.invariant.Given as goal

-- the head has the dimensions and the stores of the start
abbrev pub invariant-loop-head : goal.invariant-loop-head
invariant-loop-head g l =
    (g.D.Domain.abstraction.head_dims l.head ≡ g.D.Domain.abstraction.dims l.fn.start)
    × Within (InGamma g.D.Domain.abstraction l.fn.start) (InHeadGamma g.D.Domain.abstraction l.head)
    × g.D.Domain.abstraction.well_formed l.fn.start
    × g.D.Domain.abstraction.head_well_formed l.head
    × RankFits (g.D.Domain.abstraction.rank l.head)

abbrev pub decreases-loop-head : goal.decreases-loop-head
decreases-loop-head g l = phased (2 ^ 64) l.left (g.D.Domain.abstraction.rank l.head)
