-- Goals of `merge_exactly`: the join of the parts in order, if it lost nothing.
use Rattle.lra_powerset.proofs.GrowthLemmas.{dims_of_some, merged_formed}
use Rattle.lra_powerset.proofs.growth.merge_exactly.Goals as goal

pub returns-in-Exact-clause-dims : goal.returns-in-Exact-clause-dims
returns-in-Exact-clause-dims g c = λ j e n all. dims_of_some g.D.Domain.abstraction c.args.parts.now c.in_ok-joined.joined j
    c.in_ok-joined.ensures.dims e n all

pub returns-in-Exact-clause-formed : goal.returns-in-Exact-clause-formed
returns-in-Exact-clause-formed g c = merged_formed g.D.Domain.abstraction c.args.parts.now c.in_ok-joined.exactness
    c.in_ok-joined.joined c.in_ok-joined.ensures.merged
