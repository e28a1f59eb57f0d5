use Rattle.std.proofs.Common.{rules}
use Rattle.use_reach.proofs.RunLemmas.{reach_kept}
use Rattle.use_reach.proofs.safety.reach.Goals as goal

-- what a run reaches from the start is in the invariant; a bad one would be in the meet, too, which has none
pub returns-then-is_empty-clause-safe : goal.returns-then-is_empty-clause-safe
returns-then-is_empty-clause-safe g c = λ is s t begins run ends.
    let begun = c.in_ok-value.ensures.holds_start s (c.in_ok-start.ensures.stores s begins) in
    let reached = reach_kept (g.D.Domain.abstraction.gamma c.in_ok-value.value) _ c.in_ok-value.ensures.inductive s t begun run in
    c.is_empty.ensures.stores (search rules) t (c.in_ok-meet.ensures.meets.stores t (c.in_ok-met.ensures.stores t ends) reached)
