-- Goals of `join_values`: the join with next.
use Rattle.lra_poly_domain.proofs.GrowthLemmas.{is_joined}
use Rattle.lra_poly_domain.proofs.widening.join_values.Goals as goal

pub returns : goal.returns
returns c =
    rw c.exactness_of-exactness.ensures
    (is_joined c.args.p.now c.args.next.now c.hull.new.self c.in_ok-outcome.outcome (rw c.in_ok-join.ensures at c.in_ok-outcome.ensures.becomes))
