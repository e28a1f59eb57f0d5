-- Goals of `convert_own_list`: the polyhedron of the generators that were added to the cone; none if a number passes
-- in the canonical ones, or there are too many.
use Rattle.lra_description_pair.proofs.pair.convert_own_list.Goals as goal

pub returns-in-Err-clause-none : goal.returns-in-Err-clause-none
returns-in-Err-clause-none c =
    let cause = rw c.in-Err.is at c.in_ok-own.ensures.cause in
    (c.in-Err.field-0, cause)
