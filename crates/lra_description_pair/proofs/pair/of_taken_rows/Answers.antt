-- Goals of `of_taken_rows`: the polyhedron of the rows that were added to the cone, after these losses; all
-- points if a number passes in its canonical constraints, or there are too many.
use Rattle.std.proofs.Common.{inl, inr, refl}
use Rattle.lra_description_pair.proofs.pair.of_taken_rows.Goals as goal

pub returns-in_ok-pair-in-Ok : goal.returns-in_ok-pair-in-Ok
returns-in_ok-pair-in-Ok c = inl (record { made = c.in_ok-pair-in-Ok.ensures; told = refl })

pub returns-in_ok-pair-in-Err : goal.returns-in_ok-pair-in-Err
returns-in_ok-pair-in-Err c =
    let cause = rw c.in-Err.is at c.in_ok-own.ensures.cause in
    inr (record { is_cone = c.push_own_loss.ensures.cone; cause = c.in-Err.cause; is_cause = cause; told = c.in_ok-push_own_loss-in-Err.ensures.loss }, c.in_ok-pair-in-Err.ensures)
