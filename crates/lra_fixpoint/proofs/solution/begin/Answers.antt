-- Goals of `begin`: the globals at their first values, and the first flagged point so far.
use Rattle.lra_fixpoint.proofs.solution.begin.Goals as goal

pub returns-clause-begins : goal.returns-clause-begins
returns-clause-begins g c =
    let appends = rw c.in_ok-value.ensures.dims at c.in_ok-exactness.ensures.appends in
    (c.in_ok-value.value, c.in_ok-exactness.exactness, (rw c.parts.ensures at c.in_ok-value.ensures.defined, c.in_ok-value.ensures.formed), appends, c.note.ensures)
