-- Goals of `finish`: the loop is left with the value at its head and its last round, and may be kept.
use Rattle.lra_fixpoint.specs.Crates.lra_program.ProgramViews.{cond_view}
use Rattle.lra_pass_results.specs.Outcome.{outcome_view}
use Rattle.lra_pass_results.proofs.CachedLoops.{recall_later, left_later}
use Rattle.lra_fixpoint.proofs.loops.finish.Goals as goal

pub returns-clause-keeps : goal.returns-clause-keeps
returns-clause-keeps g c others plan loops all kept =
    let o = g.F.Interfere.interference others in
    let m = g.D.Domain.abstraction in
    let l = c.args.the_loop.now in
    let left = rw c.into_outcome.ensures at c.in_ok-outcome.ensures.left in
    c.in_ok-end.ensures others plan loops
    (recall_later o m plan loops c.args.last.turn.outcome.flag c.in_ok-outcome.outcome.flag c.args.memory.now
    (left_later m l.point l.base (cond_view l.condition.now) c.args.last.value (outcome_view c.args.last.turn.outcome) (outcome_view c.in_ok-outcome.outcome)
    left) all)
    kept
