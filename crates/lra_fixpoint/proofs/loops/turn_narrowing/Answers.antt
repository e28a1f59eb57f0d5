-- Goals of `turn_narrowing`: once round a loop that is narrowed, from the value at its head.
use Rattle.std.proofs.Common.{refl, subst}
use Rattle.lra_fixpoint.specs.Crates.lra_program.ProgramViews.{cond_view}
use Rattle.lra_operations.specs.TreeViews.{node_view}
use Rattle.lra_pass_results.specs.Outcome.{IsEntered}
use Rattle.lra_fixpoint.proofs.BoxedFrames.{narrowing_again_less, narrowing_leads, narrowing_less, narrowing_made}
use Rattle.lra_fixpoint.proofs.LoopFrames.{waiting_few, waiting_kept, narrowing_again, narrowing_opens}
use Rattle.lra_fixpoint.proofs.loops.turn_narrowing.Goals as goal

pub enter-requires : goal.enter-requires
enter-requires g c =
    let m = g.D.Domain.abstraction in
    let given = c.requires in
    waiting_few (g.F.Interfere.interference given.0) m given.1 c.args.narrowing given.2 c.args.flag given.3 given.4 given.5

pub returns-in-Again-clause-leads : goal.returns-in-Again-clause-leads
returns-in-Again-clause-leads g c others set whole memory may waiting kept =
    let o = g.F.Interfere.interference others in
    let m = g.D.Domain.abstraction in
    let n = c.args.narrowing in
    let l = n.the_loop in
    let entered = subst (λ r. IsEntered o m l.plan.now l.point l.base (cond_view l.condition.now)
    (node_view l.body.now) c.args.flag n.top r) c.in-Again.is (c.in_ok-turn.ensures others
    (waiting_kept o m set n whole c.args.flag memory may waiting c.args.kept kept)) in
    let parts = c.into_parts-entered in
    narrowing_made m set c.again.result (record { narrowing = n; entered = parts.result.0 }) o parts.result.1 whole memory
    c.again.ensures (narrowing_again o m set n whole c.args.flag memory may waiting c.in-Again.turn parts.result.0
    parts.result.1 entered parts.ensures.entered parts.ensures.outcome)

pub returns-in-Again-clause-steps : goal.returns-in-Again-clause-steps
returns-in-Again-clause-steps g c b set =
    let parts = c.into_parts-entered in
    narrowing_again_less g.D.Domain.abstraction set c.again.result
    (record { narrowing = c.args.narrowing; entered = parts.result.0 }) b parts.result.1 c.again.ensures

pub returns-in-Anew-clause-leads : goal.returns-in-Anew-clause-leads
returns-in-Anew-clause-leads g c others set whole memory may waiting kept =
    let o = g.F.Interfere.interference others in
    let m = g.D.Domain.abstraction in
    let n = c.args.narrowing in
    let l = n.the_loop in
    let entered = subst (λ r. IsEntered o m l.plan.now l.point l.base (cond_view l.condition.now)
    (node_view l.body.now) c.args.flag n.top r) c.in-Anew.is (c.in_ok-turn.ensures others
    (waiting_kept o m set n whole c.args.flag memory may waiting c.args.kept kept)) in
    narrowing_leads m set c.opens.result (record { narrowing = n; entered = c.in-Anew.entered }) o
    (record { node = l.body; value = c.in-Anew.value; flag = c.in-Anew.flag }) whole memory c.opens.ensures
    (narrowing_opens o m set n whole c.args.flag memory may waiting c.in-Anew.value c.in-Anew.flag c.in-Anew.entered entered)

pub returns-in-Anew-clause-steps : goal.returns-in-Anew-clause-steps
returns-in-Anew-clause-steps g c b set =
    let n = c.args.narrowing in
    narrowing_less g.D.Domain.abstraction set c.opens.result (record { narrowing = n; entered = c.in-Anew.entered }) b
    (record { node = n.the_loop.body; value = c.in-Anew.value; flag = c.in-Anew.flag }) refl c.opens.ensures
