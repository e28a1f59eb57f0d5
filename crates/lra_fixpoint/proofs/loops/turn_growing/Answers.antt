-- Goals of `turn_growing`: once round a loop whose head grows, from its value.
use Rattle.std.proofs.Common.{refl, subst}
use Rattle.lra_fixpoint.specs.Crates.lra_program.ProgramViews.{cond_view}
use Rattle.lra_operations.specs.TreeViews.{node_view}
use Rattle.lra_pass_results.specs.{Outcome.IsEntered, declared.heads.Growing.Growing, declared.tree_forms.Loop.Loop}
use Rattle.lra_pass_stack.specs.declared.stack.GrowingFrame.{GrowingFrame}
use Rattle.lra_fixpoint.proofs.BoxedFrames.{growing_again_less, growing_leads, growing_less, growing_made}
use Rattle.lra_fixpoint.proofs.LoopFrames.{growing_few, growing_kept, growing_again, growing_opens}
use Rattle.lra_fixpoint.proofs.loops.turn_growing.Goals as goal

abbrev place_of : {V H : Type 0} → Loop → V → Growing V H → V → GrowingFrame V H
place_of l first growing entered = record { the_loop = l; first = first; growing = growing; entered = entered }

pub enter-requires : goal.enter-requires
enter-requires g c =
    let m = g.D.Domain.abstraction in
    let given = c.requires in
    growing_few (g.F.Interfere.interference given.0) m given.1 c.args.the_loop given.2 c.args.first c.args.growing c.args.kept given.3 given.4 given.5

pub returns-in-Again-clause-leads : goal.returns-in-Again-clause-leads
returns-in-Again-clause-leads g c others set whole memory may head =
    let o = g.F.Interfere.interference others in
    let m = g.D.Domain.abstraction in
    let l = c.args.the_loop in
    let growing = c.args.growing in
    let entered = subst (λ r. IsEntered o m l.plan.now l.point l.base (cond_view l.condition.now)
    (node_view l.body.now) growing.flag growing.value r) c.in-Again.is (c.in_ok-turn.ensures others
    (growing_kept o m set l whole c.args.first growing c.args.kept memory may head)) in
    let parts = c.into_parts-entered in
    growing_made m set c.again.result (place_of l c.args.first growing parts.result.0) o parts.result.1 whole memory
    c.again.ensures (growing_again o m set l whole c.args.first growing c.args.kept memory may head c.in-Again.turn
    parts.result.0 parts.result.1 entered parts.ensures.entered parts.ensures.outcome)

pub returns-in-Again-clause-steps : goal.returns-in-Again-clause-steps
returns-in-Again-clause-steps g c b set =
    let parts = c.into_parts-entered in
    growing_again_less g.D.Domain.abstraction set c.again.result
    (place_of c.args.the_loop c.args.first c.args.growing parts.result.0) b parts.result.1 c.again.ensures

pub returns-in-Anew-clause-leads : goal.returns-in-Anew-clause-leads
returns-in-Anew-clause-leads g c others set whole memory may head =
    let o = g.F.Interfere.interference others in
    let m = g.D.Domain.abstraction in
    let l = c.args.the_loop in
    let growing = c.args.growing in
    let entered = subst (λ r. IsEntered o m l.plan.now l.point l.base (cond_view l.condition.now)
    (node_view l.body.now) growing.flag growing.value r) c.in-Anew.is (c.in_ok-turn.ensures others
    (growing_kept o m set l whole c.args.first growing c.args.kept memory may head)) in
    growing_leads m set c.opens.result (place_of l c.args.first growing c.in-Anew.entered) o
    (record { node = l.body; value = c.in-Anew.value; flag = c.in-Anew.flag }) whole memory c.opens.ensures
    (growing_opens o m set l whole c.args.first growing c.args.kept memory may head c.in-Anew.value c.in-Anew.flag
    c.in-Anew.entered entered)

pub returns-in-Anew-clause-steps : goal.returns-in-Anew-clause-steps
returns-in-Anew-clause-steps g c b set =
    let l = c.args.the_loop in
    growing_less g.D.Domain.abstraction set c.opens.result (place_of l c.args.first c.args.growing c.in-Anew.entered) b
    (record { node = l.body; value = c.in-Anew.value; flag = c.in-Anew.flag }) refl c.opens.ensures
