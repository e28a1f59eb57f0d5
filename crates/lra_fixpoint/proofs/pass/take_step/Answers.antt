-- Goals of `take_step`: one step of a pass.
use Rattle.std.proofs.Common.{◌<◌, ◌^◌, subst, sym}
use Rattle.lra_pass_stack.specs.StepsLeft.{all_left, next_left, place_left, tree_steps, TakesFewer}
use Rattle.lra_pass_stack.specs.{Stack.pass_task, Stack.IsPassFrame, Stack.PassStepLeads, Stack.PassStepReaches, declared.stack.Next.TheVariants.Again, declared.stack.Next.TheVariants.Opens}
use Rattle.lra_pass_stack.proofs.OpenFrames.{all_made, leads_on, popped, pushed, steps_on, went_on}
use Rattle.lra_fixpoint.proofs.RoundSteps.{again_less, popped_less, pushed_less}
use Rattle.lra_fixpoint.proofs.pass.take_step.Goals as goal

-- nothing is open -----------------------------------------------------------------------------------------------------

pub returns-in-None-clause-leads : goal.returns-in-None-clause-leads
returns-in-None-clause-leads g c whole way =
    all_made (g.F.Interfere.interference c.args.others.now) g.D.Domain.abstraction c.args.plan.now c.args.places.now.open.items whole c.args.next
    c.args.memory.now way
    c.in-Passed.outcome c.in-Passed.is (c.pop.ensures.none c.in-None.is)

-- the innermost goes on -----------------------------------------------------------------------------------------------

pub go_on-requires : goal.go_on-requires
go_on-requires g c =
    let whole = c.requires.way.0 in
    let behind = popped (g.F.Interfere.interference c.args.others.now) g.D.Domain.abstraction c.args.plan.now
    c.args.places.now.open.items whole c.args.next c.args.memory.now c.requires.way.1
    c.pop.new.self.open.items c.pop.result c.in-Some.place c.in-Passed.outcome c.in-Passed.is
    c.pop.ensures.left c.in-Some.is in
    (c.args.others.now, c.args.plan.now, behind.0, behind.1, behind.3, behind.4, behind.5, c.requires.parts)

pub returns-in-Some-clause-leads : goal.returns-in-Some-clause-leads
returns-in-Some-clause-leads g c whole way =
    let o = g.F.Interfere.interference c.args.others.now in
    let m = g.D.Domain.abstraction in
    let set = c.args.plan.now in
    let left = c.pop.new.self.open.items in
    let new = c.go_on.new.memory in
    let behind = popped o m set c.args.places.now.open.items whole c.args.next c.args.memory.now way left c.pop.result
    c.in-Some.place c.in-Passed.outcome c.in-Passed.is c.pop.ensures.left c.in-Some.is in
    steps_on c.go_on.result c.goes.result (λ n. PassStepLeads o m set behind.0 n new) (λ s. PassStepReaches o m set left whole s new)
    c.goes.ensures (λ n leads. went_on o m set left whole behind.0 n new behind.2 behind.3 leads)
    (c.go_on.ensures.leads c.args.others.now set behind.0 behind.1 behind.3 behind.4 behind.5)

pub returns-in-Some-clause-falls : goal.returns-in-Some-clause-falls
returns-in-Some-clause-falls g c whole way =
    let o = g.F.Interfere.interference c.args.others.now in
    let m = g.D.Domain.abstraction in
    let set = c.args.plan.now in
    let left = c.pop.new.self.open.items in
    let all = c.args.places.now.open.items in
    let behind = popped o m set all whole c.args.next c.args.memory.now way left c.pop.result
    c.in-Some.place c.in-Passed.outcome c.in-Passed.is c.pop.ensures.left c.in-Some.is in
    steps_on c.go_on.result c.goes.result (λ n. next_left m (2 ^ 64) set n < place_left m (2 ^ 64) set c.in-Some.place)
    (λ s. TakesFewer m (2 ^ 64) set left s (all_left m (2 ^ 64) set all c.args.next)) c.goes.ensures
    (λ n less. popped_less m (2 ^ 64) set left c.in-Some.place c.args.next n all c.pop.result c.in-Passed.outcome
    c.in-Passed.is c.pop.ensures.left c.in-Some.is less) (c.go_on.ensures.falls c.args.others.now set behind.0 behind.1 behind.4)

-- or it does with what is given again ---------------------------------------------------------------------------------

pub go_on-requires-in-Again : goal.go_on-requires-in-Again
go_on-requires-in-Again g c =
    let o = g.F.Interfere.interference c.args.others.now in
    let m = g.D.Domain.abstraction in
    let set = c.args.plan.now in
    let way = c.requires.way.1 in
    let here = leads_on o m set c.args.places.now.open.items c.requires.way.0 c.args.next
    c.args.memory.now way (Again c.in-Again.place c.in-Again.outcome) c.in-Again.is in (
      c.args.others.now,
      set,
      way.part,
      here.0,
      way.begun,
      subst (λ p. IsPassFrame o m set p way.part here.0) (sym c.into_inner.ensures) here.1,
      here.2,
      c.requires.parts,
    )

pub returns-in-Again-clause-leads : goal.returns-in-Again-clause-leads
returns-in-Again-clause-leads g c whole way =
    let o = g.F.Interfere.interference c.args.others.now in
    let m = g.D.Domain.abstraction in
    let set = c.args.plan.now in
    let all = c.args.places.now.open.items in
    let new = c.go_on-in-Again.new.memory in
    let here = leads_on o m set all whole c.args.next c.args.memory.now way (Again c.in-Again.place c.in-Again.outcome)
    c.in-Again.is in
    steps_on c.go_on-in-Again.result c.goes-in-Again.result (λ n. PassStepLeads o m set way.part n new)
    (λ s. PassStepReaches o m set all whole s new) c.goes-in-Again.ensures
    (λ n leads. went_on o m set all whole way.part n new way.owed way.begun leads)
    (c.go_on-in-Again.ensures.leads c.args.others.now set way.part here.0 way.begun
    (subst (λ p. IsPassFrame o m set p way.part here.0) (sym c.into_inner.ensures) here.1) here.2)

pub returns-in-Again-clause-falls : goal.returns-in-Again-clause-falls
returns-in-Again-clause-falls g c whole way =
    let o = g.F.Interfere.interference c.args.others.now in
    let m = g.D.Domain.abstraction in
    let set = c.args.plan.now in
    let all = c.args.places.now.open.items in
    let here = leads_on o m set all whole c.args.next c.args.memory.now way (Again c.in-Again.place c.in-Again.outcome)
    c.in-Again.is in
    steps_on c.go_on-in-Again.result c.goes-in-Again.result
    (λ n. next_left m (2 ^ 64) set n < place_left m (2 ^ 64) set c.into_inner.result)
    (λ s. TakesFewer m (2 ^ 64) set all s (all_left m (2 ^ 64) set all c.args.next)) c.goes-in-Again.ensures
    (λ n less. again_less m (2 ^ 64) set all c.into_inner.result c.args.next n c.in-Again.place c.in-Again.outcome
    c.in-Again.is c.into_inner.ensures less)
    (c.go_on-in-Again.ensures.falls c.args.others.now set way.part here.0
    (subst (λ p. IsPassFrame o m set p way.part here.0) (sym c.into_inner.ensures) here.1))

-- a place opens -------------------------------------------------------------------------------------------------------

pub open_tree-requires : goal.open_tree-requires
open_tree-requires g c =
    let here = leads_on (g.F.Interfere.interference c.args.others.now) g.D.Domain.abstraction c.args.plan.now c.args.places.now.open.items
    c.requires.way.0 c.args.next c.args.memory.now c.requires.way.1 (Opens c.in-Opens.place c.in-Opens.tree) c.in-Opens.is in
    record { parts = c.requires.parts; may = here.1 }

pub returns-in_ok-push-in-Opens-clause-leads : goal.returns-in_ok-push-in-Opens-clause-leads
returns-in_ok-push-in-Opens-clause-leads g c whole way =
    let o = g.F.Interfere.interference c.args.others.now in
    let m = g.D.Domain.abstraction in
    let set = c.args.plan.now in
    let new = c.open_tree.new.memory in
    let opens = c.in_ok-push-in-Opens.ensures in
    steps_on c.open_tree.result c.goes-in-Opens.result (λ n. PassStepLeads o m set (pass_task c.in-Opens.tree c.args.memory.now) n new)
    (λ s. PassStepReaches o m set c.push.new.self.open.items whole s new) c.goes-in-Opens.ensures
    (λ n leads. pushed o m set c.args.places.now.open.items whole c.args.next c.args.memory.now way c.in-Opens.place
    c.in-Opens.tree c.push.new.self.open.items n new c.in-Opens.is opens leads) c.open_tree.ensures.leads

pub returns-in_ok-push-in-Opens-clause-falls : goal.returns-in_ok-push-in-Opens-clause-falls
returns-in_ok-push-in-Opens-clause-falls g c whole way =
    let m = g.D.Domain.abstraction in
    let set = c.args.plan.now in
    let all = c.args.places.now.open.items in
    let opens = c.in_ok-push-in-Opens.ensures in
    steps_on c.open_tree.result c.goes-in-Opens.result
    (λ n. next_left m (2 ^ 64) set n < tree_steps m (2 ^ 64) set c.in-Opens.tree.node.now)
    (λ s. TakesFewer m (2 ^ 64) set c.push.new.self.open.items s (all_left m (2 ^ 64) set all c.args.next))
    c.goes-in-Opens.ensures (λ n less. pushed_less m (2 ^ 64) set all c.in-Opens.place c.args.next n
    c.push.new.self.open.items c.in-Opens.tree c.in-Opens.is opens less) c.open_tree.ensures.falls
