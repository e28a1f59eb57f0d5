-- Goals of `take_step`: what is next becomes the same, in fewer steps.
use Rattle.std.proofs.Common.{◌∙◌, subst, sym}
use Rattle.lra_threads_instrument.specs.{Instrumented.standing, StepsLeft.next_left, StepsLeft.InstrumentStepLeads, declared.stack.Next.Next}
use Rattle.lra_threads_instrument.proofs.OpenFrames.{filled, nothing_open}
use Rattle.lra_threads_instrument.proofs.trees.take_step.Goals as goal

pub returns-in_ok-arm-in-Selects : goal.returns-in_ok-arm-in-Selects
returns-in_ok-arm-in-Selects c =
    let n = c.args.globals in
    subst (λ (x : Next). InstrumentStepLeads n c.args.places.now.items (standing n x) (next_left x) c.go_on_arms.new.places.items c.in_ok-arm-in-Selects.arm)
    (sym c.in-Selects.is)
    (c.in_ok-arm-in-Selects.ensures n)

pub returns-in_ok-behind-in-Some : goal.returns-in_ok-behind-in-Some
returns-in_ok-behind-in-Some c =
    let n = c.args.globals in
    subst (λ (x : Next). InstrumentStepLeads n c.args.places.now.items (standing n x) (next_left x) c.fill.new.places.items c.in_ok-behind-in-Some.behind)
    (sym c.in-Gives.is)
    (filled n c.pop.new.self.items c.args.places.now.items c.fill.new.places.items c.in-Some.place c.in-Gives.tree c.in_ok-behind-in-Some.behind
    c.in-Some.ensures.items
    (c.in_ok-behind-in-Some.ensures n))

pub returns-in-None : goal.returns-in-None
returns-in-None c =
    nothing_open c.args.globals c.args.places.now.items c.args.next c.in-Gives.tree c.in-Gives.is (sym c.args.places.now.ok.0 ∙ c.in-None.ensures.cases.0)
