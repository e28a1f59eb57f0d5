-- Goals of `go_on_growing`: after a round of a loop whose head grows.
use Rattle.std.proofs.Common.{ap, ◌∙◌, ◌^◌}
use Rattle.lra_fixpoint.specs.Crates.lra_analysis_spec.Plan.{Plan}
use Rattle.lra_fixpoint.proofs.{LoopFrames.grown_wide, LoopFrames.grown_stable, LoopFrames.grown_next, RoundSteps.stable_less, RoundSteps.grown_less}
use Rattle.lra_fixpoint.proofs.loops.go_on_growing.Goals as goal

pub grow_by-requires : goal.grow_by-requires
grow_by-requires g c =
    let given = c.requires in
    grown_wide (g.F.Interfere.interference given.0) g.D.Domain.abstraction given.1 c.args.place given.2 given.3 c.args.outcome c.args.memory.now given.4 given.5
    given.6

pub narrow_on-requires : goal.narrow_on-requires
narrow_on-requires g c =
    let given = c.requires in
    let by = c.in_ok-stable.ensures in (
      given.0,
      given.1,
      given.2,
      given.4,
      rw c.narrow-left.ensures (grown_stable (g.F.Interfere.interference given.0) g.D.Domain.abstraction given.1 c.args.place given.2 given.3
          c.args.outcome c.args.memory.now given.4 given.5 given.6 c.into_value-value.result (c.into_value-value.ensures ∙ by.same c.if-stable.true)
          (by.stays c.if-stable.true)),
    )

pub returns-then-stable-clause-leads : goal.returns-then-stable-clause-leads
returns-then-stable-clause-leads g c others set whole part may owed made =
    let by = c.in_ok-stable.ensures in
    c.narrow_on.ensures.leads others set whole may (rw c.narrow-left.ensures (grown_stable (g.F.Interfere.interference others)
    g.D.Domain.abstraction set c.args.place whole part
    c.args.outcome c.args.memory.now may owed made c.into_value-value.result (c.into_value-value.ensures ∙ by.same c.if-stable.true)
    (by.stays c.if-stable.true)))

pub returns-then-stable-clause-falls : goal.returns-then-stable-clause-falls
returns-then-stable-clause-falls g c set plan =
    let m = g.D.Domain.abstraction in
    let l = c.args.place.the_loop in
    let growing = c.args.place.growing in
    stable_less m set c.narrow_on.result l l.plan.now.narrow growing.left (m.rank growing.head)
    (ap (λ (x : Plan). x.narrow) plan) (rw c.narrow-left.ensures at c.narrow_on.ensures.steps (2 ^ 64) set)

pub turn_growing-requires : goal.turn_growing-requires
turn_growing-requires g c =
    let given = c.requires in
    let grew = c.in_ok-stable.ensures.grew c.if-stable.false in (
      given.0,
      given.1,
      given.2,
      c.args.memory.now,
      given.4,
      grown_next (g.F.Interfere.interference given.0) g.D.Domain.abstraction given.1 c.args.place given.2 given.3
          c.args.outcome c.args.memory.now given.4 given.5 given.6 grew.0 c.grow_by.new.growing grew.1,
    )

pub returns-clause-leads : goal.returns-clause-leads
returns-clause-leads g c others set whole part may owed made =
    let grew = c.in_ok-stable.ensures.grew c.if-stable.false in
    c.turn_growing.ensures.leads others set whole c.args.memory.now may
    (grown_next (g.F.Interfere.interference others) g.D.Domain.abstraction set c.args.place whole part
    c.args.outcome c.args.memory.now may owed made grew.0 c.grow_by.new.growing grew.1)

pub returns-clause-falls : goal.returns-clause-falls
returns-clause-falls g c set plan =
    let m = g.D.Domain.abstraction in
    let l = c.args.place.the_loop in
    let before = c.args.place.growing in
    let after = c.grow_by.new.growing in
    let by = (c.in_ok-stable.ensures.grew c.if-stable.false).1 in
    grown_less m set c.turn_growing.result l l.plan.now.widening before.left after.left (m.rank before.head)
    (m.rank after.head) by.fits by.left by.lower (c.turn_growing.ensures.steps (2 ^ 64) set)
