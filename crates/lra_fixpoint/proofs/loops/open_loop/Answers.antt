-- Goals of `open_loop`: a loop's head starts, unless what the loop gave for this value is kept.
use Rattle.std.proofs.Common.{ap, ◌∙◌, ◌^◌}
use Rattle.lra_fixpoint.specs.Crates.lra_analysis_spec.Plan.{Plan}
use Rattle.lra_fixpoint.proofs.{LoopFrames.due_few, LoopFrames.head_opens, LoopFrames.loop_recalled, RoundSteps.begun_less}
use Rattle.lra_fixpoint.proofs.loops.open_loop.Goals as goal

pub start-requires : goal.start-requires
start-requires g c = due_few (g.F.Interfere.interference c.requires.0) g.D.Domain.abstraction c.requires.1 c.args.the_loop c.requires.2 c.args.value
    c.args.flag c.args.memory.now c.requires.3

pub returns-in-Some-clause-leads : goal.returns-in-Some-clause-leads
returns-in-Some-clause-leads g c others set whole here =
    loop_recalled (g.F.Interfere.interference others) g.D.Domain.abstraction set c.args.the_loop whole c.args.value c.args.flag c.args.memory.now here
    c.in_ok-given.field-0 c.in-Some.given c.begin.new.self (c.in_ok-given.ensures.given others) c.begin.ensures.kept c.in-Some.is

pub turn_growing-requires : goal.turn_growing-requires
turn_growing-requires g c =
    let others = c.requires.0 in
    let set = c.requires.1 in
    let whole = c.requires.2 in
    let here = c.requires.3 in
    let begun = c.in_ok-growing.ensures in (
      others,
      set,
      whole,
      c.begin.new.self,
      here.may,
      head_opens (g.F.Interfere.interference others) g.D.Domain.abstraction set c.args.the_loop whole c.args.value c.args.flag
          c.args.memory.now here c.in_ok-growing.growing c.begin.new.self c.begin.ensures.kept begun.started begun.fits
          begun.valued begun.left,
    )

pub returns-clause-leads : goal.returns-clause-leads
returns-clause-leads g c others set whole here =
    let begun = c.in_ok-growing.ensures in
    c.turn_growing.ensures.leads others set whole c.begin.new.self here.may
    (head_opens (g.F.Interfere.interference others) g.D.Domain.abstraction set c.args.the_loop whole
    c.args.value c.args.flag c.args.memory.now here c.in_ok-growing.growing c.begin.new.self c.begin.ensures.kept
    begun.started begun.fits begun.valued begun.left)

pub returns-clause-steps : goal.returns-clause-steps
returns-clause-steps g c set plan =
    let m = g.D.Domain.abstraction in
    let begun = c.in_ok-growing.ensures in
    let growing = c.in_ok-growing.growing in
    begun_less m set c.turn_growing.result c.args.the_loop growing.left (m.rank growing.head)
    (begun.left ∙ ap (λ (x : Plan). x.delay) plan) begun.fits (c.turn_growing.ensures.steps (2 ^ 64) set)
