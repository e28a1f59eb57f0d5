-- Goals of `go_on_narrowing`: after a round of a loop that is narrowed.
use Rattle.std.proofs.Common.{◌^◌}
use Rattle.lra_fixpoint.proofs.LoopFrames.{narrowing_narrowed}
use Rattle.lra_fixpoint.proofs.loops.go_on_narrowing.Goals as goal

pub narrow_on-requires : goal.narrow_on-requires
narrow_on-requires g c =
    let given = c.requires in (
      given.0,
      given.1,
      given.2,
      given.4,
      narrowing_narrowed (g.F.Interfere.interference given.0) g.D.Domain.abstraction given.1 c.args.place given.2 given.3 c.args.outcome
          c.args.memory.now given.4 given.5 given.6,
    )

pub returns-clause-leads : goal.returns-clause-leads
returns-clause-leads g c others set whole part may owed made =
    c.narrow_on.ensures.leads others set whole may
    (narrowing_narrowed (g.F.Interfere.interference others) g.D.Domain.abstraction set c.args.place whole part c.args.outcome
    c.args.memory.now may owed made)

pub returns-clause-falls : goal.returns-clause-falls
returns-clause-falls g c set plan = c.narrow_on.ensures.steps (2 ^ 64) set
