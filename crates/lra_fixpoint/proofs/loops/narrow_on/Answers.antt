-- Goals of `narrow_on`: the loop is left with its last round, or a round of narrowing is next.
use Rattle.std.proofs.Common.{◌≡◌, ◌-◌, suc, arith}
use Rattle.lra_fixpoint.proofs.{LoopFrames.narrowed_few, LoopFrames.narrowed_behind, LoopFrames.narrowed_made, LoopFrames.narrowed_kept, LoopFrames.narrowed_waits, RoundSteps.narrowed_less}
use Rattle.lra_fixpoint.proofs.loops.narrow_on.Goals as goal

pub finish-requires : goal.finish-requires
finish-requires g c = narrowed_few (g.F.Interfere.interference c.requires.0) g.D.Domain.abstraction c.requires.1 c.args.the_loop c.requires.2 c.args.first
    c.args.last c.args.left c.args.memory.now c.requires.3 c.requires.4

pub join_round-requires : goal.join_round-requires
join_round-requires g c = narrowed_behind (g.F.Interfere.interference c.requires.0) g.D.Domain.abstraction c.requires.1 c.args.the_loop c.requires.2
    c.args.first c.args.last c.args.left c.args.memory.now c.requires.3 c.requires.4

pub returns-then-left-eq0-clause-leads : goal.returns-then-left-eq0-clause-leads
returns-then-left-eq0-clause-leads g c others set whole may narrowed =
    let none : c.args.left ≡ 0 = omega arith in
    let left = c.in_ok-outcome.ensures in
    narrowed_made (g.F.Interfere.interference others) g.D.Domain.abstraction set c.args.the_loop whole c.args.first c.args.last c.args.left c.args.memory.now
    may
    narrowed c.in_ok-outcome.outcome c.finish.new.memory none left.left left.dims (left.keeps others)

pub turn_narrowing-requires : goal.turn_narrowing-requires
turn_narrowing-requires g c =
    let m = g.D.Domain.abstraction in
    let others = c.requires.0 in
    let o = g.F.Interfere.interference others in
    let set = c.requires.1 in
    let whole = c.requires.2 in
    let may = c.requires.3 in
    let narrowed = c.requires.4 in
    let counts : c.args.left ≡ suc (c.args.left - 1) = omega arith in
    let by = c.in_ok-top.ensures in (
      others,
      set,
      whole,
      c.args.memory.now,
      may,
      narrowed_waits o m set c.args.the_loop whole c.args.first c.args.last c.args.left c.args.memory.now may narrowed
          (c.args.left - 1) c.in_ok-top.top by.0 c.in_ok-top.flag counts by.1 by.2,
    )

pub returns-clause-leads : goal.returns-clause-leads
returns-clause-leads g c others set whole may narrowed =
    let counts : c.args.left ≡ suc (c.args.left - 1) = omega arith in
    let by = c.in_ok-top.ensures in
    let o = g.F.Interfere.interference others in
    let m = g.D.Domain.abstraction in
    let l = c.args.the_loop in
    let last = c.args.last in
    let left = c.args.left in
    c.turn_narrowing.ensures.leads others set whole c.args.memory.now may
    (narrowed_waits o m set l whole c.args.first last left c.args.memory.now may narrowed (left - 1) c.in_ok-top.top by.0
    c.in_ok-top.flag counts by.1 by.2)
    (narrowed_kept o m set l whole c.args.first last left c.args.memory.now may narrowed (left - 1) c.in_ok-top.top by.0
    c.in_ok-top.flag counts by.1 by.2)

pub returns-clause-steps : goal.returns-clause-steps
returns-clause-steps g c b set =
    let counts : c.args.left ≡ suc (c.args.left - 1) = omega arith in
    narrowed_less g.D.Domain.abstraction set c.turn_narrowing.result c.args.the_loop b c.args.left (c.args.left - 1) counts
    (c.turn_narrowing.ensures.steps b set)
