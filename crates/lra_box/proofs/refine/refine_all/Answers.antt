-- Goals of `refine_all`: tightens each place in order by `constant + factors >= 0`, until one is crossed.
use Rattle.std.proofs.{Common.◌≡◌, Common.◌<◌, Common.length, Common.add-one, Common.arith, Common.sym, Common.◌∙◌, Common.true, Common.false, Common.refl, lemmas.Int.to_z-of_z}
use Rattle.std.specs.Int.{w128}
use Rattle.lra_box.specs.Bounds.{crossed}
use Rattle.lra_box.proofs.{RefineSteps.refine_on, RefineSteps.refine_stops, RefineSteps.refine_ends, RefineSteps.refine_starts, SoundLemmas.at_sound}
use Rattle.lra_box.proofs.refine.refine_all.Goals as goal

pub tight_at-tight-requires-clause-ends : goal.tight_at-tight-requires-clause-ends
tight_at-tight-requires-clause-ends c = (at_sound c.loop-k.bounds c.loop-k.k c.loop-k.invariant.state.sound).0

pub tight_at-tight-requires-clause-factors : goal.tight_at-tight-requires-clause-factors
tight_at-tight-requires-clause-factors c = rw c.loop-k.invariant.same c.requires.factors

pub returns-then-is_crossed-clause-tested : goal.returns-then-is_crossed-clause-tested
returns-then-is_crossed-clause-tested c =
    let tight = rw (to_z-of_z w128 c.args.constant c.ranges.constant, c.loop-k.invariant.same) at c.tight_at-tight.ensures.tight in
    let state = rw (to_z-of_z w128 c.args.constant c.ranges.constant) at c.loop-k.invariant.state in
    let place : c.loop-k.k < length c.args.factors.now = omega arith in
    let width : length c.args.factors.now ≡ length c.loop-k.bounds = omega arith in
    let on : crossed c.tight_at-tight.result.interval ≡ true = sym c.is_crossed.ensures ∙ c.if-is_crossed.true in
    refine_stops c.args.constant c.args.factors.now c.loop-k.k c.args.bounds.now c.loop-k.bounds _ c.loop-k.exactness c.tight_at-tight.result.exactness c.worse-exactness.result place width state tight
    c.worse-exactness.ensures.exact c.worse-exactness.ensures.flagged on (length c.args.factors.now) place

pub loop-k-preserved : goal.loop-k-preserved
loop-k-preserved c =
    let tight = rw (to_z-of_z w128 c.args.constant c.ranges.constant, c.loop-k.invariant.same) at c.tight_at-tight.ensures.tight in
    let state = rw (to_z-of_z w128 c.args.constant c.ranges.constant) at c.loop-k.invariant.state in
    let place : c.loop-k.k < length c.args.factors.now = omega arith in
    let width : length c.args.factors.now ≡ length c.loop-k.bounds = omega arith in
    let on : crossed c.tight_at-tight.result.interval ≡ false = sym c.is_crossed.ensures ∙ c.if-is_crossed.false in
    record {
      same = c.tight_at-tight.ensures.factors ∙ c.loop-k.invariant.same;
      state = rw (to_z-of_z w128 c.args.constant c.ranges.constant, add-one) (refine_on c.args.constant c.args.factors.now c.loop-k.k c.args.bounds.now c.loop-k.bounds _ c.loop-k.exactness
          c.tight_at-tight.result.exactness c.worse-exactness.result place width state tight c.worse-exactness.ensures.exact c.worse-exactness.ensures.flagged on);
    }

pub returns-clause-tested : goal.returns-clause-tested
returns-clause-tested c =
    let state = rw (to_z-of_z w128 c.args.constant c.ranges.constant) at c.loop-k.invariant.state in
    let done : c.loop-k.k ≡ length c.args.factors.now = omega arith in
    refine_ends c.args.constant c.args.factors.now c.args.bounds.now c.loop-k.bounds c.loop-k.exactness (omega arith) (rw done at state)

pub loop-k-init : goal.loop-k-init
loop-k-init c = record {
  same = refl;
  state = rw (to_z-of_z w128 c.args.constant c.ranges.constant) (refine_starts c.args.constant c.args.factors.now c.args.bounds.now c.requires.sound);
}
