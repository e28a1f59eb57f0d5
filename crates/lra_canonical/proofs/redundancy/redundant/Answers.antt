-- Goals of `redundant`: marks the rows that are covered by a row that isn't marked, one after the other.
use Rattle.std.proofs.Common.{arith, sym, ◌∙◌, true≢false}
use Rattle.lra_canonical.proofs.{Irredundant.marks_start, Irredundant.marks_more, Irredundant.marks_stay, redundancy.redundant.Goals.then-covered, redundancy.redundant.Goals.else-covered}
use Rattle.lra_canonical.proofs.redundancy.redundant.Goals as goal

pub loop-place-init : goal.loop-place-init
loop-place-init c = marks_start c.args.rows.now c.args.saturation.now c.in_ok-gone.gone c.in_ok-gone.ensures

pub loop-place-preserved : goal.loop-place-preserved
loop-place-preserved c =
    elim c.if-covered.branch [
      | then-covered w ↦ rw w.gone-is
          (marks_more c.args.rows.now c.args.saturation.now c.loop-place.gone w.set.new.self c.loop-place.place c.requires (omega (arith, c.loop-place-test.true)) w.set.ensures
          (c.in_ok-covered.ensures.0 w.if-covered.true) c.loop-place.invariant)
      | else-covered w ↦ rw w.gone-is
          (marks_stay c.args.rows.now c.args.saturation.now c.loop-place.gone c.loop-place.place (λ x. true≢false (sym (c.in_ok-covered.ensures.1 x) ∙ w.if-covered.false)) c.loop-place.invariant)
    ]
