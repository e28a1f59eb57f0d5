-- Goals of `take_both`: two rows are added.
use Rattle.std.proofs.Common.{◌∙◌, ap, suc, sym, [], ◌∷◌}
use Rattle.std.specs.Prelude.{neg_ℤ}
use Rattle.lra_analysis_spec.specs.{GuardThresholds.row_of, Thresholds.row_against}
use Rattle.lra_linearize.proofs.{GuardThresholdSteps.row_width, ThresholdSteps.against_width, TreeViews.last_taken}
use Rattle.lra_linearize.proofs.thresholds.take_both.Goals as goal

pub take_in-requires : goal.take_in-requires
take_in-requires c = rw c.in_ok-row_less.ensures (row_width c.args.d.now (neg_ℤ c.args.less.now) ∙ ap suc c.requires)

pub take_in-requires-2 : goal.take_in-requires-2
take_in-requires-2 c = rw c.in_ok-row_against.ensures (against_width c.args.d.now c.args.more.now ∙ ap suc (c.requires ∙ sym c.in_ok-take_in.ensures.dims))

pub returns : goal.returns
returns c =
    let first = rw c.in_ok-row_less.ensures at c.in_ok-take_in.ensures in
    let second = rw c.in_ok-row_against.ensures at c.take_in-2.ensures in
    last_taken c.take_in-2.result c.args.rows.now c.take_in.new.rows c.take_in-2.new.rows (row_of c.args.d.now (neg_ℤ c.args.less.now) ∷ [])
    (λ n. row_against c.args.d.now c.args.more.now ∷ []) first second
