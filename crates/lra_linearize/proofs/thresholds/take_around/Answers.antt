-- Goals of `take_around`: the rows around a difference are added, two for each k.
use Rattle.std.proofs.Common.{◌∙◌, sym, pos, negsuc, [], ◌∷◌}
use Rattle.lra_analysis_spec.specs.{GuardThresholds.row_of, Thresholds.row_against}
use Rattle.lra_linearize.proofs.{ThresholdSteps.taken_both, TreeViews.last_taken}
use Rattle.lra_linearize.proofs.thresholds.take_around.Goals as goal

pub take_both-requires-2 : goal.take_both-requires-2
take_both-requires-2 c = c.requires ∙ sym c.in_ok-take_both.ensures.dims

pub take_both-requires-3 : goal.take_both-requires-3
take_both-requires-3 c = c.requires ∙ sym c.in_ok-take_both.ensures.dims ∙ sym c.in_ok-take_both-2.ensures.dims

pub returns : goal.returns
returns c =
    let d = c.args.d.now in
    let so = taken_both c.args.rows.now c.take_both.new.rows c.take_both-2.new.rows (row_of d (negsuc 0) ∷ row_against d (negsuc 0) ∷ []) (row_of d (pos 0) ∷ row_against d (pos 0) ∷ [])
    c.in_ok-take_both.ensures c.in_ok-take_both-2.ensures in
    last_taken c.take_both-3.result c.args.rows.now c.take_both-2.new.rows c.take_both-3.new.rows
    (row_of d (negsuc 0) ∷ row_against d (negsuc 0) ∷ row_of d (pos 0) ∷ row_against d (pos 0) ∷ []) (λ n. row_of d (pos 1) ∷ row_against d (pos 1) ∷ []) so c.take_both-3.ensures
