-- Goals of `summary`: the lines that say of a sample source of this seed and size and of its report.
use Rattle.std.proofs.{Common.◌≡◌, Common.length, Common.refl, Common.arith, Common.◌∙◌, lemmas.Grind.common_steps}
use Rattle.std.specs.Vec.{vec_len}
use Rattle.lra_report.specs.View.{report_of}
use Rattle.lra_sample.proofs.SummaryLemmas.{counted_verdicts, summary_lines}
use Rattle.lra_sample.proofs.summaries.summary.Goals as goal

pub returns : goal.returns
returns c =
    let points = c.args.report.now.points in
    let counted : vec_len points ≡ length points.items = grind (arith, common_steps) in
    summary_lines c.args.seed c.args.size _ _ points.items (report_of c.args.report.now) c.args.source.now _ _ _ _
    c.requires refl (c.len-points.ensures ∙ counted) refl c.new-text.ensures.bytes c.in_ok-push_sizes.ensures c.in_ok-push_flag.ensures
    (counted_verdicts _ _ c.args.report.now.verdicts.items c.deref.result.now c.in_ok-push_counts.ensures c.deref.ensures.value)
