-- Goals of `push_assertions`: what is judged of the assertions of one thread more.
use Rattle.std.proofs.Common.{◌∙◌, ◌++◌, ℕ, suc, Bool, List, length, map, refl, ap, append-nil, arith}
use Rattle.std.proofs.lemmas.Option.{slice_get_read}
use Rattle.lra_threads_source.specs.Crates.{lra_report_build.AnalysisResults.verdict_at, lra_syntax.Labels.labels_of, lra_syntax.Views.tree_view}
use Rattle.lra_report.specs.Report as report
use Rattle.lra_report.specs.{View.verdict_of, declared.verdict_kinds.VerdictKind.TheVariants.Assertion}
use Rattle.lra_threads_source.specs.Listed.{assertions_alone, points_before, thread_sites, verdict_in_thread, reported_verdicts}
use Rattle.lra_threads_source.proofs.InTurn.{turn_more}
use Rattle.lra_threads_source.proofs.listing.push_assertions.Goals as goal

pub push_judged-requires-clause-judged : goal.push_judged-requires-clause-judged
push_judged-requires-clause-judged c = λ graph there.
    let found = c.args.found.now in
    let of = c.requires.found.each c.threads.k graph c.index-found-k.result there
    (slice_get_read found (length found) c.threads.k c.index-found-k.result refl c.threads-test.true c.index-found-k.is) in
    record {
      assertions = rw c.deref.ensures.value of.assertions;
      fitting = λ k d h. absurd (omega (arith, h));
      inside = λ k d h. absurd (omega (arith, h));
    }

pub threads-preserved : goal.threads-preserved
threads-preserved c =
    let t = tree_view c.args.outline.now.tree.now in
    let k = c.threads.k in
    let now = map verdict_of c.threads.listed.items in
    let alone = map (verdict_at (labels_of t) (thread_sites t k) Assertion) c.deref.result.now in
    let one = c.in_ok-push_judged.ensures
    ∙ ap (λ (vs : List report.Verdict). now ++ map (verdict_in_thread (points_before t k) (suc k)) vs) (append-nil alone)
    ∙ ap (λ (vs : List (ℕ × Bool)). now ++ map (verdict_in_thread (points_before t k) (suc k)) (map (verdict_at (labels_of t) (thread_sites t k) Assertion) vs))
    c.deref.ensures.value in
    turn_more (reported_verdicts t assertions_alone) k c.args.found.now c.index-found-k.result _ now (map verdict_of c.push_judged.new.listed.items)
    c.threads-test.true c.index-found-k.is c.threads.invariant one
