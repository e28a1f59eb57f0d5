-- Goals of `push_judged`: what is judged of one thread more.
use Rattle.std.proofs.{Common.◌≡◌, Common.◌∙◌, Common.◌++◌, Common.ℕ, Common.suc, Common.length, Common.map, Common.refl, Common.sym, Common.ap, Common.subst, lemmas.Option.slice_get_read}
use Rattle.std.specs.List.{AllByRecursion}
use Rattle.lra_threads_source.specs.Crates.{lra_operations.TreeViews.site_view, lra_operations.declared.tree.InlinedProgram.InlinedProgram, lra_syntax.Views.tree_view}
use Rattle.lra_report.specs.Report as report
use Rattle.lra_report.specs.View.{verdict_of}
use Rattle.lra_threads_source.specs.{Listed.points_before, Listed.verdict_in_thread, Stages.CanFollow, Stages.judged_alone, Stages.points_in}
use Rattle.lra_threads_source.proofs.{Following.all_viewed, Following.judged_follow, Pushing.if_ok, Pushing.room, Pushing.turned, Pushing.verdicts_alone}
use Rattle.lra_threads_source.proofs.listing.push_judged.Goals as goal

pub push_verdicts-requires : goal.push_verdicts-requires
push_verdicts-requires c =
    let graphs = c.args.outline.now.graphs.now in
    let graph = c.index-outline-k.result in
    let there = slice_get_read graphs (length graphs) c.args.k graph refl c.requires.there c.index-outline-k.is in
    let few = room (tree_view c.args.outline.now.tree.now) graphs c.requires.graphs c.args.k graph there c.turn_of.result.before (points_in graph)
    c.turn_of.ensures.before refl in
    let judged = c.requires.judged graph there in
    all_viewed (λ (v : report.Verdict). CanFollow c.turn_of.result.before v.number v.path) verdict_of c.in_ok-verdicts.verdicts.items
    (subst (AllByRecursion (λ (v : report.Verdict). CanFollow c.turn_of.result.before v.number v.path)) (sym c.in_ok-verdicts.ensures)
    (judged_follow c.turn_of.result.before (points_in graph) few _ _ c.args.judged.now.assertions.now c.args.judged.now.fitting.now
    c.args.judged.now.inside.now judged.assertions judged.fitting judged.inside))

pub returns : goal.returns
returns c =
    let t = tree_view c.args.outline.now.tree.now in
    let graphs = c.args.outline.now.graphs.now in
    let graph = c.index-outline-k.result in
    let there = slice_get_read graphs (length graphs) c.args.k graph refl c.requires.there c.index-outline-k.is in
    let same = c.in_ok-verdicts.ensures ∙ verdicts_alone t graphs c.requires.graphs c.args.k graph there _ (map site_view c.as_slice-sites.result.now)
    c.args.judged.now c.requires.labels
    (ap (map site_view) (c.as_slice-sites.ensures.value ∙ ap (λ (g : InlinedProgram). g.sites.items) (sym c.index-outline-k.is))) in
    let told = map verdict_of c.in_ok-verdicts.verdicts.items in
    let old = map verdict_of c.args.listed.now.items in
    let new = map verdict_of c.push_verdicts.new.listed.items in
    let alone = judged_alone t c.args.k c.args.judged.now in
    let change : ℕ → ℕ → report.Verdict → report.Verdict = verdict_in_thread in
    if_ok (λ (x : Unit {0}). new ≡ old ++ map (change c.turn_of.result.before c.turn_of.result.thread) told)
    (λ (x : Unit {0}). new ≡ old ++ map (change (points_before t c.args.k) (suc c.args.k)) alone)
    (λ x all. turned {A = report.Verdict} t graphs c.requires.graphs c.args.k c.turn_of.result.before c.turn_of.result.thread change told alone old new
    c.turn_of.ensures.before c.turn_of.ensures.thread same all) c.push_verdicts.result c.push_verdicts.ensures
