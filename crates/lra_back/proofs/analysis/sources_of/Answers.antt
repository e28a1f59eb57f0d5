-- Goals of `sources_of`: the sources of all points.
use Rattle.std.proofs.Common.{◌≡◌, ◌<◌, ◌+◌, List, Some, length, map, add-one, ap, arith, slice_get, subst, sym, ◌∙◌}
use Rattle.std.proofs.lemmas.List.{length-map}
use Rattle.lra_operations.specs.TreeViews.{site_view}
use Rattle.lra_paths.specs.declared.sources.Source.{Source}
use Rattle.lra_back.specs.BackwardCalls.{IsSourceOf}
use Rattle.lra_back.proofs.{BackSteps.is_source_of, MeetSteps.append_cases, MeetSteps.one_more}
use Rattle.lra_back.proofs.analysis.sources_of.Goals as goal

pub points-preserved : goal.points-preserved
points-preserved c =
    let paths = c.args.paths.now in
    let globals = paths.globals.now in
    let sites = map site_view paths.sites.now in
    let sources = c.points.sources.items in
    let i = c.points.point in
    let source = c.in_ok-source.source in
    let items = c.in_ok-push.ensures.items in
    let below = c.points-test.true in
    let inside : i < length sites = simp length-map (omega (arith, below)) in
    record {
      count = ap length items ∙ one_more sources source i c.points.invariant.count;
      are = λ g is few p s at. append_cases (λ q z. IsSourceOf globals sites g q z) sources source
          (subst (λ k. IsSourceOf globals sites g k source) (sym c.points.invariant.count)
          (is_source_of globals sites g i (i + 1) source few inside (add-one i) c.in_ok-source.ensures.table (c.in_ok-source.ensures.leads g is)))
          (c.points.invariant.are g is few) p s (subst (λ (xs : List Source). slice_get xs p ≡ Some s) items at);
    }

pub returns : goal.returns
returns c g is few =
    let paths = c.args.paths.now in
    let end : c.points.point ≡ length (map site_view paths.sites.now) = simp length-map (let past = c.points-test.false in omega (arith, past)) in
    record { count = c.points.invariant.count ∙ end; are = c.points.invariant.are g is few }
