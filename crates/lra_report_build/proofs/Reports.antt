-- Points and verdicts that are listed by a source's labels and sites make a report of the source.
use Rattle.std.proofs.Common.{◌≡◌, ◌∙◌, sym, ap, subst, ◌<◌, ℕ, Bool, true, false, List, length, map, Vec, Global, arith}
use Rattle.std.proofs.{lemmas.List.get_or-map, lemmas.List.length-map, lemmas.List.Elements.All-nil}
use Rattle.std.specs.Prelude.{All}
use Rattle.lra_syntax.specs.{Labels.Labelled, Labels.labels_of, Trees.FileTree}
use Rattle.lra_report_build.specs.Crates.lra_program.Sites.{Site, sites_of}
use Rattle.lra_report_build.specs.Crates.{lra_base.AccessVerdicts.reported_view, lra_base.declared.refusals.Place.Place, lra_operations.Agree.IsInlinedTree, lra_operations.Tree.Node}
use Rattle.lra_report_build.specs.Crates.{lra_operations.TreeViews.site_view, lra_program.Assertions.IsAssertion, lra_resolution_spec.LiveNames.globals_named, lra_resolution_spec.Resolve.resolve}
use Rattle.lra_report_build.specs.Crates.lra_operations.declared.tree.Site as code_site
use Rattle.lra_report.specs.{Listing.AreJudged, Listing.AreListed, Listing.Lists, Listing.subjects, Report.Report, Report.Verdict}
use Rattle.lra_report_build.specs.AnalysisResults.{IsComputing, IsAccessing, AreVerdicts, AreFitting, AreAccessVerdicts}
use Rattle.lra_report_build.proofs.Verdicts.{are_there}

-- `found` is what is listed of what was found, by labels and sites
pub lists_by_parts : (t : FileTree) (outside : List (List ℕ)) (ls : List Labelled) (ss : List Site)
    (found : List Labelled → List Site → List Verdict) (r : Report)
    → outside ≡ globals_named t.parts → ls ≡ labels_of t → ss ≡ sites_of (resolve t) → AreListed outside ls 1 ss r.points → r.verdicts ≡ found ls ss
    → (g : Node) → IsInlinedTree (resolve t) g → ((h : Node) → IsInlinedTree (resolve t) h → AreJudged (labels_of t) (subjects r.options h t)
    (found (labels_of t) (sites_of (resolve t)))) → Lists t r
lists_by_parts t outside ls ss found r named labelled sited points verdicts g graph judged = record {
  points =
      subst (λ (xs : List Site). AreListed (globals_named t.parts) (labels_of t) 1 xs r.points) sited
      (subst (λ (xs : List Labelled). AreListed (globals_named t.parts) xs 1 ss r.points) labelled
      (subst (λ (xs : List (List ℕ)). AreListed xs ls 1 ss r.points) named points));
  tree = g;
  is_graph = graph;
  verdicts = λ h also.
      subst (λ (vs : List Verdict). AreJudged (labels_of t) (subjects r.options h t) vs)
      (sym (verdicts ∙ ap (λ (xs : List Labelled). found xs ss) labelled ∙ ap (λ (xs : List Site). found (labels_of t) xs) sited)) (judged h also);
}

-- each verdict is on one of the points
pub verdicts_there : (sites : List code_site.Site) (vs : List (ℕ × Bool)) → AreVerdicts (map site_view sites) vs → All (λ (v : ℕ × Bool). v.0 < length sites) vs
verdicts_there sites vs are =
    are_there (IsAssertion (map site_view sites)) (map site_view sites) vs (length sites)
    (sym (length-map sites site_view)) (λ q (s, there, so). (s, there)) are

pub fitting_there : (sites : List code_site.Site) (b : Bool) (g : Node) (vs : List (ℕ × Bool)) → AreFitting b g (map site_view sites) vs
    → All (λ (v : ℕ × Bool). v.0 < length sites) vs
fitting_there sites true g vs are =
    are_there (IsComputing g (map site_view sites)) (map site_view sites) vs (length sites)
    (sym (length-map sites site_view)) (λ q (s, there, so). (s, there)) are
fitting_there sites false g vs none = subst (All (λ (v : ℕ × Bool). v.0 < length sites)) (sym none) (All-nil (λ (v : ℕ × Bool). v.0 < length sites))

pub inside_there : (sites : List code_site.Site) (g : Node) (vs : List (ℕ × Vec (Place × Bool) Global)) →
    AreAccessVerdicts g (map site_view sites) (map reported_view vs)
    → All (λ (v : ℕ × Vec (Place × Bool) Global). v.0 < length sites) vs
inside_there sites g vs are k d h =
    let there : All (λ (v : ℕ × List (Place × Bool)). v.0 < length sites) (map reported_view vs) =
    are_there (IsAccessing g (map site_view sites)) (map site_view sites) (map reported_view vs) (length sites)
    (sym (length-map sites site_view)) (λ q (s, site, so). (s, site)) are.verdicts in
    subst (λ (v : ℕ × List (Place × Bool)). v.0 < length sites) (get_or-map reported_view vs k d (reported_view d) h)
    (there k (reported_view d) (let long = length-map vs reported_view in omega (arith, long, h)))
