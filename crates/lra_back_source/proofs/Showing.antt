-- What is shown of values that are as wide as their points.
use Rattle.std.proofs.Common.{◌≡◌, ◌∙◌, ℕ, List, [], ◌∷◌, length, map, ap, sym, subst}
use Rattle.std.proofs.{lemmas.List.length-map, lemmas.Option.slice_get-map}
use Rattle.std.specs.{List.AllByRecursion, Prelude.Some, Prelude.option_map, Prelude.slice_get}
use Rattle.lra_back_source.specs.Crates.lra_report_build.AnalysisResults.{AreInvariants, state_of}
use Rattle.lra_back_source.specs.Crates.{lra_back.BackwardAnalysis.AreWide, lra_front_end.Stages.HasInlinedTree, lra_linear_spec.Polyhedra.Polyhedron, lra_operations.Tree.Node}
use Rattle.lra_back_source.specs.Crates.{lra_options.declared.options.Domain.TheVariants.Poly, lra_poly_domain.Abstraction.polyhedron_abstraction, lra_program.Sites.Site, lra_program.Sites.sites_of}
use Rattle.lra_back_source.specs.Crates.{lra_report_build.Polyhedra.shown_polyhedron, lra_report_build.Shown.AreShown, lra_resolution_spec.LiveNames.globals_named, lra_resolution_spec.Resolve.resolve}
use Rattle.lra_back_source.specs.Crates.{lra_syntax.Labels.Labelled, lra_syntax.Labels.labels_of, lra_syntax.Trees.FileTree}
use Rattle.lra_report.specs.{Listing.AreListed, Listing.HasWidth, Parts.HasSamePoints, Parts.ShowsPart, Report.Invariant, Report.PointReport}
use Rattle.lra_back_source.proofs.Crates.{lra_front_end.Named.shown_as_many, lra_linear_spec.ListPlaces.contains_at}
use Rattle.lra_analyse_source.proofs.{Handing.image_of, Sound.listed_all}
use Rattle.lra_report.specs.Report.{HasSamePointsAt}
use Rattle.lra_back_source.specs.BackReports.{BacksHaveSamePoints, ShowsAtPoints}

-- the states that are listed
pub states_listed : (sites : List Site) (values : List Polyhedron) (states : List Invariant) → AreWide polyhedron_abstraction sites values
    → AreShown polyhedron_abstraction Poly shown_polyhedron values → states ≡ map shown_polyhedron values → AreInvariants sites states
states_listed sites values states wide shown are = record {
  as_many = ap length are ∙ length-map values shown_polyhedron ∙ wide.0;
  wide = λ q s state site there.
      let (v, value, is) = image_of shown_polyhedron values q state (ap (λ (l : List Invariant). slice_get l q) (sym are) ∙ there) in
      subst (λ (x : Invariant). AllByRecursion (HasWidth s.live) x) is
      (subst (λ (n : ℕ). AllByRecursion (HasWidth n) (shown_polyhedron v)) (wide.1 q s v site value).0 (shown v (contains_at values q v value)).wide);
}

-- the value that a point shows
pub value_shown : (values : List Polyhedron) (points : List PointReport) (k : ℕ) (x : PointReport) → map state_of points ≡ map shown_polyhedron values
    → slice_get points k ≡ Some x → (v : Polyhedron) × (slice_get values k ≡ Some v) × (shown_polyhedron v ≡ x.state)
value_shown values points k x are there =
    image_of shown_polyhedron values k x.state
    (ap (λ (l : List Invariant). slice_get l k) (sym are) ∙ slice_get-map state_of points k ∙ ap (option_map state_of) there)

-- parts over polyhedra
pub same_parts : (n : ℕ) (state : Invariant) → AllByRecursion (ShowsPart Poly n) state → AllByRecursion (HasSamePoints n) state
same_parts n [] tell = tt
same_parts n (part ∷ parts) tell = (tell.0.1, same_parts n parts tell.1)

-- rows and generators of each state describe the same points
pub same_points : (t : FileTree) (values : List Polyhedron) (points : List PointReport) → ShowsAtPoints t values points
    → AllByRecursion HasSamePointsAt points
same_points t values points shows =
    listed_all HasSamePointsAt (globals_named t.parts) (labels_of t) 1 (sites_of (resolve t)) points shows.listed
    (λ k s x site there is.
    let (v, value, state) = value_shown values points k x shows.states there in
    let names : length x.names ≡ s.live = ap length is.1 ∙ shown_as_many t k s site in
    let dims = (shows.wide.1 k s v site value).0 in
    subst (λ (st : Invariant). AllByRecursion (HasSamePoints (length x.names)) st) state
    (same_parts (length x.names) (shown_polyhedron v)
    (subst (λ (n : ℕ). AllByRecursion (ShowsPart Poly n) (shown_polyhedron v)) (dims ∙ sym names) (shows.are_shown v (contains_at values k v value)).tell)))

pub backs_same_points : BacksHaveSamePoints
backs_same_points source p r x = same_points x.program.tree x.values r.points x.shows

-- the points of a source as they are listed
pub shows_points : (t : FileTree) (g : Node) (sites : List Site) → HasInlinedTree t g sites → (values : List Polyhedron) (states : List Invariant)
    (points : List PointReport) (names : List (List ℕ)) (labels : List Labelled) → AreWide polyhedron_abstraction sites values
    → AreShown polyhedron_abstraction Poly shown_polyhedron values → states ≡ map shown_polyhedron values → names ≡ globals_named t.parts
    → labels ≡ labels_of t → AreListed names labels 1 sites points → map state_of points ≡ states → ShowsAtPoints t values points
shows_points t g sites has values states points names labels wide shown are named labelled listed same = record {
  wide = subst (λ (T : List Site). AreWide polyhedron_abstraction T values) has.points wide;
  listed = subst (λ (ns : List (List ℕ)). AreListed ns (labels_of t) 1 (sites_of (resolve t)) points) named
      (subst (λ (ls : List Labelled). AreListed names ls 1 (sites_of (resolve t)) points) labelled
      (subst (λ (T : List Site). AreListed names labels 1 T points) has.points listed));
  states = same ∙ are;
  are_shown = shown;
}
