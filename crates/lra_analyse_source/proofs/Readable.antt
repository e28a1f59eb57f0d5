-- A report that lists a program's points, whose states are of canonical lists with numbers of the range, is given by
-- its text.
use Rattle.std.proofs.Common.{◌≡◌, ℕ, suc, ◌<◌, List, [], ◌∷◌, length, map, Option, Some, None, refl, sym, ap, ◌∙◌, subst, arith}
use Rattle.std.specs.{List.AllByRecursion, Prelude.slice_get, Prelude.option_map}
use Rattle.lra_analyse_source.specs.Crates.lra_report.Report.{Invariant, PointReport, Report}
use Rattle.lra_analyse_source.specs.Crates.lra_report.Spelled.{IsSpelledPart, IsReadablePart, IsReadablePoint, IsSmallFlag, IsReadable}
use Rattle.lra_analyse_source.specs.Crates.{lra_program.Sites.Site, lra_program.Sites.sites_of, lra_report.Listing.HasWidth, lra_report.Listing.AreListed, lra_report.Listing.Lists}
use Rattle.lra_analyse_source.specs.Crates.{lra_resolution_spec.LiveNames.live_names, lra_resolution_spec.LiveNames.globals_named, lra_resolution_spec.Resolve.resolve}
use Rattle.lra_analyse_source.specs.Crates.{lra_resolution_spec.ShownNames.shown_names, lra_syntax.Labels.Labelled, lra_syntax.Labels.labels_of, lra_syntax.Trees.FileTree}
use Rattle.lra_front_end.proofs.Named.{shown_as_many}
use Rattle.lra_options.specs.{declared.options.Domain.Domain, declared.options.Options.Options}
use Rattle.lra_report_build.specs.Canonical.{IsCanonicalState}
use Rattle.lra_analyse_source.specs.SourceReports.{AreCanonical}

state_readable : (n : ℕ) (ps : Invariant) → AllByRecursion IsSpelledPart ps → AllByRecursion (HasWidth n) ps → AllByRecursion (IsReadablePart n) ps
state_readable n [] h w = tt
state_readable n (p ∷ ps) h w = ((w.0, h.0), state_readable n ps h.1 w.1)

point_readable : (n : ℕ) (p : PointReport) → AllByRecursion IsSpelledPart p.state → length p.names ≡ n → AllByRecursion (HasWidth n) p.state → IsReadablePoint p
point_readable n p h long w = state_readable (length p.names) p.state h (subst (λ (m : ℕ). AllByRecursion (HasWidth m) p.state) (sym long) w)

-- as many names are shown as variables live
abbrev NamesAt : List (List ℕ) → List Labelled → Site → Type 0
NamesAt outside ls s = length (shown_names (live_names outside ls s)) ≡ s.live

points_readable : (outside : List (List ℕ)) (ls : List Labelled) (number : ℕ) (ss : List Site) (ps : List PointReport) → AreListed outside ls number ss ps
    → ((k : ℕ) (s : Site) → slice_get ss k ≡ Some s → NamesAt outside ls s) → AllByRecursion (AllByRecursion IsSpelledPart) (map (λ (p : PointReport). p.state) ps) → AllByRecursion IsReadablePoint ps
points_readable o ls n ss [] l f h = tt
points_readable o ls n [] (p ∷ ps) l f h = absurd l
points_readable o ls n (s ∷ ss) (p ∷ ps) l f h =
    (point_readable s.live p h.0 (ap (λ (x : PointReport). length x.names) l.0 ∙ f 0 s refl) l.1, points_readable o ls (suc n) ss ps l.2 (λ k. f (suc k)) h.1)

small_flag : (o : Option ℕ) → ((q : ℕ) → o ≡ Some q → q < 2048) → IsSmallFlag (option_map suc o)
small_flag None low = tt
small_flag (Some q) low = let small = low q refl in omega (arith, small)

pub readable : (t : FileTree) (r : Report) (flagged : Option ℕ) → Lists t r → AllByRecursion (AllByRecursion IsSpelledPart) (map (λ (p : PointReport). p.state) r.points)
    → r.flagged ≡ option_map suc flagged → ((q : ℕ) → flagged ≡ Some q → q < 2048) → IsReadable r
readable t r flagged lists spelled flag low = record {
  points = points_readable (globals_named t.parts) (labels_of t) 1 (sites_of (resolve t)) r.points lists.points (shown_as_many t) spelled;
  flag = subst IsSmallFlag (sym flag) (small_flag flagged low);
}

-- states that are canonical at each point, as many variables as live there
canonical_points : (domain : Domain) (o : List (List ℕ)) (ls : List Labelled) (number : ℕ) (ss : List Site) (ps : List PointReport) → AreListed o ls number ss ps
    → ((k : ℕ) (s : Site) → slice_get ss k ≡ Some s → NamesAt o ls s)
    → ((k : ℕ) (s : Site) (state : Invariant) → slice_get ss k ≡ Some s → slice_get (map (λ (p : PointReport). p.state) ps) k ≡ Some state → IsCanonicalState domain s.live state)
    → AllByRecursion (λ (p : PointReport). IsCanonicalState domain (length p.names) p.state) ps
canonical_points domain o ls n ss [] l f h = tt
canonical_points domain o ls n [] (p ∷ ps) l f h = absurd l
canonical_points domain o ls n (s ∷ ss) (p ∷ ps) l f h = (
  subst (λ (m : ℕ). IsCanonicalState domain m p.state) (sym (ap (λ (x : PointReport). length x.names) l.0 ∙ f 0 s refl)) (h 0 s p.state refl refl),
  canonical_points domain o ls (suc n) ss ps l.2 (λ k. f (suc k)) (λ k. h (suc k)),
)

pub canonical : (options : Options) (t : FileTree) (r : Report) → Lists t r
    → ((k : ℕ) (s : Site) (state : Invariant) → slice_get (sites_of (resolve t)) k ≡ Some s → slice_get (map (λ (p : PointReport). p.state) r.points) k ≡ Some state
    → IsCanonicalState options.domain s.live state) → AreCanonical options r
canonical options t r lists each = canonical_points options.domain (globals_named t.parts) (labels_of t) 1 (sites_of (resolve t)) r.points lists.points (shown_as_many t) each
