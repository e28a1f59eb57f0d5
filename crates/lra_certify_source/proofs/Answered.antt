-- What an iteration over polyhedra that isn't narrowed hands to the lines of a certificate, and what its report and these make.
use Rattle.std.proofs.Common.{◌≡◌, ◌∙◌, ◌<◌, ◌++◌, ◌^◌, ℕ, ℤ, Bool, false, List, String, length, map, refl, ap, sym, subst, arith}
use Rattle.std.proofs.{lemmas.List.length-map, lemmas.Option.slice_get_within}
use Rattle.std.specs.Prelude.{Option, Some, Result, Ok, Err, IfOk, IfErr, OnOk, slice_get, string_bytes}
use Rattle.std.specs.{List.All, List.AllByRecursion, declared.alloc.Global.Global}
use Rattle.lra_certify_source.specs.Crates.{lra_analysis_spec.Operations.lossy_operations, lra_analysis_spec.Plan.plan_of, lra_certificate_spec.CertificateText.head_text}
use Rattle.lra_certify_source.specs.Crates.{lra_certificate_spec.Claims.IsProgram, lra_certificate_spec.Judged.RowsAtPoint, lra_fixpoint.Solved.IsSolved, lra_front_end.Stages.HasTree}
use Rattle.lra_certify_source.specs.Crates.{lra_front_end.Stages.HasInlinedTree, lra_front_end.Stages.HasConstants, lra_linear_spec.Polyhedra.Polyhedron, lra_linear_spec.Polyhedra.IsPolyhedron}
use Rattle.lra_certify_source.specs.Crates.{lra_linear_spec.declared.ConKind.ConKind, lra_operations.Tree.Node, lra_operations.TreeViews.site_view, lra_paths.Paths.AreFewPaths}
use Rattle.lra_certify_source.specs.Crates.{lra_paths.Paths.live_of, lra_poly_domain.Abstraction.polyhedron_abstraction, lra_poly_domain.Laws.polyhedron_laws, lra_program.Program.Program}
use Rattle.lra_certify_source.specs.Crates.{lra_program.Sites.Site, lra_program.Sites.sites_of, lra_report_build.Polyhedra.shown_polyhedron, lra_resolution_spec.Resolve.resolve}
use Rattle.lra_certify_source.specs.Crates.{lra_syntax.Trees.FileTree, lra_systems.LinearSystems.LinearSystem, lra_verify.PointViews.HaveDims, lra_verify.PointViews.state_view}
use Rattle.lra_certify_source.specs.Crates.lra_operations.declared.tree.Site as declared
use Rattle.lra_certify_source.proofs.Crates.{lra_fixpoint.Counting.iteration_fails_once, lra_linear_spec.ListPlaces.there_within, lra_verify.VerifySteps.live_few}
use Rattle.lra_report.specs.Report.{Report}
use Rattle.lra_inductive_sound.specs.{Inductive.AreInductive, Inductive.AreWide, Inductive.FailOnce, RationalPoints.rational_points}
use Rattle.lra_inductive_sound.proofs.RationalPoints.{polyhedra_closed}
use Rattle.lra_certify.specs.{Certified.AreListable, Certified.IsCertified, Certified.IsFailure, InductiveRows.AreInductiveRows, declared.failures.CertifyFailure.CertifyFailure}
use Rattle.lra_certify.specs.declared.failures.CertifyFailure.TheVariants as of_paths
use Rattle.lra_analyse_source.specs.{SourceReports.IsAnalysisReport, Stages.IsReportOfTree, Stages.ReportsSolution}
use Rattle.lra_analyse_source.proofs.{Handing.as_many, Handing.of_assertions, Handing.value_dims, Numbering.numbered, ReportSteps.few_points, StageSteps.is_answered}
use Rattle.lra_certify_source.specs.Certified.{IsHanded, IsCertificateOf, IsCertifyRefusalOf, HasSmallPoint}
use Rattle.lra_certify_source.specs.{Extraction.state_by, Extraction.dims_by, Extraction.dims_in, Extraction.proved_in, Refusals.IfRefusal, Refusals.error_by, Settings.certify_options}
use Rattle.lra_certify_source.proofs.{ClosedPaths.paths_stay, Listing.listable, Listing.shows_rows, TakenSteps.taken_dims, Written.stops_there, Written.counted}

-- ---- the program
-- few variables live at each point
pub live_small : (t : FileTree) (g : Node) (sites : List declared.Site) → HasInlinedTree t g (map site_view sites) → All (λ s. s.live < 2 ^ 31) sites
live_small t g sites has = live_few sites (sites_of (resolve t)) has.points has.few

pub many_small : (t : FileTree) (g : Node) (sites : List declared.Site) → HasInlinedTree t g (map site_view sites) → length sites < 2 ^ 31
many_small t g sites has =
    let few = few_points t g (map site_view sites) has in
    let same = length-map sites site_view in
    omega (arith, few, same)

pub sites_are : (t : FileTree) (g : Node) (sites : List Site) (P : Program) → HasInlinedTree t g sites → P ≡ resolve t → sites ≡ sites_of P
sites_are t g sites P has is = has.points ∙ ap sites_of (sym is)

-- ---- what the iteration hands over
module _ (t : FileTree) (g : Node) (sites : List Site) (has : HasInlinedTree t g sites) (constants : List ℤ) (values : List Polyhedron)
    (verdicts : List (ℕ × Bool)) (flagged : Option ℕ)
    (solved : IsSolved polyhedron_abstraction (plan_of certify_options constants) (resolve t) g values verdicts flagged) where
  many : length values ≡ length (sites_of (resolve t))
  many = as_many polyhedron_abstraction (plan_of certify_options constants) (resolve t) g solved.result values verdicts flagged has.is_graph solved.derived
      solved.solves

  wide : AreWide polyhedron_abstraction (resolve t) values
  wide p v there s site =
      value_dims polyhedron_abstraction (plan_of certify_options constants) (resolve t) g solved.result values verdicts flagged has.is_graph solved.derived
      solved.solves polyhedron_laws p v s there site

  once : FailOnce solved.result
  once = iteration_fails_once (lossy_operations polyhedron_abstraction) (plan_of certify_options constants) (resolve t) g solved.result
      (numbered (resolve t) g has.is_graph) solved.derived

  closed : AreInductive rational_points (resolve t) g values verdicts
  closed = polyhedra_closed (plan_of certify_options constants) (resolve t) g solved.result values verdicts flagged refl solved.derived solved.solves wide
      once

  as_long : (states : List (Option (LinearSystem ConKind))) → map state_view states ≡ map state_by values → length states ≡ length values
  as_long states same = sym (length-map states state_view) ∙ ap length same ∙ length-map values state_by

  pub states_many : (states : List (Option (LinearSystem ConKind))) → map state_view states ≡ map state_by values → length states ≡ length sites
  states_many states same = as_long states same ∙ many ∙ sym (ap length has.points)

  pub listed : AreListable (sites_of (resolve t)) (proved_in verdicts)
  listed = listable (sites_of (resolve t)) verdicts solved.solves.in_order
      (of_assertions polyhedron_abstraction (plan_of certify_options constants) (resolve t) g solved.result values verdicts flagged has.is_graph solved.derived
      solved.solves)

  pub stay : AllByRecursion IsPolyhedron values → AreInductiveRows (resolve t) g (map state_by values) (proved_in verdicts)
  stay canonical = paths_stay (resolve t) g values verdicts closed wide many canonical

  pub have_dims : (states : List (Option (LinearSystem ConKind))) → map dims_in states ≡ map dims_by values → HaveDims sites states
  have_dims states same q rows there =
      let low = slice_get_within states q (Some rows) there in
      let long : length states ≡ length values = sym (length-map states dims_in) ∙ ap length same ∙ length-map values dims_by in
      let (v, value) = there_within values q (omega (arith, low, long)) in
      let points = ap length has.points in
      let (s, site) = there_within sites q (omega (arith, low, long, many, points)) in
      taken_dims states values q rows v same there value
      ∙ wide q v value s (ap (λ (l : List Site). slice_get l q) (sym has.points) ∙ site)
      ∙ sym (ap live_of site)

-- what is reported about lines by states and assertions that are the same, of a program that is the same
module _ (P Q : Program) (g : Node) (is : P ≡ Q) where
  pub few_so : {X E : Type 0} (r : Result X E) → OnOk r (AreFewPaths P g) → OnOk r (AreFewPaths Q g)
  few_so (Ok x) h = subst (λ (p : Program). AreFewPaths p g) is h
  few_so (Err e) h = tt

module _ (P Q : Program) (g : Node) (seen states : List RowsAtPoint) (listed_now proved : List ℕ) (is : P ≡ Q) (of_states : seen ≡ states)
    (of_proved : listed_now ≡ proved) where
  same_lines : (Said : Program → List RowsAtPoint → List ℕ → Type 0) → Said P seen listed_now → Said Q states proved
  same_lines Said h =
      subst (λ (p : Program). Said p states proved) is
      (subst (λ (ss : List RowsAtPoint). Said P ss proved) of_states (subst (λ (qs : List ℕ). Said P seen qs) of_proved h))

  pub asked_so : (Said : Program → List RowsAtPoint → List ℕ → Type 0) → Said Q states proved → Said P seen listed_now
  asked_so Said h =
      subst (λ (p : Program). Said p seen listed_now) (sym is)
      (subst (λ (ss : List RowsAtPoint). Said Q ss listed_now) (sym of_states) (subst (λ (qs : List ℕ). Said Q states qs) (sym of_proved) h))

  pub written_so : {E : Type 0} (r : Result (String Global) E) → IfOk r (λ text. IsCertified P g seen listed_now (string_bytes text))
      → IfOk r (λ text. IsCertified Q g states proved (string_bytes text))
  written_so (Ok text) h = same_lines (λ p ss qs. IsCertified p g ss qs (string_bytes text)) h
  written_so (Err e) h = tt

  pub failed_so : {X : Type 0} (r : Result X CertifyFailure) → IfErr r (IsFailure P g seen listed_now) → IfErr r (IsFailure Q g states proved)
  failed_so (Ok x) h = tt
  failed_so (Err e) h = same_lines (λ p ss qs. IsFailure p g ss qs e) h

-- ---- answers
module _ (source : List ℕ) (t : FileTree) (g : Node) (sites : List Site) (read : HasTree source t) (has : HasInlinedTree t g sites) where
  abbrev program : IsProgram source
  program = record { tree = t; read = read; operations = g; sites = sites; graph = has }

  pub answered : (constants : List ℤ) (r : Report) → HasConstants source constants →
      IsReportOfTree polyhedron_abstraction shown_polyhedron certify_options constants t r
      → IsAnalysisReport certify_options source r
  answered constants r own told =
      let a = is_answered polyhedron_abstraction polyhedron_laws shown_polyhedron certify_options constants source t r read own told (omega arith) in
      record { report = a.report; constants = a.constants; own = a.own; analysed = a.analysed; canonical = a.canonical; readable = a.readable }

  module _ (values : List Polyhedron) (verdicts : List (ℕ × Bool)) (r : Report) (tells : ReportsSolution shown_polyhedron false values verdicts r) where
    abbrev handed : AreFewPaths (resolve t) g → IsHanded source r (map state_by values) (proved_in verdicts)
    handed few = record { program = program; few = few; shows = shows_rows values verdicts r tells }

    pub written : (body bytes : List ℕ) → AreFewPaths (resolve t) g → IsCertified (resolve t) g (map state_by values) (proved_in verdicts) body
        → bytes ≡ head_text source ++ body → IsCertificateOf source r bytes
    written body bytes few certified text =
        record { states = map state_by values; proved = proved_in verdicts; handed = handed few; body = body; certified = certified; text = text }

    pub refused : (e : CertifyFailure) → IsAnalysisReport certify_options source r → IsFailure (resolve t) g (map state_by values) (proved_in verdicts) e
        → IfRefusal (IsCertifyRefusalOf source) (error_by e)
    refused (of_paths.TooMany p) answer many = (program, many)
    refused (of_paths.Strained at) answer (few, stops) = (
      r,
      record { answered = answer; states = map state_by values; proved = proved_in verdicts; handed = handed few; stops = stops },
    )
    refused of_paths.Memory answer none = tt

  pub counts : (states : List _) (proved : List ℕ) (e : CertifyFailure) → AreListable (sites_of (resolve t)) proved → IsFailure (resolve t) g states proved e
      → IfRefusal HasSmallPoint (error_by e)
  counts states proved (of_paths.TooMany p) listable many = tt
  counts states proved (of_paths.Strained at) listable (few, stops) =
      counted at (length (sites_of (resolve t))) (let n = few_points t g sites has in let points = ap length has.points in omega (arith, n, points))
      (stops_there (resolve t) g states proved at listable stops)
  counts states proved of_paths.Memory listable none = tt
