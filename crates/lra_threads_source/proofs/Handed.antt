-- What rounds end with, as the listing asks it.
use Rattle.std.proofs.Common.{◌≡◌, ◌∙◌, ◌≤◌, ◌<◌, ◌+◌, ℕ, suc, Bool, true, false, List, [], ◌∷◌, length, map, sym, subst, arith}
use Rattle.std.proofs.{lemmas.List.length-map, lemmas.Option.same_Some}
use Rattle.std.specs.{List.AllByRecursion, Prelude.Some, Prelude.slice_get, Prelude.if◌then◌else◌}
use Rattle.lra_threads_source.specs.Crates.lra_operations.TreeViews.{node_view, site_view}
use Rattle.lra_threads_source.specs.Crates.{lra_analysis_spec.Instrumented.instrumented, lra_base.AccessVerdicts.reported_view, lra_base.declared.refusals.Place.Place, lra_operations.Tree.Node}
use Rattle.lra_threads_source.specs.Crates.{lra_operations.declared.tree.InlinedProgram.InlinedProgram, lra_program.Assertions.assertions_from, lra_program.Program.Program, lra_program.Sites.Site}
use Rattle.lra_threads_source.specs.Crates.{lra_program.declared.program.GlobalVariable.GlobalVariable, lra_threads_fixpoint.Rounds.ThreadsFixpoint}
use Rattle.lra_threads_source.proofs.Crates.lra_linear_spec.ListPlaces.{by_recursion}
use Rattle.lra_threads_analysis.specs.Found.{sites_in, access_verdicts_of, thread_values, verdicts_of}
use Rattle.lra_threads_analysis.specs.{Holding.AllHold, Holding.HoldsInRound, declared.found.ThreadResult.ThreadResult}
use Rattle.lra_threads_source.specs.Stages.{AreOfGraphs, IsOfGraph, points_in}
use Rattle.lra_threads_source.proofs.{FlaggedPoints.answers_low, Following.all_viewed}

-- assertions stand at points
asserting_low : (k n : ℕ) (sites : List Site) → k + length sites ≤ n → AllByRecursion (λ (i : ℕ). i < n) (map (λ (a : ℕ × Site). a.0) (assertions_from k sites))
asserting_low k n [] low = tt
asserting_low k n (s ∷ ss) low = by s.asserts (asserting_low (suc k) n ss (omega (arith, low)))
  where
    by : (b : Bool) → AllByRecursion (λ (i : ℕ). i < n) (map (λ (a : ℕ × Site). a.0) (assertions_from (suc k) ss))
        → AllByRecursion (λ (i : ℕ). i < n) (map (λ (a : ℕ × Site). a.0) (if b then (k, s) ∷ assertions_from (suc k) ss else assertions_from (suc k) ss))
    by true rest = (omega (arith, low), rest)
    by false rest = rest

pub of_graph : (P : Program) (k : ℕ) (graph : InlinedProgram) (g : Node) (end : ThreadsFixpoint ThreadResult) (h : HoldsInRound P k graph g end) →
    IsOfGraph graph h.found
of_graph P k graph g end h =
    let long : length (sites_in graph) ≡ points_in graph = length-map graph.sites.items site_view in
    let (before, judged) = h.inside in
    record {
      wide = h.wide;
      points = h.points;
      assertions =
          all_viewed (λ (i : ℕ). i < points_in graph) (λ (v : ℕ × Bool). v.0) (verdicts_of h.found)
          (subst (AllByRecursion (λ (i : ℕ). i < points_in graph)) (sym h.assertions)
          (asserting_low 0 (points_in graph) (sites_in graph) (omega (arith, long))));
      inside =
          all_viewed (λ (v : ℕ × List (Place × Bool)). v.0 < points_in graph) reported_view h.found.inside.verdicts.items
          (by_recursion (λ (v : ℕ × List (Place × Bool)). v.0 < points_in graph) (access_verdicts_of h.found)
          (λ v among.
          let low = answers_low g (thread_values h.found) before (access_verdicts_of h.found) _ judged v among in
          let many = h.points in
          omega (arith, low, many, long)));
    }

-- of each thread; its own tree is one of these
pub of_graphs : (P : Program) (globals : List GlobalVariable) (graphs : List InlinedProgram) (end : ThreadsFixpoint ThreadResult) → P.globals ≡ globals
    → ((k : ℕ) (h : InlinedProgram) → slice_get graphs k ≡ Some h → (g : Node) × (node_view h.tree ≡ instrumented (length P.globals) g))
    → AllHold globals graphs end → AreOfGraphs graphs end.found
of_graphs P globals graphs end is own holds = record {
  count = holds.count;
  each = λ k graph one there found.
      let (g, opens) = own k graph there in
      let h = holds.each P k graph g is there opens in
      subst (IsOfGraph graph) (same_Some h.found one (sym h.is_found ∙ found)) (of_graph P k graph g end h);
}
