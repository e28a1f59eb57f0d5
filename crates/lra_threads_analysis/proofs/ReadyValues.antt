-- What judging accesses asks of the values that an iteration leaves.
use Rattle.std.proofs.Common.{◌≡◌, ◌∙◌, ◌<◌, ℕ, List, length, get_or, Some, sym, subst, arith}
use Rattle.std.proofs.{lemmas.List.length-map, lemmas.Option.slice_get-get_or, lemmas.Option.slice_get_within, lemmas.Option.get_or_from_slice_get}
use Rattle.std.specs.Prelude.{All, slice_get}
use Rattle.lra_threads_analysis.proofs.Crates.lra_linear_spec.ListPlaces.{also_there}
use Rattle.lra_threads_analysis.specs.Crates.{lra_analysis_spec.LiveLimit.most_live, lra_box.Abstraction.box_abstraction, lra_box.Content.BoxContent, lra_fixpoint.Lives.AreWide}
use Rattle.lra_threads_analysis.specs.Crates.{lra_operations.CheckedOperations.OpAtPoint, lra_operations.TreeViews.site_view, lra_operations.declared.tree.InlinedProgram.InlinedProgram}
use Rattle.lra_threads_analysis.specs.Crates.{lra_overflow_checks.Judged.AreBelow, lra_program.Sites.Site}
use Rattle.lra_threads_analysis.specs.Found.{sites_in}

module _ (graph : InlinedProgram) (values : List BoxContent) (points : length values ≡ length graph.sites.items) where
  pub as_many_sites : length values ≡ length (sites_in graph)
  as_many_sites = points ∙ sym (length-map graph.sites.items site_view)

  pub few_dims : AreWide box_abstraction (sites_in graph) values → All (λ (s : Site). s.live < most_live) (sites_in graph)
      → All (λ (v : BoxContent). box_abstraction.dims v < most_live) values
  few_dims wide few k d h =
      let v = get_or values k d in
      let there : slice_get values k ≡ Some v = slice_get-get_or values k d h in
      let (s, site) = also_there values (sites_in graph) k v (sym as_many_sites) there in
      let low = few k s (slice_get_within (sites_in graph) k s site) in
      let own : s.live < most_live = subst (λ (t : Site). t.live < most_live) (get_or_from_slice_get (sites_in graph) k s s site) low in
      let dims = wide k v there s site in
      omega (arith, dims, own)

  pub all_below : (asked : List OpAtPoint) → AreBelow (length (sites_in graph)) asked → AreBelow (length values) asked
  all_below asked below = subst (λ (n : ℕ). AreBelow n asked) (sym as_many_sites) below
