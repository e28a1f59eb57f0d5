-- How many points threads have, and how these are numbered.
use Rattle.std.proofs.Common.{◌≡◌, ◌∙◌, ◌≤◌, ◌+◌, ℕ, zero, suc, List, [], ◌∷◌, length, take, refl, sym, ap, subst, arith}
use Rattle.std.proofs.{lemmas.List.length-map, lemmas.List.Sums.sum_by-cons, lemmas.List.Sums.sum_by_more_le, lemmas.Option.get_or_from_slice_get, lemmas.Option.slice_get_within}
use Rattle.std.specs.{List.sum_by, Prelude.Option, Prelude.Some, Prelude.None, Prelude.option_map, Prelude.slice_get}
use Rattle.lra_threads_source.specs.Crates.lra_resolution_spec.Refuse.{greatest_points}
use Rattle.lra_threads_source.specs.Crates.lra_resolution_spec.Threads.{thread_places, thread_program}
use Rattle.lra_threads_source.specs.Crates.{lra_operations.TreeViews.site_view, lra_operations.declared.tree.InlinedProgram.InlinedProgram, lra_program.Sites.sites_of, lra_syntax.Trees.FileTree}
use Rattle.lra_threads_source.specs.{Listed.number_in, Listed.points_before, Listed.thread_place, Stages.AreGraphsOf, Stages.points_in}

-- sums of as many terms that are the same
pub same_sums : {A B : Type 0} (f : A → ℕ) (h : B → ℕ) (xs : List A) (ys : List B) → length xs ≡ length ys
    → ((k : ℕ) (x : A) (y : B) → slice_get xs k ≡ Some x → slice_get ys k ≡ Some y → f x ≡ h y)
    → (n : ℕ) → sum_by f (take n xs) ≡ sum_by h (take n ys)
same_sums f h xs ys long same zero = refl
same_sums f h [] [] long same (suc n) = refl
same_sums f h [] (y ∷ ys) long same (suc n) = absurd (omega (arith, long))
same_sums f h (x ∷ xs) [] long same (suc n) = absurd (omega (arith, long))
same_sums f h (x ∷ xs) (y ∷ ys) long same (suc n) =
    let one = sum_by-cons f x (take n xs) in
    let two = sum_by-cons h y (take n ys) in
    let first = same 0 x y refl refl in
    let rest = same_sums f h xs ys (omega (arith, long)) (λ k a b left right. same (suc k) a b left right) n in
    omega (arith, one, two, first, rest)

-- with all of a thread's points after those of the threads before it
pub sum_before : (graphs : List InlinedProgram) (k : ℕ) (graph : InlinedProgram) → slice_get graphs k ≡ Some graph
    → sum_by points_in (take k graphs) + points_in graph ≤ sum_by points_in graphs
sum_before graphs k graph there =
    subst (λ (g : InlinedProgram). sum_by points_in (take k graphs) + points_in g ≤ sum_by points_in graphs)
    (get_or_from_slice_get graphs k graph graph there)
    (sum_by_more_le points_in graphs k graph (slice_get_within graphs k graph there))

module _ (t : FileTree) (graphs : List InlinedProgram) (are : AreGraphsOf t graphs) where
  place_at : (k place : ℕ) → slice_get (thread_places t) k ≡ Some place → thread_place t k ≡ place
  place_at k place there = get_or_from_slice_get (thread_places t) k place 0 there

  points_at : (k : ℕ) (graph : InlinedProgram) (place : ℕ) → slice_get graphs k ≡ Some graph → slice_get (thread_places t) k ≡ Some place
      → points_in graph ≡ length (sites_of (thread_program t place))
  points_at k graph place one two =
      sym (length-map graph.sites.items site_view) ∙ ap length (are.sites k graph one)
      ∙ ap (λ (p : ℕ). length (sites_of (thread_program t p))) (place_at k place two)

  pub before_same : (k : ℕ) → sum_by points_in (take k graphs) ≡ points_before t k
  before_same = same_sums points_in (λ place. length (sites_of (thread_program t place))) graphs (thread_places t) are.count points_at

  pub few_points : (k : ℕ) (graph : InlinedProgram) → slice_get graphs k ≡ Some graph → sum_by points_in (take k graphs) + points_in graph ≤ greatest_points
  few_points k graph there =
      let one = sum_before graphs k graph there in
      let all = are.few in
      omega (arith, one, all)

  -- the number of a flag
  pub flag_number : (flag : Option (ℕ × ℕ)) → option_map (λ (f : ℕ × ℕ). sum_by points_in (take f.0 graphs) + suc f.1) flag
      ≡ option_map (λ (f : ℕ × ℕ). number_in t f.0 f.1) flag
  flag_number None = refl
  flag_number (Some f) = ap (λ (n : ℕ). Some (n + suc f.1)) (before_same f.0)
