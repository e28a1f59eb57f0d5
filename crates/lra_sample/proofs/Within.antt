-- Such sources keep within the limits of points and of variables.
use Rattle.std.proofs.Common.{◌≡◌, ℕ, suc, ◌+◌, ◌*◌, ◌≤◌, false, List, [], ◌∷◌, ◌++◌, None, length, refl, subst, arith}
use Rattle.std.proofs.{lemmas.Bool.Decides.nat_tests, lemmas.List.length-append}
use Rattle.std.specs.Prelude.{⊤, nat_lt}
use Rattle.lra_sample.specs.Crates.lra_program.Sites.{Event, comes, one_call_more, plain_site, live_after_items, items_events, greatest_calls, call_events, events_of}
use Rattle.lra_sample.specs.Crates.{lra_base.declared.refusals.Place.Place, lra_program.Program.Call, lra_resolution_spec.Refuse.greatest_live, lra_resolution_spec.Refuse.greatest_points}
use Rattle.lra_sample.specs.Crates.{lra_resolution_spec.Refuse.limit_fault, lra_resolution_spec.Resolve.resolve_items, lra_resolution_spec.Resolve.resolve, lra_resolution_spec.Scope.Scope}
use Rattle.lra_sample.specs.Crates.{lra_syntax.Functions.functions_of, lra_syntax.Labels.Labelled, lra_syntax.Labels.labels_of, lra_syntax.Trees.FunctionTree, lra_syntax.Trees.ItemsTree}
use Rattle.lra_sample.specs.declared.block.Kind.{Kind}
use Rattle.lra_sample.specs.declared.block.Kind.TheVariants.{Sum, Choice, Count, Input}
use Rattle.lra_sample.proofs.Crates.lra_syntax.Lexemes.{behind, item_place}
use Rattle.lra_sample.proofs.{Lines.Line, Lines.items_of, Lines.tree_as, Numerals.four, Whole.four_declared, Whole.head_items, Whole.lines_tree, Whole.last_tree, Whole.file_tree}

-- at each point few variables live, and no call is one too many
abbrev AreSmall : List Event → Type 0
AreSmall [] = ⊤
AreSmall (comes s ∷ es) = (nat_lt greatest_live s.live ≡ false) × AreSmall es
AreSmall (one_call_more at ∷ es) = ⊥

small_append : (es fs : List Event) → AreSmall es → AreSmall fs → AreSmall (es ++ fs)
small_append [] fs g h = h
small_append (comes s ∷ es) fs g h = (g.0, small_append es fs g.1 h)
small_append (one_call_more at ∷ es) fs g h = g

not_above : (a b : ℕ) → a ≤ b → nat_lt b a ≡ false
not_above a b l = grind (arith, nat_tests)

within_limits : (es : List Event) (labels : List Labelled) (n : ℕ) → AreSmall es → n + length es ≤ greatest_points →
    limit_fault labels n es ≡ None
within_limits [] labels n g l = refl
within_limits (comes s ∷ es) labels n g l =
    rw (g.0, not_above (suc n) greatest_points (omega (arith, l)))
    (within_limits es labels (suc n) g.1 (omega (arith, l)))
within_limits (one_call_more at ∷ es) labels n g l = absurd g

-- so many points at most
record Few (k : ℕ) (es : List Event) : Type 0 where
  small : AreSmall es
  few : length es ≤ k

-- the points of items after the four declarations
module _ (inside : List ℕ → ℕ → Call → List Event) (F : List FunctionTree) (s : Scope) where
  abbrev points : ℕ → ItemsTree → List Event
  points n items = items_events inside [] 4 (resolve_items F s n items)

  line_few : (k : Kind) (l : Line) (at : ℕ → Place) (rest : ItemsTree) (m n : ℕ) → ((n : ℕ) → Few m (points n rest)) →
      Few (m + 3) (points n (tree_as k l at rest))
  line_few Sum l at rest m n r = record { small = (refl, (r (n + 1)).small); few = omega (arith, (r (n + 1)).few) }
  line_few Choice l at rest m n r = record {
    small = (refl, (refl, (refl, (r (n + 3)).small)));
    few = omega (arith, (r (n + 3)).few);
  }
  line_few Count l at rest m n r = record {
    small = (refl, (refl, (refl, (r (n + 1 + 2)).small)));
    few = omega (arith, (r (n + 1 + 2)).few);
  }
  line_few Input l at rest m n r = record {
    small = (refl, (refl, (r (n + 1 + 1)).small));
    few = omega (arith, (r (n + 1 + 1)).few);
  }

  lines_few : (ls : List Line) (before : List ℕ) (n : ℕ) →
      Few (1 + 3 * length ls) (points n (lines_tree before ls last_tree))
  lines_few [] before n = record { small = (refl, tt); few = omega arith }
  lines_few (l ∷ ls) before n =
      subst (λ (m : ℕ). Few m (points n (lines_tree before (l ∷ ls) last_tree)))
      (let same : 1 + 3 * length ls + 3 ≡ 1 + 3 * suc (length ls) = omega arith in same)
      (line_few l.kind l (item_place before (items_of l)) (lines_tree (behind before (items_of l)) ls last_tree)
      (1 + 3 * length ls) n (λ k. lines_few ls (behind before (items_of l)) k))

  -- no line declares a variable
  line_lives : (k : Kind) (l : Line) (at : ℕ → Place) (rest : ItemsTree) →
      ((n : ℕ) → live_after_items 4 (resolve_items F s n rest) ≡ 4) →
      (n : ℕ) → live_after_items 4 (resolve_items F s n (tree_as k l at rest)) ≡ 4
  line_lives Sum l at rest r n = r (n + 1)
  line_lives Choice l at rest r n = r (n + 3)
  line_lives Count l at rest r n = r (n + 1 + 2)
  line_lives Input l at rest r n = r (n + 1 + 1)

  lines_live : (ls : List Line) (before : List ℕ) (n : ℕ) →
      live_after_items 4 (resolve_items F s n (lines_tree before ls last_tree)) ≡ 4
  lines_live [] before n = refl
  lines_live (l ∷ ls) before n = line_lives l.kind l (item_place before (items_of l))
      (lines_tree (behind before (items_of l)) ls last_tree) (lines_live ls (behind before (items_of l))) n

-- four declarations, the lines, the assertion and the end
whole_few : (source : List ℕ) (ls : List Line) → Few (6 + 3 * length ls) (events_of (resolve (file_tree source ls)))
whole_few source ls =
    let t = file_tree source ls in
    let inside = call_events (resolve t) greatest_calls in
    let before = behind (behind [] head_items) (four_declared []) in
    let body = points inside (functions_of t) four 5 (lines_tree before ls last_tree) in
    let end = plain_site [] (resolve t).main.end (live_after_items 4
    (resolve_items (functions_of t) four 5 (lines_tree before ls last_tree))) in
    let l = lines_few inside (functions_of t) four ls before 5 in
    record {
      small = (
        refl,
        (
          refl,
          (
            refl,
            (
              refl,
              small_append body (end ∷ []) l.small
                  (rw (lines_live inside (functions_of t) four ls before 5) refl, tt),
            ),
          ),
        ),
      );
      few = omega (arith, l.few, length-append body (end ∷ []));
    }

pub within : (source : List ℕ) (ls : List Line) → length ls ≤ 400 →
    limit_fault (labels_of (file_tree source ls)) 0 (events_of (resolve (file_tree source ls))) ≡ None
within source ls l =
    let f = whole_few source ls in
    within_limits (events_of (resolve (file_tree source ls))) (labels_of (file_tree source ls)) 0 f.small
    (omega (arith, l, f.few))
