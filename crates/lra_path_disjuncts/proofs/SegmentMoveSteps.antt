-- The disjuncts of a segment's moves, and one change more.
use Rattle.std.proofs.Common.{◌≡◌, ℕ, List, [], ◌∷◌, ◌++◌, ◌<◌, ◌≤◌, ◌+◌, length, map, take, get_or, refl, sym, ap, ◌∙◌, subst}
use Rattle.std.proofs.lemmas.List.{map_more, take_all}
use Rattle.lra_path_disjuncts.specs.Crates.{lra_analysis_spec.Linearization.LinearizedFits, lra_analysis_spec.Linearization.linearized, lra_analysis_spec.declared.linearization.Linearized.Linearized}
use Rattle.lra_path_disjuncts.specs.Crates.{lra_domain.Actions.Action, lra_domain.Moves.Moves, lra_domain.Moves.stay, lra_domain.Moves.first_then}
use Rattle.lra_path_disjuncts.proofs.Crates.lra_analysis_spec.DivisionLemmas.{seen_fits}
use Rattle.lra_program.specs.Program.{Expr}
use Rattle.lra_path_disjuncts.specs.{Disjuncts.disjuncts, Disjuncts.written, SegmentMoves.live_after_steps, SegmentMoves.segment_moves, SegmentMoves.segment_moves_on, StepMoves.dims_after_step}
use Rattle.lra_path_disjuncts.specs.{StepMoves.step_moves, Tables.Grows, Tables.Has, Tables.moves_at, declared.tables.MovesEntry.MovesEntry}
use Rattle.lra_path_segments.specs.{Segments.SegmentStep, Segments.each_then, TreeSegmentViews.move_view, declared.segments.Move.Move}
use Rattle.lra_path_segments.proofs.Lists.{each_then_assoc, each_then_nil}
use Rattle.lra_path_disjuncts.proofs.GuardSteps.{then_has}

-- before them nothing
nil_then : (ys : List (List Action)) → each_then ([] ∷ []) ys ≡ ys
nil_then [] = refl
nil_then (y ∷ ys) = ap (λ w. y ∷ w) (nil_then ys)

on_sides : (p : Moves) (live : ℕ) (ops : List SegmentStep) → disjuncts (segment_moves_on p live ops) ≡ each_then (disjuncts p) (written live ops)
on_sides p live [] = sym (each_then_nil (disjuncts p))
on_sides p live (step ∷ ops) = on_sides (first_then p (step_moves live step)) (dims_after_step step live) ops
    ∙ sym (each_then_assoc (disjuncts p) (disjuncts (step_moves live step)) (written (dims_after_step step live) ops))

pub segment_disjuncts : (live : ℕ) (ops : List SegmentStep) → disjuncts (segment_moves live ops) ≡ written live ops
segment_disjuncts live ops = on_sides stay live ops ∙ nil_then (written live ops)

pub on_more : (p : Moves) (live : ℕ) (ops : List SegmentStep) (step : SegmentStep) → segment_moves_on p live (ops ++ step ∷ [])
    ≡ first_then (segment_moves_on p live ops) (step_moves (live_after_steps live ops) step)
on_more p live [] step = refl
on_more p live (o ∷ ops) step = on_more (first_then p (step_moves live o)) (dims_after_step o live) ops step

pub behind_more : (live : ℕ) (ops : List SegmentStep) (step : SegmentStep) →
    live_after_steps live (ops ++ step ∷ []) ≡ dims_after_step step (live_after_steps live ops)
behind_more live [] step = refl
behind_more live (o ∷ ops) step = behind_more (dims_after_step o live) ops step

-- what is seen of an expression fits
pub seen_so : (live base : ℕ) (e : Expr) (s : Linearized) → s ≡ linearized live base e → LinearizedFits s live
seen_so live base e s is = subst (λ r. LinearizedFits r live) (sym is) (seen_fits live base e)

-- one more of what is done on a segment
module _ (live : ℕ) (xs : List Move) (i : ℕ) (x : Move) (less : i < length xs) (is : x ≡ get_or xs i x) where
  taken : map move_view (take (i + 1) xs) ≡ map move_view (take i xs) ++ move_view x ∷ []
  taken = map_more move_view xs i x less ∙ ap (λ (d : Move). map move_view (take i xs) ++ move_view d ∷ []) (sym is)

  pub alive_on : (n m : ℕ) → n ≡ live_after_steps live (map move_view (take i xs)) → m ≡ dims_after_step (move_view x) n
      → m ≡ live_after_steps live (map move_view (take (i + 1) xs))
  alive_on n m so_far next =
      next ∙ ap (dims_after_step (move_view x)) so_far ∙ sym (behind_more live (map move_view (take i xs)) (move_view x))
      ∙ ap (live_after_steps live) (sym taken)

  pub way_more : (es fs gs : List MovesEntry) (place next new n : ℕ) → n ≡ live_after_steps live (map move_view (take i xs))
      → Has es place (segment_moves live (map move_view (take i xs))) → Grows es fs
      → Has fs next (step_moves n (move_view x)) → Has gs new (first_then (moves_at fs place) (moves_at fs next))
      → Has gs new (segment_moves live (map move_view (take (i + 1) xs)))
  way_more es fs gs place next new n same has grows more led =
      let there = subst (λ k. Has fs next (step_moves k (move_view x))) same more in
      let both = then_has fs gs new place next (segment_moves live (map move_view (take i xs)))
      (step_moves (live_after_steps live (map move_view (take i xs))) (move_view x)) (grows place (segment_moves live (map move_view (take i xs))) has) there
      led in
      subst (λ p. Has gs new p) (sym (ap (segment_moves live) taken ∙ on_more stay live (map move_view (take i xs)) (move_view x))) both

pub way_whole : (es : List MovesEntry) (place live : ℕ) (xs : List Move) (i : ℕ) → length xs ≤ i → Has es place (segment_moves live (map move_view (take i xs)))
    → Has es place (segment_moves live (map move_view xs))
way_whole es place live xs i all has = subst (λ (ys : List Move). Has es place (segment_moves live (map move_view ys))) (take_all i xs all) has
