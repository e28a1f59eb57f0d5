-- Paths of trees whose operations fit can be made of what lives at their sources, and leave what lives at their targets.
use Rattle.std.proofs.Common.{◌≡◌, ◌≤◌, ℕ, suc, List, length, Some, true, false, sym, ap, ◌∙◌, subst}
use Rattle.std.proofs.{lemmas.Bool.and_parts, lemmas.Bool.eqb-true, lemmas.List.Elements.All-contains}
use Rattle.std.specs.{List.All, Prelude.nat_eq, Prelude.◌&&◌, Prelude.slice_get}
use Rattle.lra_back_sound.proofs.Crates.lra_linear_spec.Membership.{all_from, filter_from}
use Rattle.lra_back_sound.specs.Crates.lra_path_segments.Segments.{Goal, comes_to, violates, Segment, inside}
use Rattle.lra_back_sound.specs.Crates.lra_paths.Paths.{same_goal, live_of, actions_between_in, next_segments}
use Rattle.lra_back_sound.specs.Crates.{lra_analysis_spec.LiveLimit.most_live, lra_operations.Tree.Node, lra_pass_results.Dimensions.TreeFits, lra_path_disjuncts.Disjuncts.written}
use Rattle.lra_back_sound.specs.Crates.{lra_program.Sites.Site, lra_program.declared.program.GlobalVariable.GlobalVariable}
use Rattle.lra_fixpoint.specs.Lives.{PointsHave}
use Rattle.lra_back.specs.BackwardAnalysis.{PathsFit}
use Rattle.lra_back_sound.proofs.{MadeLists.all_flat, MadeMoves.LeadOn, MadeMoves.StepsFit, MadeMoves.written_lead, FittingSegments.GoalFits, FittingSegments.SegmentFits, FittingSegments.WaysFit, FittingSegments.tree_ways}

goal_is : (goal : Goal) (q : ℕ) → same_goal goal (comes_to q) ≡ true → goal ≡ comes_to q
goal_is (comes_to p) q e = ap comes_to (eqb-true p q e)
goal_is (violates p) q e = absurd (let no : false ≡ true = e in cc)

module _ (globals : List GlobalVariable) (sites : List Site) (g : Node) (ways : WaysFit sites g (length globals)) where
  module _ (p q : ℕ) (s r : Site) (source : slice_get sites p ≡ Some s) (target : slice_get sites q ≡ Some r) where
    abbrev Between : Segment → Type 0
    Between x = StepsFit s.live r.live x.to_goal.ops

    asked : (x : Segment) → (nat_eq x.source p && same_goal x.to_goal.goal (comes_to q)) ≡ true → SegmentFits sites x → Between x
    asked x e fits =
        let both = and_parts (nat_eq x.source p) (same_goal x.to_goal.goal (comes_to q)) e in
        let start : slice_get sites x.source ≡ Some s = ap (slice_get sites) (eqb-true x.source p both.0) ∙ source in
        let there : GoalFits sites s.live (comes_to q) x.to_goal.ops =
        subst (λ (goal : Goal). GoalFits sites s.live goal x.to_goal.ops) (goal_is x.to_goal.goal q both.1) (fits s start) in
        there r target

    next_fit : All Between (next_segments g p (comes_to q))
    next_fit = all_from Between (next_segments g p (comes_to q)) (λ x there.
        let found = filter_from (λ (y : Segment). nat_eq y.source p && same_goal y.to_goal.goal (comes_to q)) (inside g) x there in
        asked x found.1 (All-contains (SegmentFits sites) (inside g) x ways.goes_on found.0))

    lives_there : live_of (slice_get sites p) ≡ s.live
    lives_there = ap live_of source

    leading_fit : All (LeadOn s.live r.live) (actions_between_in globals sites g (suc p) (comes_to q))
    leading_fit = all_flat Between (LeadOn s.live r.live) (λ (x : Segment). written (live_of (slice_get sites p)) x.to_goal.ops)
        (λ x fits. subst (λ n. All (LeadOn s.live r.live) (written n x.to_goal.ops)) (sym lives_there) (written_lead x.to_goal.ops s.live r.live fits))
        (next_segments g p (comes_to q)) next_fit

  all_fit : PathsFit globals sites g
  all_fit p q s r path source target there =
      All-contains (LeadOn s.live r.live) (actions_between_in globals sites g (suc p) (comes_to q)) path (leading_fit p q s r source target) there

pub paths_made : (globals : List GlobalVariable) (sites : List Site) (g : Node) → length globals ≤ most_live → TreeFits g (length globals)
    → PointsHave sites g (length globals) → PathsFit globals sites g
paths_made globals sites g few fits have = all_fit globals sites g (tree_ways sites g (length globals) few fits have)
