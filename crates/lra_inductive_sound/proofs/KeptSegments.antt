-- Values that keep what is done on a segment, one segment after another.
use Rattle.std.proofs.Common.{◌≡◌, ℕ, List, [], ◌∷◌, ◌++◌, Bool, refl, sym, ap, ◌∙◌, subst, append_assoc, append-nil}
use Rattle.std.specs.List.{Contains}
use Rattle.lra_inductive_sound.proofs.Crates.lra_transfer.OperationWidths.{changes_dims, leaves_dims}
use Rattle.lra_inductive_sound.proofs.Crates.{lra_linear_spec.Membership.contains_head, lra_path_segments.Lists.each_then_has}
use Rattle.lra_inductive_sound.specs.Crates.lra_path_disjuncts.StepMoves.{step_moves, dims_after_step}
use Rattle.lra_inductive_sound.specs.Crates.{lra_analysis_spec.MovesOf.guard, lra_analysis_spec.MovesOf.moves_of, lra_analysis_spec.Operations.lossy_operations, lra_analysis_spec.Pass.OpTransfer}
use Rattle.lra_inductive_sound.specs.Crates.{lra_analysis_spec.Pass.Filters, lra_domain.Abstraction.Abstraction, lra_domain.Actions.Action, lra_domain.declared.Exactness.Exactness}
use Rattle.lra_inductive_sound.specs.Crates.{lra_path_disjuncts.Disjuncts.disjuncts, lra_path_disjuncts.Disjuncts.written, lra_path_disjuncts.SegmentMoves.live_after_steps}
use Rattle.lra_inductive_sound.specs.Crates.{lra_path_segments.Segments.SegmentStep, lra_path_segments.Segments.does, lra_program.Program.Cond, lra_program.Step.Op, lra_program.Step.test}
use Rattle.lra_inductive_sound.specs.{Inductive.Keeps, Inductive.KeptBy, Points.PointsOf, Points.LeadsBy, Points.KeepPoints}
use Rattle.lra_inductive_sound.proofs.{Changes.split_leads, Changes.SidesKeep, Changes.made_keep, Members.one_from, Members.pairs_from}

live_on : (live : ℕ) (a b : List SegmentStep) → live_after_steps live (a ++ b) ≡ live_after_steps (live_after_steps live a) b
live_on live [] b = refl
live_on live (step ∷ a) b = live_on (dims_after_step step live) a b

-- the actions of both are those of the one and then those of the other
written_apart : (live : ℕ) (a b : List SegmentStep) (actions : List Action) → Contains (written live (a ++ b)) actions
    → (i j : List Action) × Contains (written live a) i × Contains (written (live_after_steps live a) b) j × (i ++ j ≡ actions)
written_apart live [] b actions there = ([], actions, contains_head [] [], there, refl)
written_apart live (step ∷ a) b actions there =
    let one = disjuncts (step_moves live step) in
    let rest = dims_after_step step live in
    let (k, l, first, later, same) = pairs_from (λ (x y : List Action). y ++ x) one (written rest (a ++ b)) actions there in
    let (i, j, x, y, is) = written_apart rest a b l later in
    (k ++ i, j, each_then_has one (written rest a) k i first x, y, append_assoc k i j ∙ ap (λ z. k ++ z) is ∙ same)

module _ (V H X : Type 0) (m : Abstraction V H) (o : PointsOf V H X) where
  -- nothing is done, and the second value has the points of the first
  pub at_once : (v w : V) → m.dims w ≡ m.dims v → ((x : X) → o.on v x → o.on w x) → Keeps m o v [] w
  at_once v w wide on = record {
    dims = wide;
    points = λ actions x y there h led.
        let still : y ≡ x = subst (λ (l : List Action). LeadsBy o l x y) (sym (one_from [] actions there)) led in
        on y (subst (λ (z : X). o.on v z) (sym still) h);
  }

  pub itself : (v : V) → Keeps m o v [] v
  itself v = at_once v v refl (λ x h. h)

  pub same_keeps : (v w : V) → w ≡ v → Keeps m o v [] w
  same_keeps v w same = subst (λ (u : V). Keeps m o v [] u) (sym same) (itself v)

  pub keeps_then : (v u w : V) (a b : List SegmentStep) → Keeps m o v a u → Keeps m o u b w → Keeps m o v (a ++ b) w
  keeps_then v u w a b one two = record {
    dims = two.dims ∙ ap (λ (n : ℕ). live_after_steps n b) one.dims ∙ sym (live_on (m.dims v) a b);
    points = λ actions x y there h led.
        let (i, j, first, last, same) = written_apart (m.dims v) a b actions there in
        let (z, to, on) = split_leads V H X o i j x y (subst (λ (l : List Action). LeadsBy o l x y) (sym same) led) in
        two.points j z y (subst (λ (n : ℕ). Contains (written n b) j) (sym one.dims) last) (one.points i x z first h to) on;
  }

  -- and then nothing more is done
  pub keeps_on : (v u w : V) (a : List SegmentStep) → Keeps m o v a u → Keeps m o u [] w → Keeps m o v a w
  keeps_on v u w a one two = subst (λ (l : List SegmentStep). Keeps m o v l w) (append-nil a) (keeps_then v u w a [] one two)

  pub then_by : (v u : V) (a b : List SegmentStep) (among : V → Type 0) → Keeps m o v a u → KeptBy m o u b among → KeptBy m o v (a ++ b) among
  then_by v u a b among one (w, is, two) = (w, is, keeps_then v u w a b one two)

  pub one_step : (step : SegmentStep) (v w : V) → m.dims w ≡ dims_after_step step (m.dims v) → SidesKeep V H X o v (step_moves (m.dims v) step) w
      → Keeps m o v (step ∷ []) w
  one_step step v w wide keep = record {
    dims = wide;
    points = λ actions x y there h led.
        let (i, j, a, b, same) = pairs_from (λ (k l : List Action). l ++ k) (disjuncts (step_moves (m.dims v) step)) ([] ∷ []) actions there in
        let (z, to, on) = split_leads V H X o i j x y (subst (λ (l : List Action). LeadsBy o l x y) (sym same) led) in
        let still : y ≡ z = subst (λ (l : List Action). LeadsBy o l z y) (sym (one_from [] j b)) on in
        subst (λ (u : X). o.on w u) (sym still) (keep i x z a h to);
  }

  module _ (keep : KeepPoints m o) where
    pub change_keeps : (op : Op) (v : V) (e : Exactness) (w : V) → OpTransfer (lossy_operations m) op v e w → Keeps m o v (does op ∷ []) w
    change_keeps op v e w is =
        one_step (does op) v w (changes_dims V H m op v e w is) (made_keep V H X o m keep (moves_of (m.dims v) op) v e w is)

    pub test_keeps : (base : ℕ) (c : Cond) (wanted : Bool) (v : V) (e : Exactness) (w : V) → Filters (lossy_operations m) base c wanted v e w
        → Keeps m o v (does (test base c wanted) ∷ []) w
    test_keeps base c wanted v e w is = one_step (does (test base c wanted)) v w (leaves_dims V H m base c wanted v e w is)
        (made_keep V H X o m keep (guard (m.dims v) base wanted c) v e w is)

    -- a join has the points of both its operands
    pub join_left : (u v : V) (e : Exactness) (w : V) → (lossy_operations m).joined u v e w → Keeps m o u [] w
    join_left u v e w joined = at_once u w joined.2 (λ x h. keep.covered u w joined.0.formed joined.0.left x h)

    pub join_right : (u v : V) (e : Exactness) (w : V) → (lossy_operations m).joined u v e w → Keeps m o v [] w
    join_right u v e w joined = at_once v w (joined.2 ∙ sym joined.1) (λ x h. keep.covered v w joined.0.formed joined.0.right x h)
