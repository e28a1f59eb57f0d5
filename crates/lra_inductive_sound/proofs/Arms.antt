-- The arms of a `switch`: those after a label, from the value that comes in there.
use Rattle.std.proofs.Common.{◌≡◌, ℕ, List, [], ◌∷◌, map, Option, Some, None, Bool, true, false, inl, inr, refl, sym, subst}
use Rattle.std.proofs.{lemmas.List.Elements.Contains-append_cases, lemmas.Option.same_Some, lemmas.Option.none-some}
use Rattle.std.specs.List.{Contains}
use Rattle.lra_inductive_sound.proofs.Crates.lra_linear_spec.Membership.{contains_none, map_from}
use Rattle.lra_inductive_sound.proofs.Crates.{lra_analysis_spec.Sound.right_jump, lra_transfer.OperationWidths.value_dims}
use Rattle.lra_inductive_sound.specs.Crates.lra_analysis_spec.Pass.{PassResult, goes_on, in_turn, MatchesNone, Enters, JoinsRunning, ComesOut}
use Rattle.lra_inductive_sound.specs.Crates.lra_base.declared.case_labels.CaseLabel.TheVariants.{Case, Default}
use Rattle.lra_inductive_sound.specs.Crates.lra_operations.Tree.{Completion, normal, jump, Node, Arms, no_arms, entry, arm}
use Rattle.lra_inductive_sound.specs.Crates.lra_path_segments.Segments.{SegmentStep, goes, GoalSegment, Segment, Suffix, through, enter, exit_suffixes, inside, prepend_step, prepend_step_to_goal}
use Rattle.lra_inductive_sound.specs.Crates.lra_path_segments.Segments.{through_arms, through_labels, enter_arms, enter_labels, arms_exit_suffixes, inside_arms}
use Rattle.lra_inductive_sound.specs.Crates.{lra_analysis_spec.MovesOf.value_moves, lra_analysis_spec.Operations.lossy_operations, lra_base.declared.case_labels.CaseLabel.CaseLabel}
use Rattle.lra_inductive_sound.specs.Crates.{lra_domain.Abstraction.Abstraction, lra_domain.declared.Exactness.Exactness, lra_program.Program.Expr}
use Rattle.lra_inductive_sound.specs.Inductive.{Keeps, KeptBy, KeptFrom, IsExitValue, IsGoalValue, IsInductiveThrough}
use Rattle.lra_inductive_sound.specs.Points.{PointsOf, KeepPoints}
use Rattle.lra_inductive_sound.proofs.Sequences.{Closes, through_both, outs_both, tree_closes, both_close}
use Rattle.lra_inductive_sound.proofs.KeptSegments.{same_keeps, keeps_then, then_by, one_step, join_left, join_right}
use Rattle.lra_inductive_sound.proofs.{Changes.made_keep, Changes.none_keep, Changes.none_dims, Members.one_from, Parts.right_part, Parts.among_more, Parts.met_more}

module _ (V H X : Type 0) (m : Abstraction V H) (o : PointsOf V H X) where
  -- Arms of a `switch` to whose labels the steps go from the value v; what has no match is `other`, and `running` is what
  -- runs before these arms.
  pub record AreArmsClosed (go : CaseLabel → SegmentStep) (d : Bool) (v other : V) (arms : Arms) (running : Option V) (r : PassResult V) : Type 0 where
    pub passes : (u : V) → running ≡ Some u → (h : Completion) (ops : List SegmentStep) → Contains (through_arms arms h) ops →
        KeptBy m o u ops (IsExitValue r h)
    pub enters : (u : V) → running ≡ Some u → (way : GoalSegment) → Contains (enter_arms arms) way → KeptBy m o u way.ops (IsGoalValue r way.goal)
    pub labels_pass : (h : Completion) (ops : List SegmentStep) → Contains (through_labels go arms h) ops → KeptBy m o v ops (IsExitValue r h)
    pub labels_enter : (way : GoalSegment) → Contains (enter_labels go arms) way → KeptBy m o v way.ops (IsGoalValue r way.goal)
    pub leaves : (h : Completion) (s : Suffix) → Contains (arms_exit_suffixes arms h) s → KeptFrom m o r s.source s.ops (IsExitValue r h)
    pub goes_in : (s : Segment) → Contains (inside_arms arms) s → KeptFrom m o r s.source s.to_goal.ops (IsGoalValue r s.to_goal.goal)
    pub past : d ≡ false → Keeps m o other [] r.normal

  module _ (keep : KeepPoints m o) where
    -- what comes in at a label
    pub label_keeps : (base : ℕ) (e : Expr) (labels : List CaseLabel) (l : CaseLabel) (v other : V) (c x : Exactness) (u : V)
        → MatchesNone (lossy_operations m) base e labels v c other → Enters (lossy_operations m) base e l v other x u →
        Keeps m o v (goes base e labels l ∷ []) u
    label_keeps base e labels (Case z) v other c x u none is =
        one_step V H X m o (goes base e labels (Case z)) v u (value_dims V H m base e z true v x u is)
        (made_keep V H X o m keep (value_moves (m.dims v) base true e z) v x u is)
    label_keeps base e labels Default v other c x u none (same, exact) =
        subst (λ (w : V). Keeps m o v (goes base e labels Default ∷ []) w) (sym same)
        (one_step V H X m o (goes base e labels Default) v other (none_dims V H X o m keep base e labels v c other none)
        (none_keep V H X o m keep base e labels v c other none (m.dims v) refl))

    enters_keep : (run : Option V) (u : V) (y : Exactness) (w : V) → JoinsRunning (lossy_operations m) run u y w → Keeps m o u [] w
    enters_keep None u y w (same, exact) = same_keeps V H X m o u w same
    enters_keep (Some running) u y w joined = join_right V H X m o keep running u y w joined

    runs_keep : (run : Option V) (u : V) (y : Exactness) (w : V) → JoinsRunning (lossy_operations m) run u y w → (t : V) → run ≡ Some t → Keeps m o t [] w
    runs_keep None u y w is t some = absurd (none-some t some)
    runs_keep (Some running) u y w joined t some =
        subst (λ (x : V). Keeps m o x [] w) (same_Some running t some) (join_left V H X m o keep running u y w joined)

    out_runs : (d : Bool) (run : Option V) (other : V) (x : Exactness) (w : V) → ComesOut (lossy_operations m) d run other x w → (t : V) → run ≡ Some t
        → Keeps m o t [] w
    out_runs true None other x w is t some = absurd (none-some t some)
    out_runs false None other x w is t some = absurd (none-some t some)
    out_runs true (Some running) other x w (same, exact) t some =
        subst (λ (y : V). Keeps m o y [] w) (same_Some running t some) (same_keeps V H X m o running w same)
    out_runs false (Some running) other x w joined t some =
        subst (λ (y : V). Keeps m o y [] w) (same_Some running t some) (join_left V H X m o keep running other x w joined)

    out_past : (d : Bool) (run : Option V) (other : V) (x : Exactness) (w : V) → ComesOut (lossy_operations m) d run other x w → d ≡ false
        → Keeps m o other [] w
    out_past true None other x w (same, exact) none = same_keeps V H X m o other w same
    out_past false None other x w (same, exact) none = same_keeps V H X m o other w same
    out_past true (Some running) other x w is none = absurd (let no : true ≡ false = none in cc)
    out_past false (Some running) other x w joined none = join_right V H X m o keep running other x w joined

    -- after the last arm
    pub arms_end : (go : CaseLabel → SegmentStep) (d : Bool) (v other : V) (run : Option V) (x : Exactness) (w : V) (f : Option ℕ)
        → ComesOut (lossy_operations m) d run other x w → AreArmsClosed go d v other no_arms run (goes_on [] w f)
    arms_end go d v other run x w f out = record {
      passes = passes;
      enters = λ u some way there. absurd (contains_none way there);
      labels_pass = λ h ops there. absurd (contains_none ops there);
      labels_enter = λ way there. absurd (contains_none way there);
      leaves = λ h s there. absurd (contains_none s there);
      goes_in = λ s there. absurd (contains_none s there);
      past = out_past d run other x w out;
    }
      where
        passes : (u : V) → run ≡ Some u → (h : Completion) (ops : List SegmentStep) → Contains (through_arms no_arms h) ops →
            KeptBy m o u ops (IsExitValue (goes_on [] w f) h)
        passes u some normal ops there =
            subst (λ (l : List SegmentStep). KeptBy m o u l (λ y. y ≡ w)) (one_from [] ops there) (w, refl, out_runs d run other x w out u some)
        passes u some (jump j) ops there = absurd (contains_none ops there)

    -- after a label
    pub arms_labelled : (go : CaseLabel → SegmentStep) (d : Bool) (v other : V) (l : CaseLabel) (arms : Arms) (run : Option V) (u w : V) (y : Exactness)
        (r : PassResult V)
        → Keeps m o v (go l ∷ []) u → JoinsRunning (lossy_operations m) run u y w → AreArmsClosed go d v other arms (Some w) r
        → AreArmsClosed go d v other (entry l arms) run r
    arms_labelled go d v other l arms run u w y r comes joins i = record {
      passes = λ t some h ops there. then_by V H X m o t w [] ops (IsExitValue r h) (runs_keep run u y w joins t some) (i.passes w refl h ops there);
      enters = λ t some way there.
          then_by V H X m o t w [] way.ops (IsGoalValue r way.goal) (runs_keep run u y w joins t some) (i.enters w refl way there);
      labels_pass = λ h ops there. elim (Contains-append_cases (map (prepend_step (go l)) (through_arms arms h)) (through_labels go arms h) ops there) [
        | inl here ↦
            let (x, k, same) = map_from (prepend_step (go l)) (through_arms arms h) ops here in
            subst (λ (z : List SegmentStep). KeptBy m o v z (IsExitValue r h)) same
            (then_by V H X m o v w (go l ∷ []) x (IsExitValue r h) into (i.passes w refl h x k))
        | inr later ↦ i.labels_pass h ops later
      ];
      labels_enter = λ way there. elim (Contains-append_cases (map (prepend_step_to_goal (go l)) (enter_arms arms)) (enter_labels go arms) way there) [
        | inl here ↦
            let (x, k, same) = map_from (prepend_step_to_goal (go l)) (enter_arms arms) way here in
            subst (λ (z : GoalSegment). KeptBy m o v z.ops (IsGoalValue r z.goal)) same
            (then_by V H X m o v w (go l ∷ []) x.ops (IsGoalValue r x.goal) into (i.enters w refl x k))
        | inr later ↦ i.labels_enter way later
      ];
      leaves = i.leaves;
      goes_in = i.goes_in;
      past = i.past;
    }
      where
        into : Keeps m o v (go l ∷ []) w
        into = keeps_then V H X m o v u w (go l ∷ []) [] comes (enters_keep run u y w joins)

    -- a tree and then the arms after it
    module _ (go : CaseLabel → SegmentStep) (d : Bool) (v other : V) (a : Node) (arms : Arms) (run : Option V) (w : V) (s t : PassResult V)
        (runs : (u : V) → run ≡ Some u → w ≡ u) (i : IsInductiveThrough m o a w s) (j : AreArmsClosed go d v other arms (Some s.normal) t) where
      abbrev whole : PassResult V
      whole = in_turn s t t.normal t.flag

      both : Closes V H X m o (through_both (through a) (through_arms arms)) (enter_arms (arm a arms))
          (outs_both (exit_suffixes a) (through_arms arms) (arms_exit_suffixes arms))
          (inside_arms (arm a arms)) w whole
      both = both_close V H X m o (through a) (through_arms arms) (enter a) (enter_arms arms) (exit_suffixes a) (arms_exit_suffixes arms) (inside a)
          (inside_arms arms) w s t
          (tree_closes V H X m o a w s i)
          (record { passes = j.passes s.normal refl; enters = j.enters s.normal refl; leaves = j.leaves; goes = j.goes_in })

      from_run : (u : V) → run ≡ Some u → (ops : List SegmentStep) (among : V → Type 0) → KeptBy m o w ops among → KeptBy m o u ops among
      from_run u some ops among k = subst (λ (y : V). KeptBy m o y ops among) (runs u some) k

      later : (h : Completion) (u : V) → IsExitValue t h u → IsExitValue whole h u
      later normal u is = is
      later (jump k) u is = right_jump k s t t.normal t.flag u is

      passes : (h : Completion) (ops : List SegmentStep) → Contains (through_arms (arm a arms) h) ops → KeptBy m o w ops (IsExitValue whole h)
      passes normal ops there = both.passes normal ops there
      passes (jump k) ops there = both.passes (jump k) ops there

      leaves : (h : Completion) (x : Suffix) → Contains (arms_exit_suffixes (arm a arms) h) x → KeptFrom m o whole x.source x.ops (IsExitValue whole h)
      leaves normal x there = both.leaves normal x there
      leaves (jump k) x there = both.leaves (jump k) x there

      pub arms_behind : AreArmsClosed go d v other (arm a arms) run whole
      arms_behind = record {
        passes = λ u some h ops there. from_run u some ops (IsExitValue whole h) (passes h ops there);
        enters = λ u some way there. from_run u some way.ops (IsGoalValue whole way.goal) (both.enters way there);
        labels_pass = λ h ops there. among_more V H X m o v ops (IsExitValue t h) (IsExitValue whole h) (later h) (j.labels_pass h ops there);
        labels_enter = λ way there. met_more V H X m o t whole (right_part s t t.normal t.flag) v way.ops way.goal (j.labels_enter way there);
        leaves = leaves;
        goes_in = both.goes;
        past = j.past;
      }
