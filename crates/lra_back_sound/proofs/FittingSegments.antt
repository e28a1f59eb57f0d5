-- Segments of trees whose operations fit: what is done on each can be done if as many variables live as at its
-- source, and leaves as many as live at its goal.
use Rattle.std.proofs.Common.{◌≡◌, ◌≢◌, ℕ, ◌≤◌, List, [], ◌∷◌, ◌++◌, map, Some, Bool, true, false, inl, inr, refl, sym, ◌∙◌, subst}
use Rattle.std.proofs.lemmas.List.Elements.{All-nil, All-append, All-weaker}
use Rattle.std.specs.{List.All, List.list_any, Prelude.slice_get}
use Rattle.lra_back_sound.specs.Crates.lra_operations.Tree.{Exit, broken, continued, returned, Completion, normal, jump, Node, empty, probe, point, act, check, seq, choose, iterate, catch, leave}
use Rattle.lra_back_sound.specs.Crates.lra_operations.Tree.{select, Arms, no_arms, entry, arm, entries_of}
use Rattle.lra_back_sound.specs.Crates.lra_pass_results.Dimensions.{JumpsWith, ArmsJumpWith, TreeFits, ArmsFit}
use Rattle.lra_back_sound.specs.Crates.lra_path_segments.Segments.{SegmentStep, does, goes, Goal, comes_to, violates, GoalSegment, Segment, Suffix, same_exit, each_then, then_way, then_ways, then_out}
use Rattle.lra_back_sound.specs.Crates.lra_path_segments.Segments.{then_outs, segment_by, segments_by, prepend_step, prepend_step_to_goal, with_test, tested_way, into_body, out_of_body, segment_to}
use Rattle.lra_back_sound.specs.Crates.lra_path_segments.Segments.{past_labels, through, through_arms, through_labels, enter, enter_arms, enter_labels, exit_suffixes, inside}
use Rattle.lra_back_sound.specs.Crates.{lra_analysis_spec.Live.live_after_op, lra_analysis_spec.Live.live_after, lra_analysis_spec.LiveLimit.most_live, lra_base.CaseLabels.is_same_case}
use Rattle.lra_back_sound.specs.Crates.{lra_base.declared.case_labels.CaseLabel.CaseLabel, lra_base.declared.case_labels.CaseLabel.TheVariants.Default, lra_operations.declared.probes.Probe.Probe}
use Rattle.lra_back_sound.specs.Crates.{lra_program.Program.Expr, lra_program.Program.Cond, lra_program.Sites.Site, lra_program.Step.Op, lra_program.Step.test, lra_transfer.Changes.OpFitsDims}
use Rattle.lra_back_sound.proofs.Crates.lra_operations.ArmRows.{arms_row}
use Rattle.lra_back_sound.proofs.Crates.lra_path_segments.LabelLaws.{through_row, enter_row, outs_row, inside_row}
use Rattle.lra_fixpoint.specs.Lives.{LiveAt, PointsHave, ArmsHave}
use Rattle.lra_back_sound.proofs.{MadeLists.all_made, MadeLists.all_one, MadeLists.all_pairs, MadeLists.all_if, MadeMoves.StepsFit, MadeMoves.steps_then}

-- kinds of jumps -------------------------------------------------------------------------------------------------------

same_itself : (k : Exit) → same_exit k k ≡ true
same_itself broken = refl
same_itself continued = refl
same_itself returned = refl

exits_apart : (j k : Exit) → same_exit j k ≡ false → j ≢ k
exits_apart j k apart same = let no : true ≡ false = sym (subst (λ i. same_exit j i ≡ true) same (same_itself j)) ∙ apart in cc

exits_same : (j k : Exit) → same_exit j k ≡ true → k ≡ j
exits_same broken broken e = refl
exits_same broken continued e = absurd (let no : false ≡ true = e in cc)
exits_same broken returned e = absurd (let no : false ≡ true = e in cc)
exits_same continued broken e = absurd (let no : false ≡ true = e in cc)
exits_same continued continued e = refl
exits_same continued returned e = absurd (let no : false ≡ true = e in cc)
exits_same returned broken e = absurd (let no : false ≡ true = e in cc)
exits_same returned continued e = absurd (let no : false ≡ true = e in cc)
exits_same returned returned e = refl

-- what must hold ------------------------------------------------------------------------------------------------------

module _ (T : List Site) where
  -- if n live, it leads to the goal with as many as live there
  abbrev pub GoalFits : ℕ → Goal → List SegmentStep → Type 0
  GoalFits n (comes_to q) ops = (r : Site) → slice_get T q ≡ Some r → StepsFit n r.live ops
  GoalFits n (violates q) ops = Unit {0}

  abbrev pub WayFits : ℕ → GoalSegment → Type 0
  WayFits n way = GoalFits n way.goal way.ops

  -- from the point of this number
  abbrev pub SegmentFits : Segment → Type 0
  SegmentFits x = (s : Site) → slice_get T x.source ≡ Some s → WayFits s.live x.to_goal

  -- from this point to where m live
  abbrev pub OutFits : ℕ → Suffix → Type 0
  OutFits m x = (s : Site) → slice_get T x.source ≡ Some s → StepsFit s.live m x.ops

  -- so left, a tree leaves so many
  abbrev pub LeavesWith : Node → ℕ → Completion → ℕ → Type 0
  LeavesWith g n normal m = live_after g n ≡ m
  LeavesWith g n (jump k) m = JumpsWith g n k m

  abbrev pub PassFits : Node → ℕ → Completion → List SegmentStep → Type 0
  PassFits g n h ops = (m : ℕ) × LeavesWith g n h m × StepsFit n m ops

  abbrev pub LeftFits : Node → ℕ → Completion → Suffix → Type 0
  LeftFits g n h x = (m : ℕ) × LeavesWith g n h m × OutFits m x

  -- the segments of a tree at whose beginning n live
  pub record WaysFit (g : Node) (n : ℕ) : Type 0 where
    pub passes : (h : Completion) → All (PassFits g n h) (through g h)
    pub enters : All (WayFits n) (enter g)
    pub leaves : (h : Completion) → All (LeftFits g n h) (exit_suffixes g h)
    pub goes_on : All SegmentFits (inside g)

  -- steps --------------------------------------------------------------------------------------------------------------

  -- whatever leads on to the goal
  goal_more : (goal : Goal) (k n : ℕ) (ops more : List SegmentStep) → ((m : ℕ) → StepsFit n m ops → StepsFit k m more) → GoalFits n goal ops
      → GoalFits k goal more
  goal_more (comes_to q) k n ops more h fits = λ r is. h r.live (fits r is)
  goal_more (violates q) k n ops more h fits = tt

  way_then : (k n : ℕ) (x : List SegmentStep) (way : GoalSegment) → StepsFit k n x → WayFits n way → WayFits k (then_way way x)
  way_then k n x way one two = goal_more way.goal k n way.ops (x ++ way.ops) (λ m h. steps_then x way.ops k n m one h) two

  segment_then : (n : ℕ) (x : Suffix) (way : GoalSegment) → OutFits n x → WayFits n way → SegmentFits (segment_by way x)
  segment_then n x way one two = λ s is. way_then s.live n x.ops way (one s is) two

  out_then : (n m : ℕ) (x : Suffix) (y : List SegmentStep) → OutFits n x → StepsFit n m y → OutFits m (then_out y x)
  out_then n m x y one two = λ s is. steps_then x.ops y s.live n m (one s is) two

  pass_normal : (g : Node) (n : ℕ) (ops : List SegmentStep) → PassFits g n normal ops → StepsFit n (live_after g n) ops
  pass_normal g n ops h = subst (λ m. StepsFit n m ops) (sym h.1) h.2

  left_normal : (g : Node) (n : ℕ) (x : Suffix) → LeftFits g n normal x → OutFits (live_after g n) x
  left_normal g n x h = subst (λ m. OutFits m x) (sym h.1) h.2

  -- leaves of trees ------------------------------------------------------------------------------------------------------
  fit_empty : (n : ℕ) → WaysFit empty n
  fit_empty n = record {
    passes = passes;
    enters = All-nil (WayFits n);
    leaves = λ h. All-nil (LeftFits empty n h);
    goes_on = All-nil SegmentFits;
  }
    where
      passes : (h : Completion) → All (PassFits empty n h) (through empty h)
      passes normal = all_one (PassFits empty n normal) [] (n, refl, refl)
      passes (jump j) = All-nil (PassFits empty n (jump j))

  fit_aside : (q : ℕ) (what : Probe) (n : ℕ) → WaysFit (probe q what) n
  fit_aside q what n = record {
    passes = passes;
    enters = All-nil (WayFits n);
    leaves = λ h. All-nil (LeftFits (probe q what) n h);
    goes_on = All-nil SegmentFits;
  }
    where
      passes : (h : Completion) → All (PassFits (probe q what) n h) (through (probe q what) h)
      passes normal = all_one (PassFits (probe q what) n normal) [] (n, refl, refl)
      passes (jump j) = All-nil (PassFits (probe q what) n (jump j))

  fit_point : (q n : ℕ) → LiveAt T q n → WaysFit (point q) n
  fit_point q n here = record {
    passes = λ h. All-nil (PassFits (point q) n h);
    enters = all_one (WayFits n) (record { ops = []; goal = comes_to q }) here;
    leaves = leaves;
    goes_on = All-nil SegmentFits;
  }
    where
      leaves : (h : Completion) → All (LeftFits (point q) n h) (exit_suffixes (point q) h)
      leaves normal = all_one (LeftFits (point q) n normal) (record { source = q; ops = [] }) (n, refl, λ s is. sym (here s is))
      leaves (jump j) = All-nil (LeftFits (point q) n (jump j))

  fit_act : (q : ℕ) (op : Op) (n : ℕ) → n ≤ most_live → OpFitsDims op n → WaysFit (act q op) n
  fit_act q op n few fits = record {
    passes = passes;
    enters = All-nil (WayFits n);
    leaves = λ h. All-nil (LeftFits (act q op) n h);
    goes_on = All-nil SegmentFits;
  }
    where
      passes : (h : Completion) → All (PassFits (act q op) n h) (through (act q op) h)
      passes normal = all_one (PassFits (act q op) n normal) (does op ∷ []) (live_after_op op n, refl, (fits, few, refl))
      passes (jump j) = All-nil (PassFits (act q op) n (jump j))

  fit_check : (q base : ℕ) (c : Cond) (n : ℕ) → n ≤ most_live → WaysFit (check q base c) n
  fit_check q base c n few = record {
    passes = passes;
    enters = all_one (WayFits n) (record { ops = does (test base c false) ∷ []; goal = violates q }) tt;
    leaves = λ h. All-nil (LeftFits (check q base c) n h);
    goes_on = All-nil SegmentFits;
  }
    where
      passes : (h : Completion) → All (PassFits (check q base c) n h) (through (check q base c) h)
      passes normal = all_one (PassFits (check q base c) n normal) (does (test base c true) ∷ []) (n, refl, (tt, few, refl))
      passes (jump j) = All-nil (PassFits (check q base c) n (jump j))

  fit_leave : (l : ℕ) (k : Exit) (n : ℕ) → WaysFit (leave l k) n
  fit_leave l k n = record {
    passes = passes;
    enters = All-nil (WayFits n);
    leaves = λ h. All-nil (LeftFits (leave l k) n h);
    goes_on = All-nil SegmentFits;
  }
    where
      passes : (h : Completion) → All (PassFits (leave l k) n h) (through (leave l k) h)
      passes normal = All-nil (PassFits (leave l k) n normal)
      passes (jump j) = all_if (PassFits (leave l k) n (jump j)) (same_exit j k) ([] ∷ []) []
          (λ same. all_one (PassFits (leave l k) n (jump j)) [] (n, (sym (exits_same j k same), refl), refl))
          (λ apart. All-nil (PassFits (leave l k) n (jump j)))

  -- one after the other -----------------------------------------------------------------------------------------------
  module _ (a b : Node) (n : ℕ) (x : WaysFit a n) (y : WaysFit b (live_after a n)) where
    abbrev between : ℕ
    between = live_after a n

    seq_passes : (h : Completion) → All (PassFits (seq a b) n h) (each_then (through a normal) (through b h))
    seq_passes normal = all_pairs (PassFits a n normal) (PassFits b between normal) (PassFits (seq a b) n normal) (λ k i. i ++ k)
        (λ i k one two. (two.0, two.1, steps_then i k n between two.0 (pass_normal a n i one) two.2)) (through a normal) (through b normal)
        (x.passes normal) (y.passes normal)
    seq_passes (jump j) = all_pairs (PassFits a n normal) (PassFits b between (jump j)) (PassFits (seq a b) n (jump j)) (λ k i. i ++ k)
        (λ i k one two. (two.0, inr two.1, steps_then i k n between two.0 (pass_normal a n i one) two.2)) (through a normal) (through b (jump j))
        (x.passes normal) (y.passes (jump j))

    passes_both : (h : Completion) → All (PassFits (seq a b) n h) (through (seq a b) h)
    passes_both normal = seq_passes normal
    passes_both (jump j) = All-append (PassFits (seq a b) n (jump j)) (through a (jump j)) (each_then (through a normal) (through b (jump j)))
        (All-weaker (PassFits a n (jump j)) (PassFits (seq a b) n (jump j)) (λ ops h. (h.0, inl h.1, h.2)) (through a (jump j)) (x.passes (jump j)))
        (seq_passes (jump j))

    outs_then : (h : Completion) → All (LeftFits (seq a b) n h) (then_outs (exit_suffixes a normal) (through b h))
    outs_then normal = all_pairs (LeftFits a n normal) (PassFits b between normal) (LeftFits (seq a b) n normal) then_out
        (λ i k one two. (two.0, two.1, out_then between two.0 i k (left_normal a n i one) two.2)) (exit_suffixes a normal) (through b normal) (x.leaves normal)
        (y.passes normal)
    outs_then (jump j) = all_pairs (LeftFits a n normal) (PassFits b between (jump j)) (LeftFits (seq a b) n (jump j)) then_out
        (λ i k one two. (two.0, inr two.1, out_then between two.0 i k (left_normal a n i one) two.2)) (exit_suffixes a normal) (through b (jump j))
        (x.leaves normal)
        (y.passes (jump j))

    outs_later : (h : Completion) → All (LeftFits (seq a b) n h) (exit_suffixes b h)
    outs_later normal = All-weaker (LeftFits b between normal) (LeftFits (seq a b) n normal) (λ i h. (h.0, h.1, h.2)) (exit_suffixes b normal) (y.leaves normal)
    outs_later (jump j) =
        All-weaker (LeftFits b between (jump j)) (LeftFits (seq a b) n (jump j)) (λ i h. (h.0, inr h.1, h.2)) (exit_suffixes b (jump j)) (y.leaves (jump j))

    leaves_both : (h : Completion) → All (LeftFits (seq a b) n h) (exit_suffixes (seq a b) h)
    leaves_both normal = All-append (LeftFits (seq a b) n normal) (then_outs (exit_suffixes a normal) (through b normal)) (exit_suffixes b normal)
        (outs_then normal)
        (outs_later normal)
    leaves_both (jump j) =
        All-append (LeftFits (seq a b) n (jump j)) (exit_suffixes a (jump j) ++ then_outs (exit_suffixes a normal) (through b (jump j)))
        (exit_suffixes b (jump j))
        (All-append (LeftFits (seq a b) n (jump j)) (exit_suffixes a (jump j)) (then_outs (exit_suffixes a normal) (through b (jump j)))
        (All-weaker (LeftFits a n (jump j)) (LeftFits (seq a b) n (jump j)) (λ i h. (h.0, inl h.1, h.2)) (exit_suffixes a (jump j)) (x.leaves (jump j)))
        (outs_then (jump j))) (outs_later (jump j))

    fit_seq : WaysFit (seq a b) n
    fit_seq = record {
      passes = passes_both;
      enters = All-append (WayFits n) (enter a) (then_ways (through a normal) (enter b)) x.enters
          (all_pairs (PassFits a n normal) (WayFits between) (WayFits n) then_way
          (λ i way one two. way_then n between i way (pass_normal a n i one) two) (through a normal) (enter b) (x.passes normal) y.enters);
      leaves = leaves_both;
      goes_on = All-append SegmentFits (inside a ++ segments_by (exit_suffixes a normal) (enter b)) (inside b)
          (All-append SegmentFits (inside a) (segments_by (exit_suffixes a normal) (enter b)) x.goes_on
          (all_pairs (LeftFits a n normal) (WayFits between) SegmentFits segment_by (λ i way one two. segment_then between i way (left_normal a n i one) two)
          (exit_suffixes a normal) (enter b) (x.leaves normal) y.enters)) y.goes_on;
    }

  -- a choice -------------------------------------------------------------------------------------------------------------
  way_led : (step : SegmentStep) (n : ℕ) (way : GoalSegment) → ((m : ℕ) (ops : List SegmentStep) → StepsFit n m ops → StepsFit n m (step ∷ ops)) → WayFits n way
      → WayFits n (prepend_step_to_goal step way)
  way_led step n way more h = goal_more way.goal n n way.ops (step ∷ way.ops) (λ m k. more m way.ops k) h

  steps_tested : (base : ℕ) (c : Cond) (wanted : Bool) (n : ℕ) → n ≤ most_live → (m : ℕ) (ops : List SegmentStep) → StepsFit n m ops
      → StepsFit n m (does (test base c wanted) ∷ ops)
  steps_tested base c wanted n few m ops h = (tt, few, h)

  module _ (q base : ℕ) (c : Cond) (a b : Node) (n : ℕ) (few : n ≤ most_live) (x : WaysFit a n) (y : WaysFit b n) (same : live_after b n ≡ live_after a n) where
    choice_passes : (h : Completion) → ((m : ℕ) → LeavesWith a n h m → LeavesWith (choose q base c a b) n h m)
        → ((m : ℕ) → LeavesWith b n h m → LeavesWith (choose q base c a b) n h m)
        → All (PassFits (choose q base c a b) n h) (through (choose q base c a b) h)
    choice_passes h left right =
        All-append (PassFits (choose q base c a b) n h) (map (with_test base c true) (through a h)) (map (with_test base c false) (through b h))
        (all_made (PassFits a n h) (PassFits (choose q base c a b) n h) (with_test base c true)
        (λ ops k. (k.0, left k.0 k.1, steps_tested base c true n few k.0 ops k.2)) (through a h) (x.passes h))
        (all_made (PassFits b n h) (PassFits (choose q base c a b) n h) (with_test base c false)
        (λ ops k. (k.0, right k.0 k.1, steps_tested base c false n few k.0 ops k.2)) (through b h) (y.passes h))

    choice_leaves : (h : Completion) → ((m : ℕ) → LeavesWith a n h m → LeavesWith (choose q base c a b) n h m)
        → ((m : ℕ) → LeavesWith b n h m → LeavesWith (choose q base c a b) n h m)
        → All (LeftFits (choose q base c a b) n h) (exit_suffixes (choose q base c a b) h)
    choice_leaves h left right = All-append (LeftFits (choose q base c a b) n h) (exit_suffixes a h) (exit_suffixes b h)
        (All-weaker (LeftFits a n h) (LeftFits (choose q base c a b) n h) (λ i k. (k.0, left k.0 k.1, k.2)) (exit_suffixes a h) (x.leaves h))
        (All-weaker (LeftFits b n h) (LeftFits (choose q base c a b) n h) (λ i k. (k.0, right k.0 k.1, k.2)) (exit_suffixes b h) (y.leaves h))

    passes_either : (h : Completion) → All (PassFits (choose q base c a b) n h) (through (choose q base c a b) h)
    passes_either normal = choice_passes normal (λ m k. k) (λ m k. sym same ∙ k)
    passes_either (jump j) = choice_passes (jump j) (λ m k. inl k) (λ m k. inr k)

    leaves_either : (h : Completion) → All (LeftFits (choose q base c a b) n h) (exit_suffixes (choose q base c a b) h)
    leaves_either normal = choice_leaves normal (λ m k. k) (λ m k. sym same ∙ k)
    leaves_either (jump j) = choice_leaves (jump j) (λ m k. inl k) (λ m k. inr k)

    fit_choose : WaysFit (choose q base c a b) n
    fit_choose = record {
      passes = passes_either;
      enters = All-append (WayFits n) (map (tested_way base c true) (enter a)) (map (tested_way base c false) (enter b))
          (all_made (WayFits n) (WayFits n) (tested_way base c true)
          (λ way h. way_led (does (test base c true)) n way (steps_tested base c true n few) h) (enter a) x.enters)
          (all_made (WayFits n) (WayFits n) (tested_way base c false)
          (λ way h. way_led (does (test base c false)) n way (steps_tested base c false n few) h) (enter b) y.enters);
      leaves = leaves_either;
      goes_on = All-append SegmentFits (inside a) (inside b) x.goes_on y.goes_on;
    }

  -- a loop ---------------------------------------------------------------------------------------------------------------
  module _ (q base : ℕ) (c : Cond) (a : Node) (n : ℕ) (few : n ≤ most_live) (here : LiveAt T q n) (x : WaysFit a n) (same : live_after a n ≡ n) where
    -- from the loop's point
    from_here : (s : Site) → slice_get T q ≡ Some s → (m : ℕ) (ops : List SegmentStep) → StepsFit n m ops → StepsFit s.live m ops
    from_here s is m ops h = subst (λ k. StepsFit k m ops) (here s is) h

    -- back to it
    to_here : (r : Site) → slice_get T q ≡ Some r → (k : ℕ) (ops : List SegmentStep) → StepsFit k (live_after a n) ops → StepsFit k r.live ops
    to_here r is k ops h = subst (λ m. StepsFit k m ops) (same ∙ here r is) h

    loop_leaves : (h : Completion) → All (LeftFits (iterate q base c a) n h) (exit_suffixes (iterate q base c a) h)
    loop_leaves normal = all_one (LeftFits (iterate q base c a) n normal) (record { source = q; ops = does (test base c false) ∷ [] })
        (n, refl, λ s is. from_here s is n (does (test base c false) ∷ []) (tt, few, refl))
    loop_leaves (jump j) = All-append (LeftFits (iterate q base c a) n (jump j)) (map (out_of_body q base c) (through a (jump j))) (exit_suffixes a (jump j))
        (all_made (PassFits a n (jump j)) (LeftFits (iterate q base c a) n (jump j)) (out_of_body q base c)
        (λ ops h. (h.0, h.1, λ s is. from_here s is h.0 (does (test base c true) ∷ ops) (tt, few, h.2))) (through a (jump j)) (x.passes (jump j)))
        (All-weaker (LeftFits a n (jump j)) (LeftFits (iterate q base c a) n (jump j)) (λ i h. (h.0, h.1, h.2)) (exit_suffixes a (jump j))
        (x.leaves (jump j)))

    goes_into : All SegmentFits (map (into_body q base c) (enter a))
    goes_into = all_made (WayFits n) SegmentFits (into_body q base c)
        (λ way h s is. goal_more way.goal s.live n way.ops (does (test base c true) ∷ way.ops)
        (λ m k. from_here s is m (does (test base c true) ∷ way.ops) (tt, few, k)) h) (enter a) x.enters

    goes_round : All SegmentFits (map (λ ops. segment_to q (out_of_body q base c ops)) (through a normal))
    goes_round = all_made (PassFits a n normal) SegmentFits (λ ops. segment_to q (out_of_body q base c ops))
        (λ ops h s is r at. to_here r at s.live (does (test base c true) ∷ ops)
        (from_here s is (live_after a n) (does (test base c true) ∷ ops) (tt, few, pass_normal a n ops h))) (through a normal) (x.passes normal)

    goes_back : All SegmentFits (map (segment_to q) (exit_suffixes a normal))
    goes_back = all_made (LeftFits a n normal) SegmentFits (segment_to q)
        (λ i h s is r at. to_here r at s.live i.ops (left_normal a n i h s is)) (exit_suffixes a normal) (x.leaves normal)

    fit_iterate : WaysFit (iterate q base c a) n
    fit_iterate =
        let entering : List Segment = map (into_body q base c) (enter a) in
        let round : List Segment = map (λ ops. segment_to q (out_of_body q base c ops)) (through a normal) in
        let back : List Segment = map (segment_to q) (exit_suffixes a normal) in
        record {
          passes = λ h. All-nil (PassFits (iterate q base c a) n h);
          enters = all_one (WayFits n) (record { ops = []; goal = comes_to q }) here;
          leaves = loop_leaves;
          goes_on = All-append SegmentFits ((entering ++ round) ++ back) (inside a)
              (All-append SegmentFits (entering ++ round) back (All-append SegmentFits entering round goes_into goes_round) goes_back) x.goes_on;
        }

  -- jumps that are caught ------------------------------------------------------------------------------------------------
  module _ (q : ℕ) (k : Exit) (a : Node) (n : ℕ) (x : WaysFit a n) (caught : (m : ℕ) → JumpsWith a n k m → m ≡ live_after a n) where
    catch_passes : (h : Completion) → All (PassFits (catch q k a) n h) (through (catch q k a) h)
    catch_passes normal = All-append (PassFits (catch q k a) n normal) (through a normal) (through a (jump k))
        (All-weaker (PassFits a n normal) (PassFits (catch q k a) n normal) (λ ops h. (h.0, h.1, h.2)) (through a normal) (x.passes normal))
        (All-weaker (PassFits a n (jump k)) (PassFits (catch q k a) n normal) (λ ops h. (h.0, sym (caught h.0 h.1), h.2)) (through a (jump k))
        (x.passes (jump k)))
    catch_passes (jump j) = all_if (PassFits (catch q k a) n (jump j)) (same_exit j k) [] (through a (jump j))
        (λ same. All-nil (PassFits (catch q k a) n (jump j)))
        (λ apart. All-weaker (PassFits a n (jump j)) (PassFits (catch q k a) n (jump j)) (λ ops h. (h.0, (exits_apart j k apart, h.1), h.2))
        (through a (jump j)) (x.passes (jump j)))

    catch_leaves : (h : Completion) → All (LeftFits (catch q k a) n h) (exit_suffixes (catch q k a) h)
    catch_leaves normal = All-append (LeftFits (catch q k a) n normal) (exit_suffixes a normal) (exit_suffixes a (jump k))
        (All-weaker (LeftFits a n normal) (LeftFits (catch q k a) n normal) (λ i h. (h.0, h.1, h.2)) (exit_suffixes a normal) (x.leaves normal))
        (All-weaker (LeftFits a n (jump k)) (LeftFits (catch q k a) n normal) (λ i h. (h.0, sym (caught h.0 h.1), h.2)) (exit_suffixes a (jump k))
        (x.leaves (jump k)))
    catch_leaves (jump j) = all_if (LeftFits (catch q k a) n (jump j)) (same_exit j k) [] (exit_suffixes a (jump j))
        (λ same. All-nil (LeftFits (catch q k a) n (jump j)))
        (λ apart. All-weaker (LeftFits a n (jump j)) (LeftFits (catch q k a) n (jump j)) (λ i h. (h.0, (exits_apart j k apart, h.1), h.2))
        (exit_suffixes a (jump j)) (x.leaves (jump j)))

    fit_catch : WaysFit (catch q k a) n
    fit_catch = record { passes = catch_passes; enters = x.enters; leaves = catch_leaves; goes_on = x.goes_on }

  -- arms -----------------------------------------------------------------------------------------------------------------
  -- a row of arms leaves as many as there were, and jumps as the arms do
  row_after : (arms : Arms) (n : ℕ) → ArmsFit arms n → live_after (arms_row arms) n ≡ n
  row_after no_arms n fits = refl
  row_after (entry l arms) n fits = row_after arms n fits
  row_after (arm a arms) n fits = subst (λ k. live_after (arms_row arms) k ≡ n) (sym fits.1) (row_after arms n fits.2)

  row_jumps : (arms : Arms) (n : ℕ) → ArmsFit arms n → (k : Exit) (m : ℕ) → JumpsWith (arms_row arms) n k m → ArmsJumpWith arms n k m
  row_jumps no_arms n fits k m h = h
  row_jumps (entry l arms) n fits k m h = row_jumps arms n fits k m h
  row_jumps (arm a arms) n fits k m (inl h) = inl h
  row_jumps (arm a arms) n fits k m (inr h) = inr (row_jumps arms n fits.2 k m (subst (λ i. JumpsWith (arms_row arms) i k m) fits.1 h))

  -- so left, arms leave so many
  abbrev pub ArmsLeaveWith : Arms → ℕ → Completion → ℕ → Type 0
  ArmsLeaveWith arms n normal m = n ≡ m
  ArmsLeaveWith arms n (jump k) m = ArmsJumpWith arms n k m

  abbrev pub LabelFits : Arms → ℕ → Completion → List SegmentStep → Type 0
  LabelFits arms n h ops = (m : ℕ) × ArmsLeaveWith arms n h m × StepsFit n m ops

  row_leaves : (arms : Arms) (n : ℕ) → ArmsFit arms n → (h : Completion) (m : ℕ) → LeavesWith (arms_row arms) n h m → ArmsLeaveWith arms n h m
  row_leaves arms n fits normal m e = sym (row_after arms n fits) ∙ e
  row_leaves arms n fits (jump k) m h = row_jumps arms n fits k m h

  arm_leaves : (a : Node) (arms : Arms) (n : ℕ) (h : Completion) (m : ℕ) → ArmsLeaveWith arms n h m → ArmsLeaveWith (arm a arms) n h m
  arm_leaves a arms n normal m e = e
  arm_leaves a arms n (jump k) m h = inr h

  -- from the labels of arms, and of their trees in a row
  pub record LabelsFit (arms : Arms) (n : ℕ) : Type 0 where
    pub row : WaysFit (arms_row arms) n
    pub passes : (base : ℕ) (e : Expr) (labels : List CaseLabel) (h : Completion) → All (LabelFits arms n h) (through_labels (λ l. goes base e labels l) arms h)
    pub enters : (base : ℕ) (e : Expr) (labels : List CaseLabel) → All (WayFits n) (enter_labels (λ l. goes base e labels l) arms)

  steps_labelled : (base : ℕ) (e : Expr) (labels : List CaseLabel) (l : CaseLabel) (n : ℕ) → n ≤ most_live → (m : ℕ) (ops : List SegmentStep) → StepsFit n m ops
      → StepsFit n m (goes base e labels l ∷ ops)
  steps_labelled base e labels l n few m ops h = (tt, few, h)

  fit_no_arms : (n : ℕ) → LabelsFit no_arms n
  fit_no_arms n = record {
    row = fit_empty n;
    passes = λ base e labels h. All-nil (LabelFits no_arms n h);
    enters = λ base e labels. All-nil (WayFits n);
  }

  module _ (l : CaseLabel) (arms : Arms) (n : ℕ) (few : n ≤ most_live) (fits : ArmsFit arms n) (x : LabelsFit arms n) where
    entry_passes : (base : ℕ) (e : Expr) (labels : List CaseLabel) (h : Completion) → All (LabelFits arms n h)
        (through_labels (λ k. goes base e labels k) (entry l arms) h)
    entry_passes base e labels h =
        let first = goes base e labels l in
        let behind = subst (All (PassFits (arms_row arms) n h)) (through_row arms h) (x.row.passes h) in
        All-append (LabelFits arms n h) (map (prepend_step first) (through_arms arms h)) (through_labels (λ k. goes base e labels k) arms h)
        (all_made (PassFits (arms_row arms) n h) (LabelFits arms n h) (prepend_step first)
        (λ ops k. (k.0, row_leaves arms n fits h k.0 k.1, steps_labelled base e labels l n few k.0 ops k.2)) (through_arms arms h) behind)
        (x.passes base e labels h)

    entry_enters : (base : ℕ) (e : Expr) (labels : List CaseLabel) → All (WayFits n) (enter_labels (λ k. goes base e labels k) (entry l arms))
    entry_enters base e labels =
        let first = goes base e labels l in
        All-append (WayFits n) (map (prepend_step_to_goal first) (enter_arms arms)) (enter_labels (λ k. goes base e labels k) arms)
        (all_made (WayFits n) (WayFits n) (prepend_step_to_goal first) (λ way h. way_led first n way (steps_labelled base e labels l n few) h) (enter_arms arms)
        (subst (All (WayFits n)) (enter_row arms) x.row.enters)) (x.enters base e labels)

    fit_entry : LabelsFit (entry l arms) n
    fit_entry = record { row = x.row; passes = entry_passes; enters = entry_enters }

  fit_arm : (a : Node) (arms : Arms) (n : ℕ) → WaysFit a n → live_after a n ≡ n → LabelsFit arms n → LabelsFit (arm a arms) n
  fit_arm a arms n x same y = record {
    row = fit_seq a (arms_row arms) n x (subst (λ k. WaysFit (arms_row arms) k) (sym same) y.row);
    passes = λ base e labels h. All-weaker (LabelFits arms n h) (LabelFits (arm a arms) n h) (λ ops k. (k.0, arm_leaves a arms n h k.0 k.1, k.2))
        (through_labels (λ l. goes base e labels l) arms h) (y.passes base e labels h);
    enters = y.enters;
  }

  past_all : (base : ℕ) (e : Expr) (labels : List CaseLabel) (arms : Arms) (n : ℕ) → n ≤ most_live → (b : Bool) (h : Completion) → All (LabelFits arms n h)
      (past_labels (λ l. goes base e labels l) b h)
  past_all base e labels arms n few true h = All-nil (LabelFits arms n h)
  past_all base e labels arms n few false normal = all_one (LabelFits arms n normal) (goes base e labels Default ∷ []) (n, refl, (tt, few, refl))
  past_all base e labels arms n few false (jump j) = All-nil (LabelFits arms n (jump j))

  select_leaves : (q base : ℕ) (e : Expr) (arms : Arms) (n : ℕ) (h : Completion) (m : ℕ) → ArmsLeaveWith arms n h m → LeavesWith (select q base e arms) n h m
  select_leaves q base e arms n normal m k = k
  select_leaves q base e arms n (jump j) m k = k

  fit_select : (q base : ℕ) (e : Expr) (arms : Arms) (n : ℕ) → n ≤ most_live → ArmsFit arms n → LabelsFit arms n → WaysFit (select q base e arms) n
  fit_select q base e arms n few fits x =
      let labels = entries_of arms in
      let default = list_any (is_same_case Default) labels in
      record {
        passes = λ h.
            let labelled = through_labels (λ l. goes base e labels l) arms h in
            let past = past_labels (λ l. goes base e labels l) default h in
            All-weaker (LabelFits arms n h) (PassFits (select q base e arms) n h) (λ ops k. (k.0, select_leaves q base e arms n h k.0 k.1, k.2))
            (labelled ++ past)
            (All-append (LabelFits arms n h) labelled past (x.passes base e labels h) (past_all base e labels arms n few default h));
        enters = x.enters base e labels;
        leaves = λ h. subst (All (LeftFits (select q base e arms) n h)) (outs_row arms h)
            (All-weaker (LeftFits (arms_row arms) n h) (LeftFits (select q base e arms) n h)
            (λ i k. (k.0, select_leaves q base e arms n h k.0 (row_leaves arms n fits h k.0 k.1), k.2)) (exit_suffixes (arms_row arms) h) (x.row.leaves h));
        goes_on = subst (All SegmentFits) (inside_row arms) x.row.goes_on;
      }

  -- trees ----------------------------------------------------------------------------------------------------------------
  mutual
    pub tree_ways : (g : Node) (n : ℕ) → n ≤ most_live → TreeFits g n → PointsHave T g n → WaysFit g n
    tree_ways empty n few fits have = fit_empty n
    tree_ways (probe here what) n few fits have = fit_aside here what n
    tree_ways (point q) n few fits have = fit_point q n have
    tree_ways (act q op) n few fits have = fit_act q op n few fits
    tree_ways (check q base c) n few fits have = fit_check q base c n few
    tree_ways (seq a b) n few fits have =
        fit_seq a b n (tree_ways a n few fits.0 have.0) (tree_ways b (live_after a n) fits.1 fits.2 have.1)
    tree_ways (choose q base c a b) n few fits have =
        fit_choose q base c a b n few (tree_ways a n few fits.0 have.0) (tree_ways b n few fits.1 have.1) fits.2
    tree_ways (iterate q base c a) n few fits have = fit_iterate q base c a n few have.0 (tree_ways a n few fits.0 have.1) fits.1
    tree_ways (catch q k a) n few fits have = fit_catch q k a n (tree_ways a n few fits.0 have) fits.1
    tree_ways (leave l k) n few fits have = fit_leave l k n
    tree_ways (select q base e arms) n few fits have = fit_select q base e arms n few fits (arms_ways arms n few fits have)

    arms_ways : (arms : Arms) (n : ℕ) → n ≤ most_live → ArmsFit arms n → ArmsHave T arms n → LabelsFit arms n
    arms_ways no_arms n few fits have = fit_no_arms n
    arms_ways (entry l arms) n few fits have = fit_entry l arms n few fits (arms_ways arms n few fits have)
    arms_ways (arm a arms) n few fits have = fit_arm a arms n (tree_ways a n few fits.0 have.0) fits.1 (arms_ways arms n few fits.2 have.2)
