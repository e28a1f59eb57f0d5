-- Each tree is inductive, from any value, in a pass that doesn't narrow its loops.
use Rattle.std.proofs.Common.{◌≡◌, ℕ, List, [], ◌∷◌, ◌++◌, map, Option, Some, None, Bool, true, false, inl, inr, refl, sym, ap, ◌∙◌, subst}
use Rattle.std.proofs.lemmas.List.Elements.{Contains-append_cases, Contains-append_left, Contains-append_right}
use Rattle.std.proofs.lemmas.Option.{same_Some, none-some}
use Rattle.std.specs.{List.Contains, List.list_any, Prelude.if◌then◌else◌}
use Rattle.lra_inductive_sound.proofs.Crates.lra_analysis_spec.Sound.{left_jump, right_jump, jump_there, behind_normal}
use Rattle.lra_inductive_sound.proofs.Crates.lra_linear_spec.Membership.{contains_none, contains_cases, contains_head, map_from}
use Rattle.lra_inductive_sound.specs.Crates.lra_analysis_spec.Pass.{PassEntry, value, failing, recorded, PassResult, noted, jumps_of, goes_on, jumps, in_turn, first_of_call, values_behind}
use Rattle.lra_inductive_sound.specs.Crates.lra_analysis_spec.Pass.{jumps_caught, AreJoined, Filters, Enters, RunsFrom, DescendingIteration, Pass, ArmsPass}
use Rattle.lra_inductive_sound.specs.Crates.lra_operations.Tree.{Exit, broken, continued, returned, Completion, normal, jump, Node, empty, probe, point, act, check, seq, choose, iterate, catch, leave}
use Rattle.lra_inductive_sound.specs.Crates.lra_operations.Tree.{select, Arms, no_arms, entry, arm, entries_of}
use Rattle.lra_inductive_sound.specs.Crates.lra_operations.declared.probes.Probe.TheVariants.{InterferencePoint, RecordWrite}
use Rattle.lra_inductive_sound.specs.Crates.lra_path_segments.Segments.{SegmentStep, does, comes_to, violates, GoalSegment, Segment, Suffix, same_exit, through, enter, exit_suffixes, inside}
use Rattle.lra_inductive_sound.specs.Crates.lra_path_segments.Segments.{with_test, tested_way, goes_in, past_labels, through_labels}
use Rattle.lra_inductive_sound.specs.Crates.{lra_analysis_spec.Operations.lossy_operations, lra_analysis_spec.Plan.Plan, lra_base.CaseLabels.is_same_case}
use Rattle.lra_inductive_sound.specs.Crates.{lra_base.declared.case_labels.CaseLabel.CaseLabel, lra_base.declared.case_labels.CaseLabel.TheVariants.Default, lra_domain.Abstraction.Abstraction}
use Rattle.lra_inductive_sound.specs.Crates.{lra_domain.declared.Exactness.Exactness, lra_domain.declared.Exactness.TheVariants.Exact, lra_operations.declared.probes.Probe.Probe}
use Rattle.lra_inductive_sound.specs.Crates.{lra_program.Program.Expr, lra_program.Program.Cond, lra_program.Step.Op, lra_program.Step.test}
use Rattle.lra_inductive_sound.specs.Inductive.{Keeps, KeptBy, KeptFrom, IsExitValue, IsGoalValue, IsInductiveThrough}
use Rattle.lra_inductive_sound.specs.Points.{PointsOf, KeepPoints}
use Rattle.lra_inductive_sound.proofs.Parts.{IsPart, left_part, right_part, among_more, met_more, from_met, to_same}
use Rattle.lra_inductive_sound.proofs.Sequences.{Closes, through_both, outs_both, tree_closes, both_close}
use Rattle.lra_inductive_sound.proofs.KeptSegments.{at_once, itself, same_keeps, keeps_on, then_by, change_keeps, test_keeps, join_left, join_right}
use Rattle.lra_inductive_sound.proofs.{Arms.AreArmsClosed, Arms.label_keeps, Arms.arms_end, Arms.arms_labelled, Arms.arms_behind, Loops.round_of, Loops.loop_closed, Loops.grown, Members.one_from}

-- a jump that is caught, and the others
behind_part : {V : Type 0} (k : Exit) (r : PassResult V) (v : V) (f : Option ℕ) → IsPart r (jumps_caught k r v f)
behind_part broken r v f x h = h
behind_part continued r v f x h = h
behind_part returned r v f x h = h

-- if they are of one kind nothing is left
only_other : {A : Type 0} (b : Bool) (xs : List A) (x : A) → Contains (if b then [] else xs) x → (b ≡ false) × Contains xs x
only_other true xs x there = absurd (contains_none x there)
only_other false xs x there = (refl, there)

only_same : {A : Type 0} (b : Bool) (x y : A) → Contains (if b then (y ∷ []) else []) x → (b ≡ true) × (y ≡ x)
only_same true x y there = (refl, one_from y x there)
only_same false x y there = absurd (contains_none x there)

same_is : (j k : Exit) → same_exit j k ≡ true → j ≡ k
same_is broken broken e = refl
same_is broken continued e = absurd (let no : false ≡ true = e in cc)
same_is broken returned e = absurd (let no : false ≡ true = e in cc)
same_is continued broken e = absurd (let no : false ≡ true = e in cc)
same_is continued continued e = refl
same_is continued returned e = absurd (let no : false ≡ true = e in cc)
same_is returned broken e = absurd (let no : false ≡ true = e in cc)
same_is returned continued e = absurd (let no : false ≡ true = e in cc)
same_is returned returned e = refl

behind_jump : {V : Type 0} (k j : Exit) (r : PassResult V) (v : V) (f : Option ℕ) → same_exit j k ≡ false → (u : V) → Contains (jumps_of j r) u
    → Contains (jumps_of j (jumps_caught k r v f)) u
behind_jump broken broken r v f n u h = absurd (let no : true ≡ false = n in cc)
behind_jump broken continued r v f n u h = h
behind_jump broken returned r v f n u h = h
behind_jump continued broken r v f n u h = h
behind_jump continued continued r v f n u h = absurd (let no : true ≡ false = n in cc)
behind_jump continued returned r v f n u h = h
behind_jump returned broken r v f n u h = h
behind_jump returned continued r v f n u h = h
behind_jump returned returned r v f n u h = absurd (let no : true ≡ false = n in cc)

module _ (V H X : Type 0) (m : Abstraction V H) (o : PointsOf V H X) where
  -- leaves of trees -----------------------------------------------------------------------------------------------------
  one_pass : (v w : V) (way : List SegmentStep) (f : Option ℕ) (xs : List (PassEntry V)) → Keeps m o v way w → (ops : List SegmentStep) →
      Contains (way ∷ []) ops
      → KeptBy m o v ops (IsExitValue (goes_on xs w f) normal)
  one_pass v w way f xs keeps ops there = subst (λ (l : List SegmentStep). KeptBy m o v l (λ y. y ≡ w)) (one_from way ops there) (w, refl, keeps)

  one_enter : (v w : V) (way : GoalSegment) (r : PassResult V) → IsGoalValue r way.goal w → Keeps m o v way.ops w → (x : GoalSegment) → Contains (way ∷ []) x
      → KeptBy m o v x.ops (IsGoalValue r x.goal)
  one_enter v w way r met keeps x there = subst (λ (l : GoalSegment). KeptBy m o v l.ops (IsGoalValue r l.goal)) (one_from way x there) (w, met, keeps)

  empty_closed : (v : V) (f : Option ℕ) → IsInductiveThrough m o empty v (goes_on [] v f)
  empty_closed v f = record {
    passes = passes;
    enters = λ way there. absurd (contains_none way there);
    leaves = λ h s there. absurd (contains_none s there);
    goes = λ s there. absurd (contains_none s there);
  }
    where
      passes : (h : Completion) (ops : List SegmentStep) → Contains (through empty h) ops → KeptBy m o v ops (IsExitValue (goes_on [] v f) h)
      passes normal ops there = one_pass v v [] f [] (itself V H X m o v) ops there
      passes (jump j) ops there = absurd (contains_none ops there)

  -- what stands beside a program's operations changes no value if it runs alone
  aside_closed : (q : ℕ) (what : Probe) (v : V) (xs : List (PassEntry V)) (f : Option ℕ) → IsInductiveThrough m o (probe q what) v (goes_on xs v f)
  aside_closed q what v xs f = record {
    passes = passes;
    enters = λ way there. absurd (contains_none way there);
    leaves = λ h s there. absurd (contains_none s there);
    goes = λ s there. absurd (contains_none s there);
  }
    where
      passes : (h : Completion) (ops : List SegmentStep) → Contains (through (probe q what) h) ops → KeptBy m o v ops (IsExitValue (goes_on xs v f) h)
      passes normal ops there = one_pass v v [] f xs (itself V H X m o v) ops there
      passes (jump j) ops there = absurd (contains_none ops there)

  point_closed : (q : ℕ) (v : V) (f : Option ℕ) → IsInductiveThrough m o (point q) v (goes_on (value q v ∷ []) v f)
  point_closed q v f = record {
    passes = λ h ops there. absurd (contains_none ops there);
    enters = one_enter v v (record { ops = []; goal = comes_to q }) (goes_on (value q v ∷ []) v f) (contains_head (value q v) []) (itself V H X m o v);
    leaves = leaves;
    goes = λ s there. absurd (contains_none s there);
  }
    where
      leaves : (h : Completion) (s : Suffix) → Contains (exit_suffixes (point q) h) s
          → KeptFrom m o (goes_on (value q v ∷ []) v f) s.source s.ops (IsExitValue (goes_on (value q v ∷ []) v f) h)
      leaves normal s there =
          subst (λ (l : Suffix). KeptFrom m o (goes_on (value q v ∷ []) v f) l.source l.ops (λ w. w ≡ v)) (one_from (record { source = q; ops = [] }) s there)
          (v, contains_head (value q v) [], (v, refl, itself V H X m o v))
      leaves (jump j) s there = absurd (contains_none s there)

  act_closed : (q : ℕ) (op : Op) (v w : V) (f : Option ℕ) → Keeps m o v (does op ∷ []) w → IsInductiveThrough m o (act q op) v (goes_on [] w f)
  act_closed q op v w f keeps = record {
    passes = passes;
    enters = λ way there. absurd (contains_none way there);
    leaves = λ h s there. absurd (contains_none s there);
    goes = λ s there. absurd (contains_none s there);
  }
    where
      passes : (h : Completion) (ops : List SegmentStep) → Contains (through (act q op) h) ops → KeptBy m o v ops (IsExitValue (goes_on [] w f) h)
      passes normal ops there = one_pass v w (does op ∷ []) f [] keeps ops there
      passes (jump j) ops there = absurd (contains_none ops there)

  check_closed : (q base : ℕ) (c : Cond) (v u w : V) (f : Option ℕ) → Keeps m o v (does (test base c false) ∷ []) u
      → Keeps m o v (does (test base c true) ∷ []) w → IsInductiveThrough m o (check q base c) v (goes_on (failing q u ∷ []) w f)
  check_closed q base c v u w f off on = record {
    passes = passes;
    enters = one_enter v u (record { ops = does (test base c false) ∷ []; goal = violates q }) (goes_on (failing q u ∷ []) w f)
        (contains_head (failing q u) []) off;
    leaves = λ h s there. absurd (contains_none s there);
    goes = λ s there. absurd (contains_none s there);
  }
    where
      passes : (h : Completion) (ops : List SegmentStep) → Contains (through (check q base c) h) ops
          → KeptBy m o v ops (IsExitValue (goes_on (failing q u ∷ []) w f) h)
      passes normal ops there = one_pass v w (does (test base c true) ∷ []) f (failing q u ∷ []) on ops there
      passes (jump j) ops there = absurd (contains_none ops there)

  leave_closed : (n : ℕ) (k : Exit) (v w : V) (f : Option ℕ) → IsInductiveThrough m o (leave n k) v (jumps k v w f)
  leave_closed n k v w f = record {
    passes = passes;
    enters = λ way there. absurd (contains_none way there);
    leaves = λ h s there. absurd (contains_none s there);
    goes = λ s there. absurd (contains_none s there);
  }
    where
      passes : (h : Completion) (ops : List SegmentStep) → Contains (through (leave n k) h) ops → KeptBy m o v ops (IsExitValue (jumps k v w f) h)
      passes normal ops there = absurd (contains_none ops there)
      passes (jump j) ops there =
          let (alike, same) = only_same (same_exit j k) ops [] there in
          subst (λ (l : List SegmentStep). KeptBy m o v l (IsExitValue (jumps k v w f) (jump j))) same (
            v,
            subst (λ (i : Exit). Contains (jumps_of i (jumps k v w f)) v) (sym (same_is j k alike)) (jump_there k v w f),
            itself V H X m o v,
          )

  -- two parts ------------------------------------------------------------------------------------------------------------
  seq_closed : (a b : Node) (v : V) (s t : PassResult V) → IsInductiveThrough m o a v s → IsInductiveThrough m o b s.normal t
      → IsInductiveThrough m o (seq a b) v (in_turn s t t.normal t.flag)
  seq_closed a b v s t i j = record { passes = passes; enters = both.enters; leaves = leaves; goes = both.goes }
    where
      both : Closes V H X m o (through_both (through a) (through b)) (enter (seq a b)) (outs_both (exit_suffixes a) (through b) (exit_suffixes b))
          (inside (seq a b)) v
          (in_turn s t t.normal t.flag)
      both = both_close V H X m o (through a) (through b) (enter a) (enter b) (exit_suffixes a) (exit_suffixes b) (inside a) (inside b) v s t
          (tree_closes V H X m o a v s i) (tree_closes V H X m o b s.normal t j)

      passes : (h : Completion) (ops : List SegmentStep) → Contains (through (seq a b) h) ops → KeptBy m o v ops (IsExitValue (in_turn s t t.normal t.flag) h)
      passes normal ops there = both.passes normal ops there
      passes (jump k) ops there = both.passes (jump k) ops there

      leaves : (h : Completion) (x : Suffix) → Contains (exit_suffixes (seq a b) h) x
          → KeptFrom m o (in_turn s t t.normal t.flag) x.source x.ops (IsExitValue (in_turn s t t.normal t.flag) h)
      leaves normal x there = both.leaves normal x there
      leaves (jump k) x there = both.leaves (jump k) x there

  -- a choice -------------------------------------------------------------------------------------------------------------
  module _ (q base : ℕ) (c : Cond) (a b : Node) (v on off w : V) (s t : PassResult V) (f : Option ℕ) (into : Keeps m o v (does (test base c true) ∷ []) on)
      (past : Keeps m o v (does (test base c false) ∷ []) off) (i : IsInductiveThrough m o a on s) (j : IsInductiveThrough m o b off t)
      (left : Keeps m o s.normal [] w)
      (right : Keeps m o t.normal [] w) where
    abbrev either : PassResult V
    either = in_turn s t w f

    joined_in : (u : V) (ops : List SegmentStep) (n : V) → Keeps m o n [] w → KeptBy m o u ops (λ y. y ≡ n) → KeptBy m o u ops (λ y. y ≡ w)
    joined_in u ops n joins k = (w, refl, keeps_on V H X m o u n w ops (to_same V H X m o u n ops k) joins)

    left_is : (h : Completion) (u : V) (ops : List SegmentStep) → KeptBy m o u ops (IsExitValue s h) → KeptBy m o u ops (IsExitValue either h)
    left_is normal u ops k = joined_in u ops s.normal left k
    left_is (jump k) u ops h = among_more V H X m o u ops (IsExitValue s (jump k)) (IsExitValue either (jump k)) (left_jump k s t w f) h

    right_is : (h : Completion) (u : V) (ops : List SegmentStep) → KeptBy m o u ops (IsExitValue t h) → KeptBy m o u ops (IsExitValue either h)
    right_is normal u ops k = joined_in u ops t.normal right k
    right_is (jump k) u ops h = among_more V H X m o u ops (IsExitValue t (jump k)) (IsExitValue either (jump k)) (right_jump k s t w f) h

    choose_passes : (h : Completion) (ops : List SegmentStep) → Contains (through (choose q base c a b) h) ops → KeptBy m o v ops (IsExitValue either h)
    choose_passes h ops there =
        elim (Contains-append_cases (map (with_test base c true) (through a h)) (map (with_test base c false) (through b h)) ops there) [
          | inl holds ↦
              let (x, k, same) = map_from (with_test base c true) (through a h) ops holds in
              subst (λ (l : List SegmentStep). KeptBy m o v l (IsExitValue either h)) same
              (then_by V H X m o v on (does (test base c true) ∷ []) x (IsExitValue either h) into (left_is h on x (i.passes h x k)))
          | inr fails ↦
              let (x, k, same) = map_from (with_test base c false) (through b h) ops fails in
              subst (λ (l : List SegmentStep). KeptBy m o v l (IsExitValue either h)) same
              (then_by V H X m o v off (does (test base c false) ∷ []) x (IsExitValue either h) past (right_is h off x (j.passes h x k)))
        ]

    choose_enters : (way : GoalSegment) → Contains (enter (choose q base c a b)) way → KeptBy m o v way.ops (IsGoalValue either way.goal)
    choose_enters way there = elim (Contains-append_cases (map (tested_way base c true) (enter a)) (map (tested_way base c false) (enter b)) way there) [
      | inl holds ↦
          let (x, k, same) = map_from (tested_way base c true) (enter a) way holds in
          subst (λ (l : GoalSegment). KeptBy m o v l.ops (IsGoalValue either l.goal)) same
          (then_by V H X m o v on (does (test base c true) ∷ []) x.ops (IsGoalValue either x.goal) into
          (met_more V H X m o s either (left_part s t w f) on x.ops x.goal (i.enters x k)))
      | inr fails ↦
          let (x, k, same) = map_from (tested_way base c false) (enter b) way fails in
          subst (λ (l : GoalSegment). KeptBy m o v l.ops (IsGoalValue either l.goal)) same
          (then_by V H X m o v off (does (test base c false) ∷ []) x.ops (IsGoalValue either x.goal) past
          (met_more V H X m o t either (right_part s t w f) off x.ops x.goal (j.enters x k)))
    ]

    choose_leaves : (h : Completion) (x : Suffix) → Contains (exit_suffixes (choose q base c a b) h) x →
        KeptFrom m o either x.source x.ops (IsExitValue either h)
    choose_leaves h x there = elim (Contains-append_cases (exit_suffixes a h) (exit_suffixes b h) x there) [
      | inl holds ↦ let (u, found, k) = i.leaves h x holds in (u, left_part s t w f (value x.source u) found, left_is h u x.ops k)
      | inr fails ↦ let (u, found, k) = j.leaves h x fails in (u, right_part s t w f (value x.source u) found, right_is h u x.ops k)
    ]

    choose_goes : (x : Segment) → Contains (inside (choose q base c a b)) x → KeptFrom m o either x.source x.to_goal.ops (IsGoalValue either x.to_goal.goal)
    choose_goes x there = elim (Contains-append_cases (inside a) (inside b) x there) [
      | inl holds ↦ from_met V H X m o s either (left_part s t w f) x.source x.to_goal.ops x.to_goal.goal (i.goes x holds)
      | inr fails ↦ from_met V H X m o t either (right_part s t w f) x.source x.to_goal.ops x.to_goal.goal (j.goes x fails)
    ]

    choose_closed : IsInductiveThrough m o (choose q base c a b) v either
    choose_closed = record { passes = choose_passes; enters = choose_enters; leaves = choose_leaves; goes = choose_goes }

  -- where jumps end ------------------------------------------------------------------------------------------------------
  module _ (q : ℕ) (k : Exit) (a : Node) (v w : V) (s : PassResult V) (f : Option ℕ) (i : IsInductiveThrough m o a v s) (left : Keeps m o s.normal [] w)
      (caught : (u : V) → Contains (jumps_of k s) u → Keeps m o u [] w) where
    abbrev ended : PassResult V
    ended = jumps_caught k s w f

    ends_here : w ≡ ended.normal
    ends_here = sym (behind_normal k s w f)

    normal_in : (u : V) (ops : List SegmentStep) → KeptBy m o u ops (IsExitValue s normal) → KeptBy m o u ops (IsExitValue ended normal)
    normal_in u ops h = (w, ends_here, keeps_on V H X m o u s.normal w ops (to_same V H X m o u s.normal ops h) left)

    caught_in : (u : V) (ops : List SegmentStep) → KeptBy m o u ops (IsExitValue s (jump k)) → KeptBy m o u ops (IsExitValue ended normal)
    caught_in u ops (y, there, keeps) = (w, ends_here, keeps_on V H X m o u y w ops keeps (caught y there))

    other_in : (j : Exit) → same_exit j k ≡ false → (u : V) (ops : List SegmentStep) → KeptBy m o u ops (IsExitValue s (jump j))
        → KeptBy m o u ops (IsExitValue ended (jump j))
    other_in j apart u ops (y, there, keeps) = (y, behind_jump k j s w f apart y there, keeps)

    catch_passes : (h : Completion) (ops : List SegmentStep) → Contains (through (catch q k a) h) ops → KeptBy m o v ops (IsExitValue ended h)
    catch_passes normal ops there = elim (Contains-append_cases (through a normal) (through a (jump k)) ops there) [
      | inl on ↦ normal_in v ops (i.passes normal ops on)
      | inr jumped ↦ caught_in v ops (i.passes (jump k) ops jumped)
    ]
    catch_passes (jump j) ops there =
        let (apart, on) = only_other (same_exit j k) (through a (jump j)) ops there in other_in j apart v ops (i.passes (jump j) ops on)

    catch_leaves : (h : Completion) (x : Suffix) → Contains (exit_suffixes (catch q k a) h) x → KeptFrom m o ended x.source x.ops (IsExitValue ended h)
    catch_leaves normal x there = elim (Contains-append_cases (exit_suffixes a normal) (exit_suffixes a (jump k)) x there) [
      | inl on ↦ let (u, found, h) = i.leaves normal x on in (u, behind_part k s w f (value x.source u) found, normal_in u x.ops h)
      | inr jumped ↦ let (u, found, h) = i.leaves (jump k) x jumped in (u, behind_part k s w f (value x.source u) found, caught_in u x.ops h)
    ]
    catch_leaves (jump j) x there =
        let (apart, on) = only_other (same_exit j k) (exit_suffixes a (jump j)) x there in
        let (u, found, h) = i.leaves (jump j) x on in
        (u, behind_part k s w f (value x.source u) found, other_in j apart u x.ops h)

    catch_closed : IsInductiveThrough m o (catch q k a) v ended
    catch_closed = record {
      passes = catch_passes;
      enters = λ way there. met_more V H X m o s ended (behind_part k s w f) v way.ops way.goal (i.enters way there);
      leaves = catch_leaves;
      goes = λ x there. from_met V H X m o s ended (behind_part k s w f) x.source x.to_goal.ops x.to_goal.goal (i.goes x there);
    }

  -- a `switch` -----------------------------------------------------------------------------------------------------------
  select_closed : (q base : ℕ) (e : Expr) (arms : Arms) (v other : V) (r : PassResult V)
      → AreArmsClosed V H X m o (goes_in base e arms) (list_any (is_same_case Default) (entries_of arms)) v other arms None r
      → Keeps m o v (goes_in base e arms Default ∷ []) other → IsInductiveThrough m o (select q base e arms) v r
  select_closed q base e arms v other r i none = record {
    passes = λ h ops there. elim
        (Contains-append_cases (through_labels (goes_in base e arms) arms h)
        (past_labels (goes_in base e arms) (list_any (is_same_case Default) (entries_of arms)) h) ops there) [
          | inl labelled ↦ i.labels_pass h ops labelled
          | inr past ↦ passes (list_any (is_same_case Default) (entries_of arms)) h ops i.past past
        ];
    enters = i.labels_enter;
    leaves = i.leaves;
    goes = i.goes_in;
  }
    where
      passes : (d : Bool) (h : Completion) (ops : List SegmentStep) → (d ≡ false → Keeps m o other [] r.normal) →
          Contains (past_labels (goes_in base e arms) d h) ops
          → KeptBy m o v ops (IsExitValue r h)
      passes true h ops past there = absurd (contains_none ops there)
      passes false normal ops past there =
          subst (λ (l : List SegmentStep). KeptBy m o v l (λ y. y ≡ r.normal)) (one_from (goes_in base e arms Default ∷ []) ops there)
          (r.normal, refl, keeps_on V H X m o v other r.normal (goes_in base e arms Default ∷ []) none (past refl))
      passes false (jump j) ops past there = absurd (contains_none ops there)

  -- all trees ------------------------------------------------------------------------------------------------------------
  module _ (keep : KeepPoints m o) where
    -- a join of some values has the points of each
    joined_all : (v : V) (us : List V) (e : Exactness) (w : V) → AreJoined (lossy_operations m) v us e w
        → Keeps m o v [] w × ((u : V) → Contains us u → Keeps m o u [] w)
    joined_all v [] e w (same, exact) = (same_keeps V H X m o v w same, λ u there. absurd (contains_none u there))
    joined_all v (u ∷ us) e w (x, c, d, one, rest, worst) =
        let (first, others) = joined_all x us d w rest in (
          keeps_on V H X m o v x w [] (join_left V H X m o keep v u c x one) first,
          λ y there. elim (contains_cases u y us there) [
            | inl same ↦ subst (λ (z : V). Keeps m o z [] w) same (keeps_on V H X m o u x w [] (join_right V H X m o keep v u c x one) first)
            | inr later ↦ others y later
          ],
        )

    joined_call : (vs : List V) (n : V) (e : Exactness) (w : V) → AreJoined (lossy_operations m) (first_of_call vs n).0 (first_of_call vs n).1 e w
        → Keeps m o n [] w × ((u : V) → Contains vs u → Keeps m o u [] w)
    joined_call [] n e w h = joined_all n [] e w h
    joined_call (v ∷ vs) n e w h =
        let (first, others) = joined_all v (vs ++ n ∷ []) e w h in (
          others n (Contains-append_right vs (n ∷ []) n (contains_head n [])),
          λ u there. elim (contains_cases v u vs there) [
            | inl same ↦ subst (λ (z : V). Keeps m o z [] w) same first
            | inr later ↦ others u (Contains-append_left vs (n ∷ []) u later)
          ],
        )

    joined_caught : (k : Exit) (r : PassResult V) (e : Exactness) (w : V) → AreJoined (lossy_operations m) (values_behind k r).0 (values_behind k r).1 e w
        → Keeps m o r.normal [] w × ((u : V) → Contains (jumps_of k r) u → Keeps m o u [] w)
    joined_caught broken r e w h = joined_all r.normal r.breaks e w h
    joined_caught continued r e w h = joined_all r.normal r.continues e w h
    joined_caught returned r e w h = joined_call r.returns r.normal e w h

    runs_same : (live cap : ℕ) (run : Option V) (w : V) → RunsFrom (lossy_operations m) live cap run w → (u : V) → run ≡ Some u → w ≡ u
    runs_same live cap None w from u some = absurd (none-some u some)
    runs_same live cap (Some running) w same u some = same ∙ same_Some running u some

    module _ (set : Plan) (once : set.narrow ≡ 0) where
      not_narrowed : (q base : ℕ) (c : Cond) (a : Node) (first u : V) (s : PassResult V) (top : V) (t : PassResult V)
          → DescendingIteration V H (lossy_operations m) q base c (Pass V H (lossy_operations m) set a) set.narrow first u s top t → (top ≡ u) × (t ≡ s)
      not_narrowed q base c a first u s top t narrowed =
          subst (λ (n : ℕ). DescendingIteration V H (lossy_operations m) q base c (Pass V H (lossy_operations m) set a) n first u s top t) once narrowed

      is_same : (g : Node) (v : V) (r s : PassResult V) → r ≡ s → IsInductiveThrough m o g v s → IsInductiveThrough m o g v r
      is_same g v r s is h = subst (λ (x : PassResult V). IsInductiveThrough m o g v x) (sym is) h

      mutual
        pub tree_closed : (g : Node) (f : Option ℕ) (v : V) (r : PassResult V) → Pass V H (lossy_operations m) set g f v r → IsInductiveThrough m o g v r
        tree_closed empty f v r is = is_same empty v r _ is (empty_closed v f)
        tree_closed (probe q InterferencePoint) f v r (w, e, (same, exact), is) =
            is_same (probe q InterferencePoint) v r _ (is ∙ ap (λ (x : V). goes_on [] x (noted q e f)) same)
            (aside_closed q InterferencePoint v [] (noted q e f))
        tree_closed (probe q (RecordWrite place)) f v r is =
            is_same (probe q (RecordWrite place)) v r _ is (aside_closed q (RecordWrite place) v (recorded q place v ∷ []) f)
        tree_closed (point q) f v r is = is_same (point q) v r _ is (point_closed q v f)
        tree_closed (act q op) f v r (w, e, done, is) =
            is_same (act q op) v r _ is (act_closed q op v w (noted q e f) (change_keeps V H X m o keep op v e w done))
        tree_closed (check q base c) f v r (u, w, d, e, off, on, is) =
            is_same (check q base c) v r _ is (check_closed q base c v u w (noted q e (noted q d f)) (test_keeps V H X m o keep base c false v d u off)
            (test_keeps V H X m o keep base c true v e w on))
        tree_closed (seq a b) f v r (s, t, one, two, is) =
            is_same (seq a b) v r _ is (seq_closed a b v s t (tree_closed a f v s one) (tree_closed b s.flag s.normal t two))
        tree_closed (choose q base c a b) f v r (on, off, w, d, e, i, s, t, is_on, one, is_off, two, joined, is) =
            is_same (choose q base c a b) v r _ is (choose_closed q base c a b v on off w s t (noted q i t.flag)
            (test_keeps V H X m o keep base c true v d on is_on) (test_keeps V H X m o keep base c false v e off is_off)
            (tree_closed a (noted q d f) on s one) (tree_closed b (noted q e s.flag) off t two)
            (join_left V H X m o keep s.normal t.normal i w joined) (join_right V H X m o keep s.normal t.normal i w joined))
        tree_closed (iterate q base c a) f v r (h, later, u, top, out, s, t, e, started, grew, narrowed, off, is) =
            let i = grown V H X m o keep q base c a set (tree_closed a) set.widening set.delay f h later u s grew started.0.formed in
            let (same, turned) = not_narrowed q base c a v u s top t narrowed in
            let z = i.last.result in
            let whole : r ≡ round_of q u out (noted q e t.flag) z =
            is ∙ ap (λ (x : PassResult V). record x { normal = out; flag = noted q e t.flag }) (turned ∙ i.last.same) in
            let back = subst (λ (x : PassResult V). Keeps m o x.normal [] u) i.last.same i.last.back in
            let first = at_once V H X m o v u (i.dims ∙ started.1) (λ x k. i.on x (keep.started v _ h started.0 x k)) in
            let ends = test_keeps V H X m o keep base c false u e out (subst (λ (x : V). Filters (lossy_operations m) base c false x e out) same off) in
            is_same (iterate q base c a) v r _ whole
            (loop_closed V H X m o keep q base c a u i.last.first out (noted q e t.flag) z i.last.into i.last.body back ends v first)
        tree_closed (catch q k a) f v r (w, e, s, one, joined, is) =
            let (left, caught) = joined_caught k s e w joined in
            is_same (catch q k a) v r _ is (catch_closed q k a v w s (noted q e s.flag) (tree_closed a f v s one) left caught)
        tree_closed (leave n k) f v r (w, nothing, is) = is_same (leave n k) v r _ is (leave_closed n k v w f)
        tree_closed (select q base e arms) f v r (other, x, none, pass) =
            let labels = entries_of arms in
            let comes : (l : CaseLabel) (y : Exactness) (u : V) → Enters (lossy_operations m) base e l v other y u →
            Keeps m o v (goes_in base e arms l ∷ []) u =
            λ l y u is. label_keeps V H X m o keep base e labels l v other x y u none is in
            let i = arms_closed q base e (goes_in base e arms) (list_any (is_same_case Default) labels) v other comes arms (noted q x f) None r pass in
            select_closed q base e arms v other r i (comes Default Exact other (refl, refl))

        arms_closed : (q base : ℕ) (e : Expr) (go : CaseLabel → SegmentStep) (d : Bool) (v other : V)
            → ((l : CaseLabel) (y : Exactness) (u : V) → Enters (lossy_operations m) base e l v other y u → Keeps m o v (go l ∷ []) u)
            → (arms : Arms) (f : Option ℕ) (run : Option V) (r : PassResult V) → ArmsPass V H (lossy_operations m) set q base e d v other arms f run r
            → AreArmsClosed V H X m o go d v other arms run r
        arms_closed q base e go d v other comes no_arms f run r (w, x, out, is) =
            subst (λ (y : PassResult V). AreArmsClosed V H X m o go d v other no_arms run y) (sym is)
            (arms_end V H X m o keep go d v other run x w (noted q x f) out)
        arms_closed q base e go d v other comes (entry l arms) f run r (u, w, x, y, enters, joins, rest) =
            arms_labelled V H X m o keep go d v other l arms run u w y r (comes l x u enters) joins
            (arms_closed q base e go d v other comes arms (noted q y (noted q x f)) (Some w) r rest)
        arms_closed q base e go d v other comes (arm a arms) f run r (w, s, t, from, one, rest, is) =
            subst (λ (y : PassResult V). AreArmsClosed V H X m o go d v other (arm a arms) run y) (sym is)
            (arms_behind V H X m o keep go d v other a arms run w s t (runs_same (m.dims v) set.parts run w from) (tree_closed a f w s one)
            (arms_closed q base e go d v other comes arms s.flag (Some s.normal) t rest))
