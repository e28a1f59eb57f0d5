-- The tree segments of a tree are its segments, each kind in its order.
use Rattle.std.proofs.Common.{◌≡◌, ℕ, List, [], ◌∷◌, ◌++◌, map, filter, flat_map, Bool, true, false, not, cond, Option, Some, None, refl, sym, ap, ◌∙◌, append-nil, append_assoc}
use Rattle.std.specs.List.{list_any}
use Rattle.lra_path_segments.specs.Crates.{lra_base.CaseLabels.is_same_case, lra_base.declared.case_labels.CaseLabel.CaseLabel, lra_base.declared.case_labels.CaseLabel.TheVariants.Default}
use Rattle.lra_path_segments.specs.Crates.{lra_program.Program.Expr, lra_program.Program.Cond, lra_program.Step.Op, lra_program.Step.test}
use Rattle.lra_operations.specs.Tree.{Exit, broken, continued, returned, Completion, normal, jump, Node, empty, probe, point, act, check, seq, choose, iterate, catch, leave, select, Arms, no_arms}
use Rattle.lra_operations.specs.Tree.{entry, arm, entries_of}
use Rattle.lra_operations.proofs.ArmRows.{arms_row}
use Rattle.lra_path_segments.specs.Segments.{SegmentStep, does, Goal, comes_to, GoalSegment, Segment, Suffix, same_exit, each_then, then_way, then_ways, then_out, then_outs, segment_by, segments_by}
use Rattle.lra_path_segments.specs.Segments.{prepend_step, prepend_step_to_goal, with_test, tested_way, into_body, out_of_body, segment_to, through, enter, exit_suffixes, inside, goes_in, past_labels}
use Rattle.lra_path_segments.specs.TreeSegments.{End, exits, reaches, TreeSegment, tree_segment, starts, same_how, exits_as, starting, leaving, segments_of_kind, segments_not_of_kind, joined_segments}
use Rattle.lra_path_segments.specs.TreeSegments.{all_joined, sequenced, prefixed_by, prefixed, chosen_segments, source_or, back_to, turned, body_order, looped, ended, caught, tree_segments}
use Rattle.lra_path_segments.specs.TreeSegments.{nothing_done, past_all, labelled, selected, arms_segments, from_labels, goal_segments_at, suffixes_at, segments_at, passed, entered, gone, met}
use Rattle.lra_path_segments.specs.{Segments.through_arms, Segments.through_labels, Segments.enter_arms, Segments.enter_labels, TreeSegments.AreSegmentsOf}
use Rattle.lra_path_segments.proofs.FlatSteps.{flat_same, flat_none, flat_picked, flat_both, flat_unless, flat_two, flat_mapped, mapped_flat, flat_flat, all_mapped, both_same}
use Rattle.lra_path_segments.proofs.LabelLaws.{through_row, enter_row, outs_row, inside_row}

abbrev ends : TreeSegment → Bool
ends s = exits_as normal s.end

abbrev begins : TreeSegment → Bool
begins s = starts s.source

no_segment : (p : Option ℕ) (ops : List SegmentStep) (h : Completion) → segments_at p ops (exits h) ≡ []
no_segment None ops h = refl
no_segment (Some p) ops h = refl

-- one tree and then another ----------------------------------------------------------------------------------------------

-- each that is left at its end, with each that begins at its start
joined_all : {B L R : Type 0} (f : TreeSegment → List B) (l : TreeSegment → List L) (r : TreeSegment → List R) (k : R → L → B) (xs : List TreeSegment)
    → ((y : TreeSegment) → cond (begins y) (flat_map (λ x. f (joined_segments x y)) (filter ends xs)) [] ≡ flat_map (λ b. map (k b) (flat_map l xs)) (r y))
    → (ys : List TreeSegment) →
    flat_map f (flat_map (λ y. map (λ x. joined_segments x y) (filter ends xs)) (filter begins ys)) ≡ flat_map (λ b. map (k b) (flat_map l xs))
    (flat_map r ys)
joined_all f l r k xs h ys =
    flat_flat f (λ y. map (λ x. joined_segments x y) (filter ends xs)) (filter begins ys)
    ∙ flat_picked begins (λ y. flat_map f (map (λ x. joined_segments x y) (filter ends xs))) (λ y. flat_map (λ b. map (k b) (flat_map l xs)) (r y))
    (λ y. ap (λ u. cond (begins y) u []) (flat_mapped f (λ x. joined_segments x y) (filter ends xs)) ∙ h y) ys
    ∙ sym (flat_flat (λ b. map (k b) (flat_map l xs)) r ys)

-- with one
joined_one : {B L : Type 0} (f : TreeSegment → List B) (l : TreeSegment → List L) (k : L → B) (xs : List TreeSegment) →
    ((x : TreeSegment) → cond (ends x) (f x) [] ≡ map k (l x))
    → flat_map f (filter ends xs) ≡ map k (flat_map l xs) ++ []
joined_one f l k xs h = flat_picked ends f (λ x. map k (l x)) h xs ∙ sym (mapped_flat k l xs) ∙ sym (append-nil (map k (flat_map l xs)))

pass_pass : (a b : Bool) (ops ys : List SegmentStep) → cond b (cond a ((ops ++ ys) ∷ []) []) [] ≡ map (λ x. x ++ ys) (cond a (cond b (ops ∷ []) []) [])
pass_pass true true ops ys = refl
pass_pass true false ops ys = refl
pass_pass false true ops ys = refl
pass_pass false false ops ys = refl

pass_enter : (a b : Bool) (ops : List SegmentStep) (way : GoalSegment) →
    cond b (cond a (then_way way ops ∷ []) []) [] ≡ map (then_way way) (cond a (cond b (ops ∷ []) []) [])
pass_enter true true ops way = refl
pass_enter true false ops way = refl
pass_enter false true ops way = refl
pass_enter false false ops way = refl

go_pass : (b : Bool) (p : Option ℕ) (ops ys : List SegmentStep) → cond b (suffixes_at p (ops ++ ys)) [] ≡ map (then_out ys) (cond b (suffixes_at p ops) [])
go_pass true None ops ys = refl
go_pass true (Some p) ops ys = refl
go_pass false p ops ys = refl

go_enter : (b : Bool) (p : Option ℕ) (ops ys : List SegmentStep) (goal : Goal) → cond b (segments_at p (ops ++ ys) (reaches goal)) [] ≡ map
    (segment_by (record { ops = ys; goal = goal })) (cond b (suffixes_at p ops) [])
go_enter true None ops ys goal = refl
go_enter true (Some p) ops ys goal = refl
go_enter false p ops ys goal = refl

module _ (xs : List TreeSegment) where
  pass_with : (c d : Bool) (ys : List SegmentStep) →
      cond c (flat_map (λ (x : TreeSegment). cond (begins x) (cond d ((x.ops ++ ys) ∷ []) []) []) (filter ends xs)) []
      ≡ flat_map (λ b. map (λ x. x ++ b) (flat_map (passed normal) xs)) (cond c (cond d (ys ∷ []) []) [])
  pass_with false d ys = refl
  pass_with true false ys = flat_none (λ (x : TreeSegment). cond (begins x) [] []) (λ x. both_same (begins x) []) (filter ends xs)
  pass_with true true ys = joined_one (λ (x : TreeSegment). cond (begins x) ((x.ops ++ ys) ∷ []) []) (passed normal) (λ x. x ++ ys) xs
      (λ x. pass_pass (begins x) (ends x) x.ops ys)

  enter_with : (c : Bool) (ys : List SegmentStep) (e : End) →
      cond c (flat_map (λ (x : TreeSegment). cond (begins x) (goal_segments_at (x.ops ++ ys) e) []) (filter ends xs)) []
      ≡ flat_map (λ way. map (then_way way) (flat_map (passed normal) xs)) (cond c (goal_segments_at ys e) [])
  enter_with false ys e = refl
  enter_with true ys (exits k) = flat_none (λ (x : TreeSegment). cond (begins x) [] []) (λ x. both_same (begins x) []) (filter ends xs)
  enter_with true ys (reaches goal) =
      let way : GoalSegment = record { ops = ys; goal = goal } in
      joined_one (λ (x : TreeSegment). cond (begins x) (then_way way x.ops ∷ []) []) (passed normal) (then_way way) xs
      (λ x. pass_enter (begins x) (ends x) x.ops way)

  go_with : (c d : Bool) (ys : List SegmentStep) → cond c (flat_map (λ (x : TreeSegment). cond d (suffixes_at x.source (x.ops ++ ys)) []) (filter ends xs)) []
      ≡ flat_map (λ b. map (then_out b) (flat_map (gone normal) xs)) (cond c (cond d (ys ∷ []) []) [])
  go_with false d ys = refl
  go_with true false ys = flat_none (λ (x : TreeSegment). []) (λ x. refl) (filter ends xs)
  go_with true true ys =
      joined_one (λ (x : TreeSegment). suffixes_at x.source (x.ops ++ ys)) (gone normal) (then_out ys) xs (λ x. go_pass (ends x) x.source x.ops
      ys)

  meet_with : (c : Bool) (ys : List SegmentStep) (e : End) → cond c (flat_map (λ (x : TreeSegment). segments_at x.source (x.ops ++ ys) e) (filter ends xs)) []
      ≡ flat_map (λ way. map (segment_by way) (flat_map (gone normal) xs)) (cond c (goal_segments_at ys e) [])
  meet_with false ys e = refl
  meet_with true ys (exits k) = flat_none (λ (x : TreeSegment). segments_at x.source (x.ops ++ ys) (exits k)) (λ x. no_segment x.source (x.ops ++
      ys) k) (filter ends xs)
  meet_with true ys (reaches goal) =
      joined_one (λ (x : TreeSegment). segments_at x.source (x.ops ++ ys) (reaches goal)) (gone normal) (segment_by (record { ops = ys; goal = goal })) xs
      (λ x. go_enter (ends x) x.source x.ops ys goal)

-- what doesn't end the first tree stays
stay_passed : (a : Bool) (ops : List SegmentStep) (j : Exit) (e : End) →
    cond (not (exits_as normal e)) (cond a (cond (exits_as (jump j) e) (ops ∷ []) []) []) [] ≡
    cond a (cond (exits_as (jump j) e) (ops ∷ []) []) []
stay_passed true ops j (exits normal) = refl
stay_passed false ops j (exits normal) = refl
stay_passed a ops j (exits (jump k)) = refl
stay_passed a ops j (reaches goal) = refl

gone_passed : (a b : Bool) (ops : List SegmentStep) → cond (not b) (cond a (cond b (ops ∷ []) []) []) [] ≡ []
gone_passed true true ops = refl
gone_passed true false ops = refl
gone_passed false true ops = refl
gone_passed false false ops = refl

stay_entered : (a : Bool) (ops : List SegmentStep) (e : End) →
    cond (not (exits_as normal e)) (cond a (goal_segments_at ops e) []) [] ≡ cond a (goal_segments_at ops e) []
stay_entered true ops (exits normal) = refl
stay_entered false ops (exits normal) = refl
stay_entered a ops (exits (jump k)) = refl
stay_entered a ops (reaches goal) = refl

stay_gone : (p : Option ℕ) (ops : List SegmentStep) (j : Exit) (e : End) → cond (not (exits_as normal e)) (cond (exits_as (jump j) e) (suffixes_at p ops) []) []
    ≡ cond (exits_as (jump j) e) (suffixes_at p ops) []
stay_gone p ops j (exits normal) = refl
stay_gone p ops j (exits (jump k)) = refl
stay_gone p ops j (reaches goal) = refl

gone_gone : (b : Bool) (p : Option ℕ) (ops : List SegmentStep) → cond (not b) (cond b (suffixes_at p ops) []) [] ≡ []
gone_gone true p ops = refl
gone_gone false p ops = refl

stay_met : (p : Option ℕ) (ops : List SegmentStep) (e : End) → cond (not (exits_as normal e)) (segments_at p ops e) [] ≡ segments_at p ops e
stay_met p ops (exits normal) = sym (no_segment p ops normal)
stay_met p ops (exits (jump k)) = refl
stay_met p ops (reaches goal) = refl

-- what begins in the second tree is no segment from the start
later_none : {B : Type 0} (a : Bool) (xs : List B) → cond (not a) (cond a xs []) [] ≡ []
later_none true xs = refl
later_none false xs = refl

later_gone : (p : Option ℕ) (ops : List SegmentStep) (b : Bool) → cond (not (starts p)) (cond b (suffixes_at p ops) []) [] ≡ cond b (suffixes_at p ops) []
later_gone None ops true = refl
later_gone None ops false = refl
later_gone (Some p) ops b = refl

later_met : (p : Option ℕ) (ops : List SegmentStep) (e : End) → cond (not (starts p)) (segments_at p ops e) [] ≡ segments_at p ops e
later_met None ops e = refl
later_met (Some p) ops e = refl

three_parts : {B : Type 0} (f : TreeSegment → List B) (xs ys zs : List TreeSegment) (us vs ws : List B) → flat_map f xs ≡ us → flat_map f ys ≡ vs →
    flat_map f zs ≡ ws
    → flat_map f (xs ++ ys ++ zs) ≡ us ++ vs ++ ws
three_parts f xs ys zs us vs ws h k i = flat_two f (xs ++ ys) zs (us ++ vs) ws (flat_two f xs ys us vs h k) i

module _ (g h : Node) (xs ys : List TreeSegment) (a : AreSegmentsOf xs g) (b : AreSegmentsOf ys h) where
  abbrev left : List TreeSegment
  left = segments_not_of_kind (leaving normal) xs

  abbrev both : List TreeSegment
  both = all_joined (segments_of_kind (leaving normal) xs) (segments_of_kind starting ys)

  abbrev right : List TreeSegment
  right = segments_not_of_kind starting ys

  both_pass : (w : Completion) → flat_map (passed w) both ≡ each_then (through g normal) (through h w)
  both_pass w =
      joined_all (passed w) (passed normal) (passed w) (λ y x. x ++ y) xs (λ y. pass_with xs (begins y) (exits_as w y.end) y.ops) ys
      ∙ ap (λ u. each_then u (flat_map (passed w) ys)) (a.passes normal) ∙ ap (λ u. each_then (through g normal) u) (b.passes w)

  both_enter : flat_map entered both ≡ then_ways (through g normal) (enter h)
  both_enter =
      joined_all entered (passed normal) entered then_way xs (λ y. enter_with xs (begins y) y.ops y.end) ys
      ∙ ap (λ u. then_ways u (flat_map entered ys)) (a.passes normal) ∙ ap (λ u. then_ways (through g normal) u) b.enters

  both_go : (w : Completion) → flat_map (gone w) both ≡ then_outs (exit_suffixes g normal) (through h w)
  both_go w =
      joined_all (gone w) (gone normal) (passed w) then_out xs (λ y. go_with xs (begins y) (exits_as w y.end) y.ops) ys
      ∙ ap (λ u. then_outs u (flat_map (passed w) ys)) (a.goes normal) ∙ ap (λ u. then_outs (exit_suffixes g normal) u) (b.passes w)

  both_meet : flat_map met both ≡ segments_by (exit_suffixes g normal) (enter h)
  both_meet =
      joined_all met (gone normal) entered segment_by xs (λ y. meet_with xs (begins y) y.ops y.end) ys
      ∙ ap (λ u. segments_by u (flat_map entered ys)) (a.goes normal) ∙ ap (λ u. segments_by (exit_suffixes g normal) u) b.enters

  left_passes : (j : Exit) → flat_map (passed (jump j)) left ≡ through g (jump j)
  left_passes j = flat_picked (λ s. not (ends s)) (passed (jump j)) (passed (jump j)) (λ s. stay_passed (begins s) s.ops j s.end) xs ∙ a.passes (jump j)

  left_none : flat_map (passed normal) left ≡ []
  left_none = flat_picked (λ s. not (ends s)) (passed normal) (λ s. []) (λ s. gone_passed (begins s) (ends s) s.ops) xs ∙ flat_none (λ s. []) (λ s. refl) xs

  left_enters : flat_map entered left ≡ enter g
  left_enters = flat_picked (λ s. not (ends s)) entered entered (λ s. stay_entered (begins s) s.ops s.end) xs ∙ a.enters

  left_goes : (j : Exit) → flat_map (gone (jump j)) left ≡ exit_suffixes g (jump j)
  left_goes j = flat_picked (λ s. not (ends s)) (gone (jump j)) (gone (jump j)) (λ s. stay_gone s.source s.ops j s.end) xs ∙ a.goes (jump j)

  left_gone : flat_map (gone normal) left ≡ []
  left_gone = flat_picked (λ s. not (ends s)) (gone normal) (λ s. []) (λ s. gone_gone (ends s) s.source s.ops) xs ∙ flat_none (λ s. []) (λ s. refl) xs

  left_meets : flat_map met left ≡ inside g
  left_meets = flat_picked (λ s. not (ends s)) met met (λ s. stay_met s.source s.ops s.end) xs ∙ a.reaches

  right_passes : (w : Completion) → flat_map (passed w) right ≡ []
  right_passes w = flat_picked (λ s. not (begins s)) (passed w) (λ s. []) (λ s. later_none (begins s) (cond (exits_as w s.end) (s.ops ∷ []) [])) ys ∙
      flat_none (λ s. []) (λ s. refl) ys

  right_enters : flat_map entered right ≡ []
  right_enters = flat_picked (λ s. not (begins s)) entered (λ s. []) (λ s. later_none (begins s) (goal_segments_at s.ops s.end)) ys
      ∙ flat_none (λ s. []) (λ s. refl) ys

  right_goes : (w : Completion) → flat_map (gone w) right ≡ exit_suffixes h w
  right_goes w = flat_picked (λ s. not (begins s)) (gone w) (gone w) (λ s. later_gone s.source s.ops (exits_as w s.end)) ys ∙ b.goes w

  right_meets : flat_map met right ≡ inside h
  right_meets = flat_picked (λ s. not (begins s)) met met (λ s. later_met s.source s.ops s.end) ys ∙ b.reaches

  turn_passes : (w : Completion) → flat_map (passed w) (sequenced xs ys) ≡ through (seq g h) w
  turn_passes normal =
      three_parts (passed normal) left both right [] (each_then (through g normal) (through h normal)) [] left_none (both_pass normal) (right_passes normal)
      ∙ append-nil (each_then (through g normal) (through h normal))
  turn_passes (jump j) =
      three_parts (passed (jump j)) left both right (through g (jump j)) (each_then (through g normal) (through h (jump j))) [] (left_passes j)
      (both_pass (jump j)) (right_passes (jump j))
      ∙ append-nil (through g (jump j) ++ each_then (through g normal) (through h (jump j)))

  turn_goes : (w : Completion) → flat_map (gone w) (sequenced xs ys) ≡ exit_suffixes (seq g h) w
  turn_goes normal = three_parts (gone normal) left both right [] (then_outs (exit_suffixes g normal) (through h normal)) (exit_suffixes h normal) left_gone
      (both_go normal)
      (right_goes normal)
  turn_goes (jump j) =
      three_parts (gone (jump j)) left both right (exit_suffixes g (jump j)) (then_outs (exit_suffixes g normal) (through h (jump j)))
      (exit_suffixes h (jump j)) (left_goes j)
      (both_go (jump j)) (right_goes (jump j))

  turn_ways : AreSegmentsOf (sequenced xs ys) (seq g h)
  turn_ways = record {
    passes = turn_passes;
    enters = three_parts entered left both right (enter g) (then_ways (through g normal) (enter h)) [] left_enters both_enter right_enters
        ∙ append-nil (enter g ++ then_ways (through g normal) (enter h));
    goes = turn_goes;
    reaches = three_parts met left both right (inside g) (segments_by (exit_suffixes g normal) (enter h)) (inside h) left_meets both_meet right_meets;
  }

-- choices ----------------------------------------------------------------------------------------------------------------

module _ (step : SegmentStep) where
  prefixed_bool : (b : Bool) (ops : List SegmentStep) → cond b ((step ∷ ops) ∷ []) [] ≡ map (prepend_step step) (cond b (ops ∷ []) [])
  prefixed_bool true ops = refl
  prefixed_bool false ops = refl

  prefixed_passed : (h : Completion) (p : Option ℕ) (ops : List SegmentStep) (e : End) → passed h (prefixed_by step p ops e) ≡ map (prepend_step step)
      (cond (starts p) (cond (exits_as h e) (ops ∷ []) []) [])
  prefixed_passed h None ops e = prefixed_bool (exits_as h e) ops
  prefixed_passed h (Some p) ops e = refl

  prefixed_entered : (p : Option ℕ) (ops : List SegmentStep) (e : End) →
      entered (prefixed_by step p ops e) ≡ map (prepend_step_to_goal step) (cond (starts p) (goal_segments_at ops e) [])
  prefixed_entered None ops (exits k) = refl
  prefixed_entered None ops (reaches goal) = refl
  prefixed_entered (Some p) ops e = refl

  prefixed_gone : (h : Completion) (p : Option ℕ) (ops : List SegmentStep) (e : End) →
      gone h (prefixed_by step p ops e) ≡ cond (exits_as h e) (suffixes_at p ops) []
  prefixed_gone h None ops e = refl
  prefixed_gone h (Some p) ops e = refl

  prefixed_met : (p : Option ℕ) (ops : List SegmentStep) (e : End) → met (prefixed_by step p ops e) ≡ segments_at p ops e
  prefixed_met None ops e = refl
  prefixed_met (Some p) ops e = refl

  all_passed : (h : Completion) (xs : List TreeSegment) → flat_map (passed h) (map (prefixed step) xs) ≡ map (prepend_step step) (flat_map (passed h) xs)
  all_passed h xs = all_mapped (prefixed step) (passed h) (passed h) (prepend_step step) (λ s. prefixed_passed h s.source s.ops s.end) xs

  all_entered : (xs : List TreeSegment) → flat_map entered (map (prefixed step) xs) ≡ map (prepend_step_to_goal step) (flat_map entered xs)
  all_entered xs = all_mapped (prefixed step) entered entered (prepend_step_to_goal step) (λ s. prefixed_entered s.source s.ops s.end) xs

  all_gone : (h : Completion) (xs : List TreeSegment) → flat_map (gone h) (map (prefixed step) xs) ≡ flat_map (gone h) xs
  all_gone h xs = flat_mapped (gone h) (prefixed step) xs ∙ flat_same (λ s. gone h (prefixed step s)) (gone h) (λ s. prefixed_gone h s.source s.ops s.end) xs

  all_met : (xs : List TreeSegment) → flat_map met (map (prefixed step) xs) ≡ flat_map met xs
  all_met xs = flat_mapped met (prefixed step) xs ∙ flat_same (λ s. met (prefixed step s)) met (λ s. prefixed_met s.source s.ops s.end) xs

choice_ways : (q base : ℕ) (c : Cond) (g h : Node) (xs ys : List TreeSegment) → AreSegmentsOf xs g → AreSegmentsOf ys h →
    AreSegmentsOf (chosen_segments base c xs ys) (choose q base c g h)
choice_ways q base c g h xs ys a b =
    let on : SegmentStep = does (test base c true) in
    let off : SegmentStep = does (test base c false) in
    let yes : List TreeSegment = map (prefixed on) xs in
    let no : List TreeSegment = map (prefixed off) ys in
    record {
      passes = λ w. flat_two (passed w) yes no (map (with_test base c true) (through g w)) (map (with_test base c false) (through h w))
          (all_passed on w xs ∙ ap (map (prepend_step on)) (a.passes w)) (all_passed off w ys ∙ ap (map (prepend_step off)) (b.passes w));
      enters = flat_two entered yes no (map (tested_way base c true) (enter g)) (map (tested_way base c false) (enter h))
          (all_entered on xs ∙ ap (map (prepend_step_to_goal on)) a.enters) (all_entered off ys ∙ ap (map (prepend_step_to_goal off)) b.enters);
      goes = λ w. flat_two (gone w) yes no (exit_suffixes g w) (exit_suffixes h w) (all_gone on w xs ∙ a.goes w) (all_gone off w ys ∙ b.goes w);
      reaches = flat_two met yes no (inside g) (inside h) (all_met on xs ∙ a.reaches) (all_met off ys ∙ b.reaches);
    }

-- loops ------------------------------------------------------------------------------------------------------------------

-- which part of the body's segments each is
module _ (q base : ℕ) (c : Cond) where
  abbrev on : SegmentStep
  on = does (test base c true)

  abbrev turn : Option ℕ → List SegmentStep → End → TreeSegment
  turn p ops e = tree_segment (Some (source_or q p)) (prefixed_by on p ops e).ops (back_to q e)

  no_passed : (h : Completion) (s : TreeSegment) → passed h (turned q on s) ≡ []
  no_passed h s = refl

  no_entered : (s : TreeSegment) → entered (turned q on s) ≡ []
  no_entered s = refl

  no_gone : (p : Option ℕ) (ops : List SegmentStep) (e : End) → gone normal (turn p ops e) ≡ []
  no_gone p ops (exits normal) = refl
  no_gone p ops (exits (jump k)) = refl
  no_gone p ops (reaches goal) = refl

  out_bool : (b : Bool) (ops : List SegmentStep) → cond b (suffixes_at (Some q) (on ∷ ops)) [] ≡ map (out_of_body q base c) (cond b (ops ∷ []) [])
  out_bool true ops = refl
  out_bool false ops = refl

  into_gone : (j : Exit) (p : Option ℕ) (ops : List SegmentStep) (e : End) →
      cond (starts p) (cond (not (exits_as normal e)) (gone (jump j) (turn p ops e)) []) []
      ≡ map (out_of_body q base c) (cond (starts p) (cond (exits_as (jump j) e) (ops ∷ []) []) [])
  into_gone j None ops (exits normal) = refl
  into_gone j None ops (exits (jump k)) = out_bool (same_exit j k) ops
  into_gone j None ops (reaches goal) = refl
  into_gone j (Some p) ops e = refl

  past_gone : (j : Exit) (p : Option ℕ) (ops : List SegmentStep) (e : End) →
      cond (starts p) (cond (exits_as normal e) (gone (jump j) (turn p ops e)) []) [] ≡ []
  past_gone j None ops (exits normal) = refl
  past_gone j None ops (exits (jump k)) = refl
  past_gone j None ops (reaches goal) = refl
  past_gone j (Some p) ops e = refl

  back_gone : (j : Exit) (p : Option ℕ) (ops : List SegmentStep) (e : End)
      → cond (not (starts p)) (cond (exits_as normal e) (gone (jump j) (turn p ops e)) []) [] ≡ []
  back_gone j None ops e = refl
  back_gone j (Some p) ops (exits normal) = refl
  back_gone j (Some p) ops (exits (jump k)) = refl
  back_gone j (Some p) ops (reaches goal) = refl

  rest_gone : (j : Exit) (p : Option ℕ) (ops : List SegmentStep) (e : End)
      → cond (not (starts p)) (cond (not (exits_as normal e)) (gone (jump j) (turn p ops e)) []) []
      ≡ cond (exits_as (jump j) e) (suffixes_at p ops) []
  rest_gone j None ops e = sym (both_same (exits_as (jump j) e) [])
  rest_gone j (Some p) ops (exits normal) = refl
  rest_gone j (Some p) ops (exits (jump k)) = refl
  rest_gone j (Some p) ops (reaches goal) = refl

  into_met : (p : Option ℕ) (ops : List SegmentStep) (e : End) → cond (starts p) (cond (not (exits_as normal e)) (met (turn p ops e)) []) []
      ≡ map (into_body q base c) (cond (starts p) (goal_segments_at ops e) [])
  into_met None ops (exits normal) = refl
  into_met None ops (exits (jump k)) = refl
  into_met None ops (reaches goal) = refl
  into_met (Some p) ops e = refl

  abbrev round : List SegmentStep → Segment
  round x = segment_to q (out_of_body q base c x)

  past_met : (p : Option ℕ) (ops : List SegmentStep) (e : End) → cond (starts p) (cond (exits_as normal e) (met (turn p ops e)) []) []
      ≡ map round (cond (starts p) (cond (exits_as normal e) (ops ∷ []) []) [])
  past_met None ops (exits normal) = refl
  past_met None ops (exits (jump k)) = refl
  past_met None ops (reaches goal) = refl
  past_met (Some p) ops e = refl

  back_met : (p : Option ℕ) (ops : List SegmentStep) (e : End) → cond (not (starts p)) (cond (exits_as normal e) (met (turn p ops e)) []) []
      ≡ map (segment_to q) (cond (exits_as normal e) (suffixes_at p ops) [])
  back_met None ops (exits normal) = refl
  back_met None ops (exits (jump k)) = refl
  back_met None ops (reaches goal) = refl
  back_met (Some p) ops (exits normal) = refl
  back_met (Some p) ops (exits (jump k)) = refl
  back_met (Some p) ops (reaches goal) = refl

  rest_met : (p : Option ℕ) (ops : List SegmentStep) (e : End)
      → cond (not (starts p)) (cond (not (exits_as normal e)) (met (turn p ops e)) []) [] ≡ segments_at p ops e
  rest_met None ops e = refl
  rest_met (Some p) ops (exits normal) = refl
  rest_met (Some p) ops (exits (jump k)) = refl
  rest_met (Some p) ops (reaches goal) = refl

  module _ (ss : List TreeSegment) where
    abbrev into : List TreeSegment
    into = segments_not_of_kind (leaving normal) (segments_of_kind starting ss)

    abbrev past : List TreeSegment
    past = segments_of_kind (leaving normal) (segments_of_kind starting ss)

    abbrev back : List TreeSegment
    back = segments_of_kind (leaving normal) (segments_not_of_kind starting ss)

    abbrev rest : List TreeSegment
    rest = segments_not_of_kind (leaving normal) (segments_not_of_kind starting ss)

  four_parts : {B : Type 0} (f : TreeSegment → List B) (ss : List TreeSegment) (us vs ws zs : List B) → flat_map (λ s. f (turned q on s)) (into ss) ≡ us
      → flat_map (λ s. f (turned q on s)) (past ss) ≡ vs → flat_map (λ s. f (turned q on s)) (back ss) ≡ ws → flat_map (λ s. f (turned q on s)) (rest ss) ≡ zs
      → flat_map f (map (turned q on) (body_order ss)) ≡ us ++ vs ++ ws ++ zs
  four_parts f ss us vs ws zs h k i j =
      let g = λ (s : TreeSegment). f (turned q on s) in
      flat_mapped f (turned q on) (body_order ss)
      ∙ flat_two g (into ss ++ past ss ++ back ss) (rest ss) (us ++ vs ++ ws) zs
      (flat_two g (into ss ++ past ss) (back ss) (us ++ vs) ws (flat_two g (into ss) (past ss) us vs h k) i) j

  module _ (g : Node) (ss : List TreeSegment) (a : AreSegmentsOf ss g) where
    loop_goes : (w : Completion) → flat_map (gone w) (looped q base c ss) ≡ exit_suffixes (iterate q base c g) w
    loop_goes normal =
        let e = flat_mapped (gone normal) (turned q on) (body_order ss) ∙ flat_none (λ s. gone normal (turned q on s)) (λ s. no_gone s.source s.ops s.end)
        (body_order ss) in
        ap (λ (u : List Suffix). record { source = q; ops = does (test base c false) ∷ [] } ∷ u) e
    loop_goes (jump j) =
        let f = λ (s : TreeSegment). gone (jump j) (turned q on s) in
        four_parts (gone (jump j)) ss (map (out_of_body q base c) (through g (jump j))) [] [] (exit_suffixes g (jump j))
        (flat_both begins (λ s. not (ends s)) f (λ s. map (out_of_body q base c) (passed (jump j) s)) (λ s. into_gone j s.source s.ops s.end) ss
        ∙ sym (mapped_flat (out_of_body q base c) (passed (jump j)) ss) ∙ ap (map (out_of_body q base c)) (a.passes (jump j)))
        (flat_both begins ends f (λ s. []) (λ s. past_gone j s.source s.ops s.end) ss ∙ flat_none (λ s. []) (λ s. refl) ss)
        (flat_both (λ s. not (begins s)) ends f (λ s. []) (λ s. back_gone j s.source s.ops s.end) ss ∙ flat_none (λ s. []) (λ s. refl) ss)
        (flat_both (λ s. not (begins s)) (λ s. not (ends s)) f (gone (jump j)) (λ s. rest_gone j s.source s.ops s.end) ss ∙ a.goes (jump j))
        ∙ ap (λ (u : List Suffix). u ++ exit_suffixes g (jump j)) (append-nil (map (out_of_body q base c) (through g (jump j)) ++ []) ∙ append-nil
        (map (out_of_body q base c) (through g (jump j))))

    loop_meets : flat_map met (looped q base c ss) ≡ inside (iterate q base c g)
    loop_meets =
        let f = λ (s : TreeSegment). met (turned q on s) in
        four_parts met ss (map (into_body q base c) (enter g)) (map round (through g normal)) (map (segment_to q) (exit_suffixes g normal)) (inside g)
        (flat_both begins (λ s. not (ends s)) f (λ s. map (into_body q base c) (entered s)) (λ s. into_met s.source s.ops s.end) ss
        ∙ sym (mapped_flat (into_body q base c) entered ss) ∙ ap (map (into_body q base c)) a.enters)
        (flat_both begins ends f (λ s. map round (passed normal s)) (λ s. past_met s.source s.ops s.end) ss ∙ sym (mapped_flat round (passed normal) ss) ∙ ap
        (map round) (a.passes normal))
        (flat_both (λ s. not (begins s)) ends f (λ s. map (segment_to q) (gone normal s)) (λ s. back_met s.source s.ops s.end) ss
        ∙ sym (mapped_flat (segment_to q) (gone normal) ss) ∙ ap (map (segment_to q)) (a.goes normal))
        (flat_both (λ s. not (begins s)) (λ s. not (ends s)) f met (λ s. rest_met s.source s.ops s.end) ss ∙ a.reaches)

    loop_ways : AreSegmentsOf (looped q base c ss) (iterate q base c g)
    loop_ways = record {
      passes = λ w. flat_mapped (passed w) (turned q on) (body_order ss) ∙ flat_none (λ s. passed w (turned q on s)) (λ s. no_passed w s) (body_order ss);
      enters = ap (λ (u : List GoalSegment). record { ops = []; goal = comes_to q } ∷ u)
          (flat_mapped entered (turned q on) (body_order ss) ∙ flat_none (λ s. entered (turned q on s)) (λ s. no_entered s) (body_order ss));
      goes = loop_goes;
      reaches = loop_meets;
    }

-- jumps that come out after the tree ----------------------------------------------------------------------------------

not_caught : {A : Type 0} (j k i : Exit) (xs : List A) → cond (not (same_exit k i)) (cond (same_exit j i) xs []) [] ≡ cond (same_exit j k) []
    (cond (same_exit j i) xs [])
not_caught broken broken broken xs = refl
not_caught broken broken continued xs = refl
not_caught broken broken returned xs = refl
not_caught broken continued broken xs = refl
not_caught broken continued continued xs = refl
not_caught broken continued returned xs = refl
not_caught broken returned broken xs = refl
not_caught broken returned continued xs = refl
not_caught broken returned returned xs = refl
not_caught continued broken broken xs = refl
not_caught continued broken continued xs = refl
not_caught continued broken returned xs = refl
not_caught continued continued broken xs = refl
not_caught continued continued continued xs = refl
not_caught continued continued returned xs = refl
not_caught continued returned broken xs = refl
not_caught continued returned continued xs = refl
not_caught continued returned returned xs = refl
not_caught returned broken broken xs = refl
not_caught returned broken continued xs = refl
not_caught returned broken returned xs = refl
not_caught returned continued broken xs = refl
not_caught returned continued continued xs = refl
not_caught returned continued returned xs = refl
not_caught returned returned broken xs = refl
not_caught returned returned continued xs = refl
not_caught returned returned returned xs = refl

never : {A : Type 0} (b c : Bool) (x : A) → cond b (cond c x x) x ≡ x
never true true x = refl
never true false x = refl
never false c x = refl

module _ (k : Exit) where
  abbrev jumps : TreeSegment → Bool
  jumps s = exits_as (jump k) s.end

  kept_pass : (a : Bool) (ops : List SegmentStep) (e : End) → cond (not (exits_as (jump k) e)) (cond a (cond (exits_as normal e) (ops ∷ []) []) []) [] ≡ cond a
      (cond (exits_as normal e) (ops ∷ []) []) []
  kept_pass a ops (exits normal) = refl
  kept_pass a ops (exits (jump i)) = never (not (same_exit k i)) a [] ∙ sym (both_same a [])
  kept_pass a ops (reaches goal) = refl

  come_pass : (a b : Bool) (ops : List SegmentStep) → cond b (cond a (ops ∷ []) []) [] ≡ cond a (cond b (ops ∷ []) []) []
  come_pass true true ops = refl
  come_pass true false ops = refl
  come_pass false true ops = refl
  come_pass false false ops = refl

  kept_jump : (j : Exit) (a : Bool) (ops : List SegmentStep) (e : End) →
      cond (not (exits_as (jump k) e)) (cond a (cond (exits_as (jump j) e) (ops ∷ []) []) []) []
      ≡ cond (same_exit j k) [] (cond a (cond (exits_as (jump j) e) (ops ∷ []) []) [])
  kept_jump j false ops e = both_same (not (exits_as (jump k) e)) [] ∙ sym (both_same (same_exit j k) [])
  kept_jump j true ops (exits normal) = sym (both_same (same_exit j k) [])
  kept_jump j true ops (exits (jump i)) = not_caught j k i (ops ∷ [])
  kept_jump j true ops (reaches goal) = sym (both_same (same_exit j k) [])

  kept_enter : (a : Bool) (ops : List SegmentStep) (e : End) →
      cond (not (exits_as (jump k) e)) (cond a (goal_segments_at ops e) []) [] ≡ cond a (goal_segments_at ops e) []
  kept_enter a ops (exits h) = never (not (exits_as (jump k) (exits h))) a [] ∙ sym (both_same a [])
  kept_enter a ops (reaches goal) = refl

  kept_go : (p : Option ℕ) (ops : List SegmentStep) (e : End) → cond (not (exits_as (jump k) e)) (cond (exits_as normal e) (suffixes_at p ops) []) [] ≡ cond
      (exits_as normal e) (suffixes_at p ops) []
  kept_go p ops (exits normal) = refl
  kept_go p ops (exits (jump i)) = both_same (not (same_exit k i)) []
  kept_go p ops (reaches goal) = refl

  kept_off : (j : Exit) (p : Option ℕ) (ops : List SegmentStep) (e : End) →
      cond (not (exits_as (jump k) e)) (cond (exits_as (jump j) e) (suffixes_at p ops) []) []
      ≡ cond (same_exit j k) [] (cond (exits_as (jump j) e) (suffixes_at p ops) [])
  kept_off j p ops (exits normal) = sym (both_same (same_exit j k) [])
  kept_off j p ops (exits (jump i)) = not_caught j k i (suffixes_at p ops)
  kept_off j p ops (reaches goal) = sym (both_same (same_exit j k) [])

  kept_meet : (p : Option ℕ) (ops : List SegmentStep) (e : End) → cond (not (exits_as (jump k) e)) (segments_at p ops e) [] ≡ segments_at p ops e
  kept_meet p ops (exits h) = ap (λ (u : List Segment). cond (not (exits_as (jump k) (exits h))) u []) (no_segment p ops h) ∙ both_same
      (not (exits_as (jump k) (exits h))) [] ∙ sym (no_segment p ops h)
  kept_meet p ops (reaches goal) = refl

  module _ (q : ℕ) (g : Node) (ss : List TreeSegment) (a : AreSegmentsOf ss g) where
    abbrev kept : List TreeSegment
    kept = segments_not_of_kind (leaving (jump k)) ss

    abbrev came : List TreeSegment
    came = map ended (segments_of_kind (leaving (jump k)) ss)

    -- what comes out of the tree, ended
    none_came : {B : Type 0} (f : TreeSegment → List B) → ((s : TreeSegment) → f (ended s) ≡ []) → flat_map f came ≡ []
    none_came f h = flat_mapped f ended (segments_of_kind (leaving (jump k)) ss) ∙ flat_none (λ s. f (ended s)) h (segments_of_kind (leaving (jump k)) ss)

    catch_passes : (w : Completion) → flat_map (passed w) (caught k ss) ≡ through (catch q k g) w
    catch_passes normal =
        flat_two (passed normal) kept came (through g normal) (through g (jump k))
        (flat_picked (λ s. not (jumps s)) (passed normal) (passed normal) (λ s. kept_pass (begins s) s.ops s.end) ss ∙ a.passes normal)
        (flat_mapped (passed normal) ended (segments_of_kind (leaving (jump k)) ss)
        ∙ flat_picked jumps (λ s. passed normal (ended s)) (passed (jump k)) (λ s. come_pass (begins s) (jumps s) s.ops) ss ∙ a.passes (jump k))
    catch_passes (jump j) =
        flat_two (passed (jump j)) kept came (cond (same_exit j k) [] (through g (jump j))) []
        (flat_picked (λ s. not (jumps s)) (passed (jump j)) (λ s. cond (same_exit j k) [] (passed (jump j) s)) (λ s. kept_jump j (begins s) s.ops s.end) ss
        ∙ flat_unless (same_exit j k) (passed (jump j)) ss ∙ ap (λ (u : List (List SegmentStep)). cond (same_exit j k) [] u) (a.passes (jump j)))
        (none_came (passed (jump j)) (λ s. both_same (begins s) []))
        ∙ append-nil (cond (same_exit j k) [] (through g (jump j)))

    catch_goes : (w : Completion) → flat_map (gone w) (caught k ss) ≡ exit_suffixes (catch q k g) w
    catch_goes normal =
        flat_two (gone normal) kept came (exit_suffixes g normal) (exit_suffixes g (jump k))
        (flat_picked (λ s. not (jumps s)) (gone normal) (gone normal) (λ s. kept_go s.source s.ops s.end) ss ∙ a.goes normal)
        (flat_mapped (gone normal) ended (segments_of_kind (leaving (jump k)) ss)
        ∙ flat_picked jumps (λ s. gone normal (ended s)) (gone (jump k)) (λ s. refl) ss ∙ a.goes
        (jump k))
    catch_goes (jump j) =
        flat_two (gone (jump j)) kept came (cond (same_exit j k) [] (exit_suffixes g (jump j))) []
        (flat_picked (λ s. not (jumps s)) (gone (jump j)) (λ s. cond (same_exit j k) [] (gone (jump j) s)) (λ s. kept_off j s.source s.ops s.end) ss
        ∙ flat_unless (same_exit j k) (gone (jump j)) ss ∙ ap (λ (u : List Suffix). cond (same_exit j k) [] u) (a.goes (jump j)))
        (none_came (gone (jump j)) (λ s. refl))
        ∙ append-nil (cond (same_exit j k) [] (exit_suffixes g (jump j)))

    catch_ways : AreSegmentsOf (caught k ss) (catch q k g)
    catch_ways = record {
      passes = catch_passes;
      enters =
          flat_two entered kept came (enter g) []
          (flat_picked (λ s. not (jumps s)) entered entered (λ s. kept_enter (begins s) s.ops s.end) ss ∙ a.enters)
          (none_came entered (λ s. both_same (begins s) []))
          ∙ append-nil (enter g);
      goes = catch_goes;
      reaches =
          flat_two met kept came (inside g) []
          (flat_picked (λ s. not (jumps s)) met met (λ s. kept_meet s.source s.ops s.end) ss ∙ a.reaches)
          (none_came met (λ s. no_segment s.source s.ops normal))
          ∙ append-nil (inside g);
    }

-- trees ------------------------------------------------------------------------------------------------------------------

leaf_passes : (b : Bool) (xs : List (List SegmentStep)) → cond b xs [] ++ [] ≡ cond b xs []
leaf_passes true xs = append-nil xs
leaf_passes false xs = refl

empty_passes : (w : Completion) → flat_map (passed w) (tree_segments empty) ≡ through empty w
empty_passes normal = refl
empty_passes (jump j) = refl

act_passes : (q : ℕ) (op : Op) (w : Completion) → flat_map (passed w) (tree_segments (act q op)) ≡ through (act q op) w
act_passes q op normal = refl
act_passes q op (jump j) = refl

check_passes : (q base : ℕ) (c : Cond) (w : Completion) → flat_map (passed w) (tree_segments (check q base c)) ≡ through (check q base c) w
check_passes q base c normal = refl
check_passes q base c (jump j) = refl

leave_passes : (n : ℕ) (k : Exit) (w : Completion) → flat_map (passed w) (tree_segments (leave n k)) ≡ through (leave n k) w
leave_passes n k normal = refl
leave_passes n k (jump j) = leaf_passes (same_exit j k) ([] ∷ [])

-- nothing goes out of a tree without a point
no_outs : (w k : Completion) (ops : List SegmentStep) → gone w (tree_segment None ops (exits k)) ≡ []
no_outs w k ops = both_same (same_how w k) []

point_goes : (q : ℕ) (w : Completion) → flat_map (gone w) (tree_segments (point q)) ≡ exit_suffixes (point q) w
point_goes q normal = refl
point_goes q (jump j) = refl

empty_goes : (w : Completion) → flat_map (gone w) (tree_segments empty) ≡ exit_suffixes empty w
empty_goes normal = refl
empty_goes (jump j) = refl

act_goes : (q : ℕ) (op : Op) (w : Completion) → flat_map (gone w) (tree_segments (act q op)) ≡ exit_suffixes (act q op) w
act_goes q op normal = refl
act_goes q op (jump j) = refl

check_goes : (q base : ℕ) (c : Cond) (w : Completion) → flat_map (gone w) (tree_segments (check q base c)) ≡ exit_suffixes (check q base c) w
check_goes q base c normal = refl
check_goes q base c (jump j) = refl

leave_goes : (n : ℕ) (k : Exit) (w : Completion) → flat_map (gone w) (tree_segments (leave n k)) ≡ exit_suffixes (leave n k) w
leave_goes n k w = ap (λ (u : List Suffix). u ++ []) (no_outs w (jump k) [])

empty_ways : AreSegmentsOf nothing_done empty
empty_ways = record { passes = empty_passes; enters = refl; goes = empty_goes; reaches = refl }

-- switches ---------------------------------------------------------------------------------------------------------------

twice : {A : Type 0} (b : Bool) (xs : List A) → cond b (cond b xs []) [] ≡ cond b xs []
twice true xs = refl
twice false xs = refl

begun_gone : (p : Option ℕ) (ops : List SegmentStep) (b : Bool) → cond (starts p) (cond b (suffixes_at p ops) []) [] ≡ []
begun_gone None ops b = both_same b []
begun_gone (Some p) ops b = refl

begun_met : (p : Option ℕ) (ops : List SegmentStep) (e : End) → cond (starts p) (segments_at p ops e) [] ≡ []
begun_met None ops e = refl
begun_met (Some p) ops e = refl

-- of those that begin at the start
module _ (step : SegmentStep) (row : List TreeSegment) where
  abbrev begun : List TreeSegment
  begun = segments_of_kind starting row

  begun_passes : (w : Completion) → flat_map (passed w) (map (prefixed step) begun) ≡ map (prepend_step step) (flat_map (passed w) row)
  begun_passes w = all_passed step w begun
      ∙ ap (map (prepend_step step)) (flat_picked begins (passed w) (passed w) (λ s. twice (begins s) (cond (exits_as w s.end) (s.ops ∷ []) [])) row)

  begun_enters : flat_map entered (map (prefixed step) begun) ≡ map (prepend_step_to_goal step) (flat_map entered row)
  begun_enters = all_entered step begun
      ∙ ap (map (prepend_step_to_goal step)) (flat_picked begins entered entered (λ s. twice (begins s) (goal_segments_at s.ops s.end)) row)

  begun_goes : (w : Completion) → flat_map (gone w) (map (prefixed step) begun) ≡ []
  begun_goes w = all_gone step w begun
      ∙ flat_picked begins (gone w) (λ s. []) (λ s. begun_gone s.source s.ops (exits_as w s.end)) row ∙ flat_none (λ s. []) (λ s. refl) row

  begun_meets : flat_map met (map (prefixed step) begun) ≡ []
  begun_meets = all_met step begun
      ∙ flat_picked begins met (λ s. []) (λ s. begun_met s.source s.ops s.end) row ∙ flat_none (λ s. []) (λ s. refl) row

-- from the labels, and past all of them
record AreFrom (go : CaseLabel → SegmentStep) (d : Bool) (ss : List TreeSegment) (arms : Arms) : Type 0 where
  passes : (w : Completion) → flat_map (passed w) ss ≡ through_labels go arms w ++ past_labels go d w
  enters : flat_map entered ss ≡ enter_labels go arms
  goes : (w : Completion) → flat_map (gone w) ss ≡ []
  reaches : flat_map met ss ≡ []

past_passes : (go : CaseLabel → SegmentStep) (d : Bool) (w : Completion) → flat_map (passed w) (past_all go d) ≡ past_labels go d w
past_passes go true w = refl
past_passes go false normal = refl
past_passes go false (jump j) = refl

past_enters : (go : CaseLabel → SegmentStep) (d : Bool) → flat_map entered (past_all go d) ≡ []
past_enters go true = refl
past_enters go false = refl

past_goes : (go : CaseLabel → SegmentStep) (d : Bool) (w : Completion) → flat_map (gone w) (past_all go d) ≡ []
past_goes go true w = refl
past_goes go false normal = refl
past_goes go false (jump j) = refl

past_meets : (go : CaseLabel → SegmentStep) (d : Bool) → flat_map met (past_all go d) ≡ []
past_meets go true = refl
past_meets go false = refl

no_label : (go : CaseLabel → SegmentStep) (d : Bool) → AreFrom go d (past_all go d) no_arms
no_label go d = record { passes = past_passes go d; enters = past_enters go d; goes = past_goes go d; reaches = past_meets go d }

one_label : (go : CaseLabel → SegmentStep) (d : Bool) (l : CaseLabel) (arms : Arms) (row later : List TreeSegment) → AreSegmentsOf row (arms_row arms) →
    AreFrom go d later arms
    → AreFrom go d (labelled (go l) row later) (entry l arms)
one_label go d l arms row later a b =
    let first : List TreeSegment = map (prefixed (go l)) (segments_of_kind starting row) in
    record {
      passes = λ w. flat_two (passed w) first later (map (prepend_step (go l)) (through_arms arms w)) (through_labels go arms w ++ past_labels go d w)
          (begun_passes (go l) row w ∙ ap (map (prepend_step (go l))) (a.passes w ∙ through_row arms w)) (b.passes w)
          ∙ sym (append_assoc (map (prepend_step (go l)) (through_arms arms w)) (through_labels go arms w) (past_labels go d w));
      enters = flat_two entered first later (map (prepend_step_to_goal (go l)) (enter_arms arms)) (enter_labels go arms)
          (begun_enters (go l) row ∙ ap (map (prepend_step_to_goal (go l))) (a.enters ∙ enter_row arms)) b.enters;
      goes = λ w. flat_two (gone w) first later [] [] (begun_goes (go l) row w) (b.goes w);
      reaches = flat_two met first later [] [] (begun_meets (go l) row) b.reaches;
    }

any_tree : (go : CaseLabel → SegmentStep) (d : Bool) (g : Node) (arms : Arms) (ss : List TreeSegment) → AreFrom go d ss arms → AreFrom go d ss (arm g arms)
any_tree go d g arms ss a = record { passes = a.passes; enters = a.enters; goes = a.goes; reaches = a.reaches }

select_ways : (q base : ℕ) (e : Expr) (arms : Arms) (row labels : List TreeSegment) → AreSegmentsOf row (arms_row arms)
    → AreFrom (goes_in base e arms) (list_any (is_same_case Default) (entries_of arms)) labels arms → AreSegmentsOf (selected row labels) (select q base e arms)
select_ways q base e arms row labels a b =
    let tree : Node = arms_row arms in
    let whole : Node = select q base e arms in
    let rest : List TreeSegment = segments_not_of_kind starting row in
    record {
      passes = λ w. flat_two (passed w) labels rest (through whole w) [] (b.passes w) (right_passes empty tree nothing_done row empty_ways a w)
          ∙ append-nil (through whole w);
      enters = flat_two entered labels rest (enter whole) [] b.enters (right_enters empty tree nothing_done row empty_ways a) ∙ append-nil (enter whole);
      goes = λ w. flat_two (gone w) labels rest [] (exit_suffixes whole w) (b.goes w)
          (right_goes empty tree nothing_done row empty_ways a w ∙ outs_row arms w);
      reaches = flat_two met labels rest [] (inside whole) b.reaches (right_meets empty tree nothing_done row empty_ways a ∙ inside_row arms);
    }

mutual
  pub are_ways : (g : Node) → AreSegmentsOf (tree_segments g) g
  are_ways empty = empty_ways
  are_ways (probe here what) = record { passes = empty_passes; enters = refl; goes = empty_goes; reaches = refl }
  are_ways (point q) = record { passes = λ w. refl; enters = refl; goes = point_goes q; reaches = refl }
  are_ways (act q op) = record { passes = act_passes q op; enters = refl; goes = act_goes q op; reaches = refl }
  are_ways (check q base c) = record { passes = check_passes q base c; enters = refl; goes = check_goes q base c; reaches = refl }
  are_ways (seq g h) = turn_ways g h (tree_segments g) (tree_segments h) (are_ways g) (are_ways h)
  are_ways (choose q base c g h) = choice_ways q base c g h (tree_segments g) (tree_segments h) (are_ways g) (are_ways h)
  are_ways (iterate q base c g) = loop_ways q base c g (tree_segments g) (are_ways g)
  are_ways (catch q k g) = catch_ways k q g (tree_segments g) (are_ways g)
  are_ways (leave n k) = record { passes = leave_passes n k; enters = refl; goes = leave_goes n k; reaches = refl }
  are_ways (select q base e arms) = select_ways q base e arms (arms_segments arms) _ (row_ways arms)
      (label_ways (goes_in base e arms) (list_any (is_same_case Default) (entries_of arms)) arms)

  row_ways : (arms : Arms) → AreSegmentsOf (arms_segments arms) (arms_row arms)
  row_ways no_arms = empty_ways
  row_ways (entry l arms) = row_ways arms
  row_ways (arm g arms) = turn_ways g (arms_row arms) (tree_segments g) (arms_segments arms) (are_ways g) (row_ways arms)

  label_ways : (go : CaseLabel → SegmentStep) (d : Bool) (arms : Arms) → AreFrom go d (from_labels go (past_all go d) arms) arms
  label_ways go d no_arms = no_label go d
  label_ways go d (entry l arms) = one_label go d l arms (arms_segments arms) (from_labels go (past_all go d) arms) (row_ways arms) (label_ways go d arms)
  label_ways go d (arm g arms) = any_tree go d g arms (from_labels go (past_all go d) arms) (label_ways go d arms)
