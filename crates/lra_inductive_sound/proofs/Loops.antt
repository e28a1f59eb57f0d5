-- Loops that aren't narrowed: the last round stays in the head whose value is the one at the loop's point.
use Rattle.std.proofs.Common.{◌≡◌, ℕ, ◌-◌, List, [], ◌∷◌, map, Option, true, false, inl, inr, refl, sym, ◌∙◌, subst}
use Rattle.std.proofs.lemmas.List.Elements.{Contains-append_cases}
use Rattle.std.specs.List.{Contains}
use Rattle.lra_inductive_sound.proofs.Crates.lra_linear_spec.Membership.{contains_none, contains_head, contains_tail, map_from}
use Rattle.lra_inductive_sound.specs.Crates.lra_analysis_spec.Pass.{value, PassResult, noted, jumps_of, AscendingIteration, Pass}
use Rattle.lra_inductive_sound.specs.Crates.lra_analysis_spec.Plan.{Plan, Widening, mode_at}
use Rattle.lra_inductive_sound.specs.Crates.lra_operations.Tree.{Exit, broken, continued, returned, Completion, normal, jump, Node, iterate}
use Rattle.lra_inductive_sound.specs.Crates.lra_path_segments.Segments.{SegmentStep, does, comes_to, GoalSegment, Segment, Suffix, through, enter, exit_suffixes, inside, into_body, out_of_body}
use Rattle.lra_inductive_sound.specs.Crates.lra_path_segments.Segments.{segment_to}
use Rattle.lra_inductive_sound.specs.Crates.{lra_analysis_spec.Operations.lossy_operations, lra_domain.Abstraction.Abstraction, lra_program.Program.Cond, lra_program.Step.test}
use Rattle.lra_inductive_sound.specs.Inductive.{Keeps, KeptBy, KeptFrom, IsExitValue, IsGoalValue, IsInductiveThrough}
use Rattle.lra_inductive_sound.specs.Points.{PointsOf, KeepPoints}
use Rattle.lra_inductive_sound.proofs.KeptSegments.{at_once, then_by, keeps_then, keeps_on, test_keeps}
use Rattle.lra_inductive_sound.proofs.{Members.one_from, Parts.IsPart, Parts.met_more, Parts.from_more, Parts.from_met, Parts.to_same}

-- the round is passed with the value at the loop's point and this one where the loop ends
abbrev pub round_of : {V : Type 0} → ℕ → V → V → Option ℕ → PassResult V → PassResult V
round_of q u out f z = record z { entries = value q u ∷ z.entries; normal = out; flag = f }

same_jumps : {V : Type 0} (k : Exit) (q : ℕ) (u out : V) (f : Option ℕ) (z : PassResult V) (w : V) → Contains (jumps_of k z) w
    → Contains (jumps_of k (round_of q u out f z)) w
same_jumps broken q u out f z w h = h
same_jumps continued q u out f z w h = h
same_jumps returned q u out f z w h = h

round_part : {V : Type 0} (q : ℕ) (u out : V) (f : Option ℕ) (z : PassResult V) → IsPart z (round_of q u out f z)
round_part q u out f z x h = contains_tail (value q u) x z.entries h

module _ (V H X : Type 0) (m : Abstraction V H) (o : PointsOf V H X) (keep : KeepPoints m o) (q base : ℕ) (c : Cond) (a : Node) where
  -- the loop's point has a value, from which the body is gone through; what is left after it comes back to that value
  module _ (u w out : V) (f : Option ℕ) (z : PassResult V) (into : Keeps m o u (does (test base c true) ∷ []) w) (body : IsInductiveThrough m o a w z)
      (back : Keeps m o z.normal [] u) (ends : Keeps m o u (does (test base c false) ∷ []) out) where
    abbrev whole : PassResult V
    whole = round_of q u out f z

    here : Contains whole.entries (value q u)
    here = contains_head (value q u) z.entries

    part : IsPart z whole
    part = round_part q u out f z

    leaves_loop : (h : Completion) (s : Suffix) → Contains (exit_suffixes (iterate q base c a) h) s → KeptFrom m o whole s.source s.ops (IsExitValue whole h)
    leaves_loop normal s there =
        subst (λ (l : Suffix). KeptFrom m o whole l.source l.ops (IsExitValue whole normal))
        (one_from (record { source = q; ops = does (test base c false) ∷ [] }) s there) (u, here, (out, refl, ends))
    leaves_loop (jump j) s there = elim (Contains-append_cases _ (exit_suffixes a (jump j)) s there) [
      | inl entered ↦
          let (x, k, same) = map_from (out_of_body q base c) (through a (jump j)) s entered in
          let (t, left, on) = body.passes (jump j) x k in
          subst (λ (l : Suffix). KeptFrom m o whole l.source l.ops (IsExitValue whole (jump j))) same
          (u, here, (t, same_jumps j q u out f z t left, keeps_then V H X m o u w t (does (test base c true) ∷ []) x into on))
      | inr later ↦ from_more V H X m o z whole part s.source s.ops (IsExitValue z (jump j)) (IsExitValue whole (jump j)) (same_jumps j q u out f z)
          (body.leaves (jump j) s later)
    ]

    goes_in_loop : (s : Segment) → Contains (inside (iterate q base c a)) s → KeptFrom m o whole s.source s.to_goal.ops (IsGoalValue whole s.to_goal.goal)
    goes_in_loop s there = elim (Contains-append_cases _ (inside a) s there) [
      | inr later ↦ from_met V H X m o z whole part s.source s.to_goal.ops s.to_goal.goal (body.goes s later)
      | inl four ↦ elim (Contains-append_cases _ _ s four) [
        | inr backs ↦ goes_back backs
        | inl two ↦ elim (Contains-append_cases _ _ s two) [ inl entered ↦ goes_into entered | inr rounds ↦ goes_round rounds ]
      ]
    ]
      where
        goes_into : Contains (map (into_body q base c) (enter a)) s → KeptFrom m o whole s.source s.to_goal.ops (IsGoalValue whole s.to_goal.goal)
        goes_into entered =
            let (way, k, same) = map_from (into_body q base c) (enter a) s entered in
            subst (λ (l : Segment). KeptFrom m o whole l.source l.to_goal.ops (IsGoalValue whole l.to_goal.goal)) same (
              u,
              here,
              then_by V H X m o u w (does (test base c true) ∷ []) way.ops (IsGoalValue whole way.goal) into
                  (met_more V H X m o z whole part w way.ops way.goal (body.enters way k)),
            )

        goes_round : Contains (map (λ x. segment_to q (out_of_body q base c x)) (through a normal)) s
            → KeptFrom m o whole s.source s.to_goal.ops (IsGoalValue whole s.to_goal.goal)
        goes_round rounds =
            let (x, k, same) = map_from (λ (y : List SegmentStep). segment_to q (out_of_body q base c y)) (through a normal) s rounds in
            let on = to_same V H X m o w z.normal x (body.passes normal x k) in
            let round = keeps_then V H X m o u w z.normal (does (test base c true) ∷ []) x into on in
            subst (λ (l : Segment). KeptFrom m o whole l.source l.to_goal.ops (IsGoalValue whole l.to_goal.goal)) same
            (u, here, (u, here, keeps_on V H X m o u z.normal u (does (test base c true) ∷ x) round back))

        goes_back : Contains (map (segment_to q) (exit_suffixes a normal)) s → KeptFrom m o whole s.source s.to_goal.ops (IsGoalValue whole s.to_goal.goal)
        goes_back backs =
            let (x, k, same) = map_from (segment_to q) (exit_suffixes a normal) s backs in
            let (v, found, on) = body.leaves normal x k in
            subst (λ (l : Segment). KeptFrom m o whole l.source l.to_goal.ops (IsGoalValue whole l.to_goal.goal)) same
            (v, part (value x.source v) found, (u, here, keeps_on V H X m o v z.normal u x.ops (to_same V H X m o v z.normal x.ops on) back))

    pub loop_closed : (v : V) → Keeps m o v [] u → IsInductiveThrough m o (iterate q base c a) v whole
    loop_closed v first = record {
      passes = λ h ops there. absurd (contains_none ops there);
      enters = λ way there. subst (λ (l : GoalSegment). KeptBy m o v l.ops (IsGoalValue whole l.goal))
          (one_from (record { ops = []; goal = comes_to q }) way there)
          (u, here, first);
      leaves = leaves_loop;
      goes = goes_in_loop;
    }

  module _ (set : Plan) (inside : (f : Option ℕ) (v : V) (r : PassResult V) → Pass V H (lossy_operations m) set a f v r → IsInductiveThrough m o a v r) where
    -- the last round, from the value u of the loop's point to s
    pub record LastRound (u : V) (s : PassResult V) : Type 0 where
      pub first : V
      pub result : PassResult V
      pub into : Keeps m o u (does (test base c true) ∷ []) first
      pub body : IsInductiveThrough m o a first result
      pub same : s ≡ record result { entries = value q u ∷ result.entries }
      pub back : Keeps m o s.normal [] u

    -- and u has the points of each earlier head
    pub record Stable (h : H) (u : V) (s : PassResult V) : Type 0 where
      pub on : (x : X) → o.head_on h x → o.on u x
      pub dims : m.dims u ≡ m.head_dims h
      pub last : LastRound u s

    pub grown : (widening : Widening) (left : ℕ) (f : Option ℕ) (h : H) (later : List H) (u : V) (s : PassResult V)
        → AscendingIteration V H (lossy_operations m) q base c (Pass V H (lossy_operations m) set a) widening left f h later u s → m.head_well_formed h →
        Stable h u s
    grown widening left f h [] u s ((e, valued, (w, d, z, holds, pass, is)), stays) formed = record {
      on = keep.valued h e u valued.0;
      dims = valued.1;
      last = record {
        first = w;
        result = z;
        into = test_keeps V H X m o keep base c true u d w holds;
        body = inside (noted q d (noted q e f)) w z pass;
        same = is;
        back = at_once V H X m o s.normal u (valued.1 ∙ sym stays.1)
            (λ x k. keep.valued h e u valued.0 x (keep.stays h s.normal (mode_at widening left) formed stays.0 x k));
      };
    }
    grown widening left f h (next ∷ later) u s (v, x, e, turn, grew, rest) formed =
        let i = grown widening (left - 1) (noted q e x.flag) next later u s rest grew.0.formed in
        record {
          on = λ y k. i.on y (keep.old h x.normal next grew.0.formed grew.0.both y k);
          dims = i.dims ∙ grew.2;
          last = i.last;
        }
