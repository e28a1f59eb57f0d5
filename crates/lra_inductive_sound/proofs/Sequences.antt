-- Two parts of a tree one after the other, as a tree after another one and as an arm after others.
use Rattle.std.proofs.{Common.List, Common.◌++◌, Common.inl, Common.inr, lemmas.List.Elements.Contains-append_cases}
use Rattle.std.specs.List.{Contains}
use Rattle.lra_inductive_sound.specs.Crates.lra_operations.Tree.{Completion, normal, jump, Node}
use Rattle.lra_inductive_sound.specs.Crates.lra_path_segments.Segments.{SegmentStep, GoalSegment, Segment, Suffix, through, enter, exit_suffixes, inside, each_then, then_ways, then_outs, segments_by}
use Rattle.lra_inductive_sound.specs.Crates.{lra_analysis_spec.Pass.PassResult, lra_analysis_spec.Pass.in_turn, lra_domain.Abstraction.Abstraction}
use Rattle.lra_inductive_sound.proofs.Crates.lra_analysis_spec.Sound.{left_jump, right_jump}
use Rattle.lra_inductive_sound.specs.{Inductive.KeptBy, Inductive.KeptFrom, Inductive.IsExitValue, Inductive.IsGoalValue, Inductive.IsInductiveThrough, Points.PointsOf}
use Rattle.lra_inductive_sound.proofs.Parts.{left_part, right_part, among_more, met_more, from_more, from_met, pass_then, enter_then, leave_then, go_then}

-- the segments through both, and out of them
abbrev pub through_both : (Completion → List (List SegmentStep)) → (Completion → List (List SegmentStep)) → Completion → List (List SegmentStep)
through_both one two normal = each_then (one normal) (two normal)
through_both one two (jump k) = one (jump k) ++ each_then (one normal) (two (jump k))

abbrev pub outs_both : (Completion → List Suffix) → (Completion → List (List SegmentStep)) → (Completion → List Suffix) → Completion → List Suffix
outs_both one behind two normal = then_outs (one normal) (behind normal) ++ two normal
outs_both one behind two (jump k) = one (jump k) ++ then_outs (one normal) (behind (jump k)) ++ two (jump k)

module _ (V H X : Type 0) (m : Abstraction V H) (o : PointsOf V H X) where
  -- a part with these segments is inductive
  pub record Closes (T : Completion → List (List SegmentStep)) (E : List GoalSegment) (O : Completion → List Suffix) (I : List Segment) (v : V)
      (r : PassResult V) : Type 0 where
    pub passes : (h : Completion) (ops : List SegmentStep) → Contains (T h) ops → KeptBy m o v ops (IsExitValue r h)
    pub enters : (way : GoalSegment) → Contains E way → KeptBy m o v way.ops (IsGoalValue r way.goal)
    pub leaves : (h : Completion) (out : Suffix) → Contains (O h) out → KeptFrom m o r out.source out.ops (IsExitValue r h)
    pub goes : (s : Segment) → Contains I s → KeptFrom m o r s.source s.to_goal.ops (IsGoalValue r s.to_goal.goal)

  pub tree_closes : (g : Node) (v : V) (r : PassResult V) → IsInductiveThrough m o g v r → Closes (through g) (enter g) (exit_suffixes g) (inside g) v r
  tree_closes g v r i = record { passes = i.passes; enters = i.enters; leaves = i.leaves; goes = i.goes }

  module _ (T U : Completion → List (List SegmentStep)) (E F : List GoalSegment) (O Q : Completion → List Suffix) (I J : List Segment) (v : V)
      (s t : PassResult V)
      (i : Closes T E O I v s) (j : Closes U F Q J s.normal t) where
    abbrev both : PassResult V
    both = in_turn s t t.normal t.flag

    later : (h : Completion) (u : V) → IsExitValue t h u → IsExitValue both h u
    later normal u is = is
    later (jump k) u is = right_jump k s t t.normal t.flag u is

    passes : (h : Completion) (ops : List SegmentStep) → Contains (through_both T U h) ops → KeptBy m o v ops (IsExitValue both h)
    passes normal ops there = pass_then V H X m o v s.normal (T normal) (U normal) (IsExitValue t normal) (i.passes normal) (j.passes normal) ops there
    passes (jump k) ops there = elim (Contains-append_cases (T (jump k)) (each_then (T normal) (U (jump k))) ops there) [
      | inl here ↦ among_more V H X m o v ops (IsExitValue s (jump k)) (IsExitValue both (jump k)) (left_jump k s t t.normal t.flag)
          (i.passes (jump k) ops here)
      | inr on ↦ among_more V H X m o v ops (IsExitValue t (jump k)) (IsExitValue both (jump k)) (right_jump k s t t.normal t.flag)
          (pass_then V H X m o v s.normal (T normal) (U (jump k)) (IsExitValue t (jump k)) (i.passes normal) (j.passes (jump k)) ops on)
    ]

    next_enters : (way : GoalSegment) → Contains F way → KeptBy m o s.normal way.ops (IsGoalValue both way.goal)
    next_enters way there = met_more V H X m o t both (right_part s t t.normal t.flag) s.normal way.ops way.goal (j.enters way there)

    enters : (way : GoalSegment) → Contains (E ++ then_ways (T normal) F) way → KeptBy m o v way.ops (IsGoalValue both way.goal)
    enters way there = elim (Contains-append_cases E (then_ways (T normal) F) way there) [
      | inl here ↦ met_more V H X m o s both (left_part s t t.normal t.flag) v way.ops way.goal (i.enters way here)
      | inr on ↦ enter_then V H X m o v s.normal (T normal) F both (i.passes normal) next_enters way on
    ]

    last_leaves : (h : Completion) (x : Suffix) → Contains (Q h) x → KeptFrom m o both x.source x.ops (IsExitValue both h)
    last_leaves h x there =
        from_more V H X m o t both (right_part s t t.normal t.flag) x.source x.ops (IsExitValue t h) (IsExitValue both h) (later h) (j.leaves h x there)

    then_leaves : (h : Completion) (x : Suffix) → Contains (then_outs (O normal) (U h)) x → KeptFrom m o both x.source x.ops (IsExitValue both h)
    then_leaves h x there = from_more V H X m o both both (λ y k. k) x.source x.ops (IsExitValue t h) (IsExitValue both h) (later h)
        (leave_then V H X m o s.normal s both (left_part s t t.normal t.flag) (O normal) (U h) (IsExitValue t h) (i.leaves normal) (j.passes h) x there)

    leaves : (h : Completion) (x : Suffix) → Contains (outs_both O U Q h) x → KeptFrom m o both x.source x.ops (IsExitValue both h)
    leaves normal x there = elim (Contains-append_cases (then_outs (O normal) (U normal)) (Q normal) x there) [
      | inl here ↦ then_leaves normal x here
      | inr on ↦ last_leaves normal x on
    ]
    leaves (jump k) x there = elim (Contains-append_cases (O (jump k) ++ then_outs (O normal) (U (jump k))) (Q (jump k)) x there) [
      | inl two ↦ elim (Contains-append_cases (O (jump k)) (then_outs (O normal) (U (jump k))) x two) [
        | inl here ↦ from_more V H X m o s both (left_part s t t.normal t.flag) x.source x.ops (IsExitValue s (jump k)) (IsExitValue both (jump k))
            (left_jump k s t t.normal t.flag) (i.leaves (jump k) x here)
        | inr on ↦ then_leaves (jump k) x on
      ]
      | inr on ↦ last_leaves (jump k) x on
    ]

    goes : (x : Segment) → Contains (I ++ segments_by (O normal) F ++ J) x → KeptFrom m o both x.source x.to_goal.ops (IsGoalValue both x.to_goal.goal)
    goes x there = elim (Contains-append_cases (I ++ segments_by (O normal) F) J x there) [
      | inl two ↦ elim (Contains-append_cases I (segments_by (O normal) F) x two) [
        | inl here ↦ from_met V H X m o s both (left_part s t t.normal t.flag) x.source x.to_goal.ops x.to_goal.goal (i.goes x here)
        | inr on ↦ go_then V H X m o s.normal s both (left_part s t t.normal t.flag) (O normal) F (i.leaves normal) next_enters x on
      ]
      | inr on ↦ from_met V H X m o t both (right_part s t t.normal t.flag) x.source x.to_goal.ops x.to_goal.goal (j.goes x on)
    ]

    pub both_close : Closes (through_both T U) (E ++ then_ways (T normal) F) (outs_both O U Q) (I ++ segments_by (O normal) F ++ J) v both
    both_close = record { passes = passes; enters = enters; leaves = leaves; goes = goes }
