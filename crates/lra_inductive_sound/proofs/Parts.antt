-- Segments through two parts of a tree, one after the other; and what is found in a part is found in the whole.
use Rattle.std.proofs.{Common.◌≡◌, Common.ℕ, Common.List, Common.◌++◌, Common.Option, Common.subst, lemmas.List.Elements.Contains-append_left, lemmas.List.Elements.Contains-append_right}
use Rattle.std.specs.List.{Contains}
use Rattle.lra_inductive_sound.specs.Crates.lra_analysis_spec.Pass.{PassEntry, value, failing, PassResult, in_turn}
use Rattle.lra_inductive_sound.specs.Crates.lra_path_segments.Segments.{SegmentStep, Goal, comes_to, violates, GoalSegment, Segment, Suffix, each_then, then_way, then_ways, then_out, then_outs}
use Rattle.lra_inductive_sound.specs.Crates.{lra_domain.Abstraction.Abstraction, lra_path_segments.Segments.segment_by, lra_path_segments.Segments.segments_by}
use Rattle.lra_inductive_sound.specs.{Inductive.Keeps, Inductive.KeptBy, Inductive.KeptFrom, Inductive.IsGoalValue, Points.PointsOf}
use Rattle.lra_inductive_sound.proofs.{Members.pairs_from, KeptSegments.then_by}

module _ {V : Type 0} where
  -- what the one finds the other finds
  abbrev pub IsPart : PassResult V → PassResult V → Type 0
  IsPart s r = (x : PassEntry V) → Contains s.entries x → Contains r.entries x

  pub left_part : (r s : PassResult V) (v : V) (f : Option ℕ) → IsPart r (in_turn r s v f)
  left_part r s v f x h = Contains-append_left r.entries s.entries x h

  pub right_part : (r s : PassResult V) (v : V) (f : Option ℕ) → IsPart s (in_turn r s v f)
  right_part r s v f x h = Contains-append_right r.entries s.entries x h

  met_in : (s r : PassResult V) → IsPart s r → (goal : Goal) (w : V) → IsGoalValue s goal w → IsGoalValue r goal w
  met_in s r part (comes_to q) w h = part (value q w) h
  met_in s r part (violates q) w h = part (failing q w) h

module _ (V H X : Type 0) (m : Abstraction V H) (o : PointsOf V H X) where
  pub among_more : (v : V) (ops : List SegmentStep) (P Q : V → Type 0) → ((w : V) → P w → Q w) → KeptBy m o v ops P → KeptBy m o v ops Q
  among_more v ops P Q more (w, is, keeps) = (w, more w is, keeps)

  pub met_more : (s r : PassResult V) → IsPart s r → (v : V) (ops : List SegmentStep) (goal : Goal) → KeptBy m o v ops (IsGoalValue s goal) →
      KeptBy m o v ops (IsGoalValue r goal)
  met_more s r part v ops goal (w, is, keeps) = (w, met_in s r part goal w is, keeps)

  pub from_more : (s r : PassResult V) → IsPart s r → (q : ℕ) (ops : List SegmentStep) (P Q : V → Type 0) → ((w : V) → P w → Q w) → KeptFrom m o s q ops P
      → KeptFrom m o r q ops Q
  from_more s r part q ops P Q more (v, there, (w, is, keeps)) = (v, part (value q v) there, (w, more w is, keeps))

  pub from_met : (s r : PassResult V) → IsPart s r → (q : ℕ) (ops : List SegmentStep) (goal : Goal) → KeptFrom m o s q ops (IsGoalValue s goal)
      → KeptFrom m o r q ops (IsGoalValue r goal)
  from_met s r part q ops goal (v, there, (w, is, keeps)) = (v, part (value q v) there, (w, met_in s r part goal w is, keeps))

  pub to_same : (v n : V) (ops : List SegmentStep) → KeptBy m o v ops (λ w. w ≡ n) → Keeps m o v ops n
  to_same v n ops (w, same, keeps) = subst (λ (u : V). Keeps m o v ops u) same keeps

  pub from_then : (r : PassResult V) (q : ℕ) (n : V) (a b : List SegmentStep) (among : V → Type 0) → KeptFrom m o r q a (λ w. w ≡ n) → KeptBy m o n b among
      → KeptFrom m o r q (a ++ b) among
  from_then r q n a b among (v, there, one) two = (v, there, then_by V H X m o v n a b among (to_same v n a one) two)

  -- the first part from v to n, the second part from n on
  module _ (v n : V) where
    pub pass_then : (xs ys : List (List SegmentStep)) (among : V → Type 0) → ((ops : List SegmentStep) → Contains xs ops → KeptBy m o v ops (λ w. w ≡ n))
        → ((ops : List SegmentStep) → Contains ys ops → KeptBy m o n ops among)
        → (ops : List SegmentStep) → Contains (each_then xs ys) ops → KeptBy m o v ops among
    pass_then xs ys among one two ops there =
        let (x, y, i, j, same) = pairs_from (λ (b a : List SegmentStep). a ++ b) xs ys ops there in
        subst (λ (l : List SegmentStep). KeptBy m o v l among) same (then_by V H X m o v n x y among (to_same v n x (one x i)) (two y j))

    pub enter_then : (xs : List (List SegmentStep)) (ways : List GoalSegment) (r : PassResult V) →
        ((ops : List SegmentStep) → Contains xs ops → KeptBy m o v ops (λ w. w ≡ n))
        → ((way : GoalSegment) → Contains ways way → KeptBy m o n way.ops (IsGoalValue r way.goal))
        → (way : GoalSegment) → Contains (then_ways xs ways) way → KeptBy m o v way.ops (IsGoalValue r way.goal)
    enter_then xs ways r one two way there =
        let (x, y, i, j, same) = pairs_from then_way xs ways way there in
        subst (λ (l : GoalSegment). KeptBy m o v l.ops (IsGoalValue r l.goal)) same
        (then_by V H X m o v n x y.ops (IsGoalValue r y.goal) (to_same v n x (one x i)) (two y j))

  module _ (n : V) (s r : PassResult V) (part : IsPart s r) where
    pub leave_then : (xs : List Suffix) (ys : List (List SegmentStep)) (among : V → Type 0)
        → ((out : Suffix) → Contains xs out → KeptFrom m o s out.source out.ops (λ w. w ≡ n))
        → ((ops : List SegmentStep) → Contains ys ops → KeptBy m o n ops among)
        → (out : Suffix) → Contains (then_outs xs ys) out → KeptFrom m o r out.source out.ops among
    leave_then xs ys among one two out there =
        let (x, y, i, j, same) = pairs_from then_out xs ys out there in
        let led = from_then s x.source n x.ops y among (one x i) (two y j) in
        subst (λ (l : Suffix). KeptFrom m o r l.source l.ops among) same (from_more s r part x.source (x.ops ++ y) among among (λ w h. h) led)

    pub go_then : (xs : List Suffix) (ways : List GoalSegment) → ((out : Suffix) → Contains xs out → KeptFrom m o s out.source out.ops (λ w. w ≡ n))
        → ((way : GoalSegment) → Contains ways way → KeptBy m o n way.ops (IsGoalValue r way.goal))
        → (l : Segment) → Contains (segments_by xs ways) l → KeptFrom m o r l.source l.to_goal.ops (IsGoalValue r l.to_goal.goal)
    go_then xs ways one two l there =
        let (x, y, i, j, same) = pairs_from segment_by xs ways l there in
        let led = from_then s x.source n x.ops y.ops (IsGoalValue r y.goal) (one x i) (two y j) in
        subst (λ (k : Segment). KeptFrom m o r k.source k.to_goal.ops (IsGoalValue r k.to_goal.goal)) same
        (from_more s r part x.source (x.ops ++ y.ops) (IsGoalValue r y.goal) (IsGoalValue r y.goal) (λ w h. h) led)
