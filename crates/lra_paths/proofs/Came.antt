-- What a run of a tree has done since the last point that it met goes along a segment.
use Rattle.std.proofs.Common.{◌≡◌, ◌≢◌, ℕ, zero, suc, ℤ, List, [], ◌∷◌, ◌++◌, map, Some, None, Bool, true, false, inl, inr, refl, sym, ap, ◌∙◌, subst}
use Rattle.std.proofs.{lemmas.List.Elements.Contains-append_left, lemmas.List.Elements.Contains-append_right, lemmas.Option.same_Some, lemmas.Option.none-some}
use Rattle.std.specs.{List.Contains, List.list_any, Prelude.cond, Prelude.◌||◌, Prelude.if◌then◌else◌}
use Rattle.lra_paths.proofs.Crates.lra_linear_spec.Membership.{contains_cases, contains_head, contains_none, map_has}
use Rattle.lra_paths.proofs.Crates.lra_path_segments.LabelLaws.{alike_are, goal_out, through_row, enter_row, outs_row, inside_row, none_behind}
use Rattle.lra_paths.proofs.Crates.lra_path_segments.Lists.{pairs_have, each_then_has}
use Rattle.lra_paths.specs.Crates.lra_path_segments.Segments.{SegmentStep, does, Goal, comes_to, violates, GoalSegment, Segment, Suffix, same_exit, each_then, then_way, then_out, segment_by}
use Rattle.lra_paths.specs.Crates.lra_path_segments.Segments.{segment_to, tested_way, into_body, out_of_body, through, enter, exit_suffixes, inside, RunsOps, RunsStep, goes_in, prepend_step}
use Rattle.lra_paths.specs.Crates.lra_path_segments.Segments.{prepend_step_to_goal, past_labels, through_arms, through_labels, enter_arms, enter_labels}
use Rattle.lra_paths.specs.Crates.lra_program.Step.{State, run_op, test, tested, kept_if, environment_at}
use Rattle.lra_paths.specs.Crates.lra_program.Traces.{visit, Trace, NoChange}
use Rattle.lra_paths.specs.Crates.{lra_base.CaseLabels.is_same_case, lra_base.CaseLabels.goal_of, lra_base.declared.case_labels.CaseLabel.CaseLabel}
use Rattle.lra_paths.specs.Crates.{lra_base.declared.case_labels.CaseLabel.TheVariants.Default, lra_program.Program.Expr, lra_program.Program.Cond, lra_program.Value.Drawn, lra_program.Value.truth_of}
use Rattle.lra_paths.specs.Crates.lra_program.Step as step
use Rattle.lra_operations.specs.Traces.{Stop, by_jump, to_point, to_failure, StopsAtPoint, RunExtent, to_end, stopped, RunsUpTo, VisitsAndTests, TrailRounds}
use Rattle.lra_operations.specs.Tree.{Exit, broken, continued, returned, normal, jump, Node, empty, probe, point, act, check, seq, choose, iterate, catch, leave, select, Arms, no_arms, entry, arm}
use Rattle.lra_operations.specs.Tree.{entries_of}
use Rattle.lra_operations.proofs.ArmRows.{arms_row, row_behind, row_of_behind, behind_of_row}
use Rattle.lra_paths.specs.Crates.lra_path_segments.Segments as ways
use Rattle.lra_paths.specs.Covers.{IsFirstSegment, IsNextSegment, LeadsSo, HasGone, along_first, along_next}

-- states -----------------------------------------------------------------------------------------------------------------

store_kept : (a b : Bool) (s t : State) → kept_if a b s ≡ Some t → t.store ≡ s.store
store_kept true true s t e = ap (λ (u : State). u.store) (sym (same_Some s t e))
store_kept false false s t e = ap (λ (u : State). u.store) (sym (same_Some s t e))
store_kept true false s t e = absurd (none-some t e)
store_kept false true s t e = absurd (none-some t e)

store_tested : (wanted : Bool) (s : State) (v : Drawn Bool) (t : State) → step.tested wanted s v ≡ Some t → t.store ≡ s.store
store_tested wanted s None t e = absurd (none-some t e)
store_tested wanted s (Some r) t e = store_kept wanted r.0 (record s { draws = r.1 }) t e

store_of_test : (base : ℕ) (c : Cond) (wanted : Bool) (s t : State) → run_op (test base c wanted) s ≡ Some t → t.store ≡ s.store
store_of_test base c wanted s t e = store_tested wanted s (truth_of c (environment_at base s) s.draws) t e

pub join_ops : (x y : List SegmentStep) (s m t : State) → RunsOps x s m → RunsOps y m t → RunsOps (x ++ y) s t
join_ops [] y s m t e r = subst (λ u. RunsOps y u t) e r
join_ops (step ∷ x) y s m t (u, o, q) r = (u, o, join_ops x y u m t q r)

so_behind : (u : RunExtent) (x y : List SegmentStep) (s m t : State) → RunsOps x s m → LeadsSo u y m t → LeadsSo u (x ++ y) s t
so_behind to_end x y s m t r l = join_ops x y s m t r l
so_behind (stopped (by_jump j)) x y s m t r l = join_ops x y s m t r l
so_behind (stopped (to_point q)) x y s m t r l = join_ops x y s m t r l
so_behind (stopped (to_failure q)) x y s m t r (v, l, e) = (v, join_ops x y s m v r l, e)

so_led : (u : RunExtent) (step : SegmentStep) (y : List SegmentStep) (s m t : State) → RunsStep step s m → LeadsSo u y m t → LeadsSo u (step ∷ y) s t
so_led to_end step y s m t o l = (m, o, l)
so_led (stopped (by_jump j)) step y s m t o l = (m, o, l)
so_led (stopped (to_point q)) step y s m t o l = (m, o, l)
so_led (stopped (to_failure q)) step y s m t o (v, l, e) = (v, (m, o, l), e)

-- members ----------------------------------------------------------------------------------------------------------------

first_then_first : (g h : Node) (u : RunExtent) (x y : List SegmentStep) → IsFirstSegment g to_end x → IsFirstSegment h u y →
    IsFirstSegment (seq g h) u (x ++ y)
first_then_first g h to_end x y i j = each_then_has (through g normal) (through h normal) x y i j
first_then_first g h (stopped (by_jump k)) x y i j = Contains-append_right (through g (jump k)) _ (x ++ y)
    (each_then_has (through g normal) (through h (jump k)) x y i j)
first_then_first g h (stopped (to_point q)) x y i j =
    Contains-append_right (enter g) _ _ (pairs_have then_way (through g normal) (enter h) x (record { ops = y; goal = comes_to q }) i j)
first_then_first g h (stopped (to_failure q)) x y i j =
    Contains-append_right (enter g) _ _ (pairs_have then_way (through g normal) (enter h) x (record { ops = y; goal = violates q }) i j)

next_then_first : (p : ℕ) (g h : Node) (u : RunExtent) (x y : List SegmentStep) → IsNextSegment p g to_end x → IsFirstSegment h u y →
    IsNextSegment p (seq g h) u (x ++ y)
next_then_first p g h to_end x y i j = Contains-append_left _ (exit_suffixes h normal) _
    (pairs_have then_out (exit_suffixes g normal) (through h normal) (record { source = p; ops = x }) y i j)
next_then_first p g h (stopped (by_jump k)) x y i j =
    Contains-append_left _ (exit_suffixes h (jump k)) _ (Contains-append_right (exit_suffixes g (jump k)) _ _
    (pairs_have then_out (exit_suffixes g normal) (through h (jump k)) (record { source = p; ops = x }) y i j))
next_then_first p g h (stopped (to_point q)) x y i j =
    Contains-append_left _ (inside h) _ (Contains-append_right (inside g) _ _
    (pairs_have segment_by (exit_suffixes g normal) (enter h) (record { source = p; ops = x }) (record { ops = y; goal = comes_to q }) i j))
next_then_first p g h (stopped (to_failure q)) x y i j =
    Contains-append_left _ (inside h) _ (Contains-append_right (inside g) _ _
    (pairs_have segment_by (exit_suffixes g normal) (enter h) (record { source = p; ops = x }) (record { ops = y; goal = violates q }) i j))

next_in_second : (p : ℕ) (g h : Node) (u : RunExtent) (x : List SegmentStep) → IsNextSegment p h u x → IsNextSegment p (seq g h) u x
next_in_second p g h to_end x i = Contains-append_right _ (exit_suffixes h normal) _ i
next_in_second p g h (stopped (by_jump k)) x i = Contains-append_right _ (exit_suffixes h (jump k)) _ i
next_in_second p g h (stopped (to_point q)) x i = Contains-append_right _ (inside h) _ i
next_in_second p g h (stopped (to_failure q)) x i = Contains-append_right _ (inside h) _ i

-- the first tree is left at once
first_stopped : (g h : Node) (z : Stop) (x : List SegmentStep) → IsFirstSegment g (stopped z) x → IsFirstSegment (seq g h) (stopped z) x
first_stopped g h (by_jump k) x i = Contains-append_left (through g (jump k)) _ x i
first_stopped g h (to_point q) x i = Contains-append_left (enter g) _ _ i
first_stopped g h (to_failure q) x i = Contains-append_left (enter g) _ _ i

next_stopped : (p : ℕ) (g h : Node) (z : Stop) (x : List SegmentStep) → IsNextSegment p g (stopped z) x → IsNextSegment p (seq g h) (stopped z) x
next_stopped p g h (by_jump k) x i = Contains-append_left _ (exit_suffixes h (jump k)) _ (Contains-append_left (exit_suffixes g (jump k)) _ _ i)
next_stopped p g h (to_point q) x i = Contains-append_left _ (inside h) _ (Contains-append_left (inside g) _ _ i)
next_stopped p g h (to_failure q) x i = Contains-append_left _ (inside h) _ (Contains-append_left (inside g) _ _ i)

module _ (q base : ℕ) (c : Cond) (g h : Node) where
  first_on : (u : RunExtent) (x : List SegmentStep) → IsFirstSegment g u x → IsFirstSegment (choose q base c g h) u (does (test base c true) ∷ x)
  first_on to_end x i = Contains-append_left _ _ _ (map_has (ways.with_test base c true) (through g normal) x i)
  first_on (stopped (by_jump k)) x i = Contains-append_left _ _ _ (map_has (ways.with_test base c true) (through g (jump k)) x i)
  first_on (stopped (to_point p)) x i = Contains-append_left _ _ _ (map_has (tested_way base c true) (enter g) (record { ops = x; goal = comes_to p }) i)
  first_on (stopped (to_failure p)) x i = Contains-append_left _ _ _ (map_has (tested_way base c true) (enter g) (record { ops = x; goal = violates p }) i)

  first_off : (u : RunExtent) (x : List SegmentStep) → IsFirstSegment h u x → IsFirstSegment (choose q base c g h) u (does (test base c false) ∷ x)
  first_off to_end x i = Contains-append_right _ _ _ (map_has (ways.with_test base c false) (through h normal) x i)
  first_off (stopped (by_jump k)) x i = Contains-append_right _ _ _ (map_has (ways.with_test base c false) (through h (jump k)) x i)
  first_off (stopped (to_point p)) x i = Contains-append_right _ _ _ (map_has (tested_way base c false) (enter h) (record { ops = x; goal = comes_to p }) i)
  first_off (stopped (to_failure p)) x i = Contains-append_right _ _ _ (map_has (tested_way base c false) (enter h) (record { ops = x; goal = violates p }) i)

  next_on : (p : ℕ) (u : RunExtent) (x : List SegmentStep) → IsNextSegment p g u x → IsNextSegment p (choose q base c g h) u x
  next_on p to_end x i = Contains-append_left _ _ _ i
  next_on p (stopped (by_jump k)) x i = Contains-append_left _ _ _ i
  next_on p (stopped (to_point r)) x i = Contains-append_left _ _ _ i
  next_on p (stopped (to_failure r)) x i = Contains-append_left _ _ _ i

  next_off : (p : ℕ) (u : RunExtent) (x : List SegmentStep) → IsNextSegment p h u x → IsNextSegment p (choose q base c g h) u x
  next_off p to_end x i = Contains-append_right _ _ _ i
  next_off p (stopped (by_jump k)) x i = Contains-append_right _ _ _ i
  next_off p (stopped (to_point r)) x i = Contains-append_right _ _ _ i
  next_off p (stopped (to_failure r)) x i = Contains-append_right _ _ _ i

module _ (q base : ℕ) (c : Cond) (g : Node) where
  abbrev loop : Node
  loop = iterate q base c g

  -- the four parts of the segments in a loop
  in_body : (p : ℕ) (z : Stop) (x : List SegmentStep) → IsNextSegment p g (stopped z) x → IsNextSegment p loop (stopped z) x
  in_body p (by_jump k) x i = Contains-append_right _ _ _ i
  in_body p (to_point r) x i = Contains-append_right _ _ _ i
  in_body p (to_failure r) x i = Contains-append_right _ _ _ i

  into : (z : Stop) (x : List SegmentStep) → IsFirstSegment g (stopped z) x → IsNextSegment q loop (stopped z) (does (test base c true) ∷ x)
  into (by_jump k) x i = Contains-append_left _ _ _ (map_has (out_of_body q base c) (through g (jump k)) x i)
  into (to_point r) x i = Contains-append_left _ _ _ (Contains-append_left _ _ _
      (Contains-append_left _ _ _ (map_has (into_body q base c) (enter g) (record { ops = x; goal = comes_to r }) i)))
  into (to_failure r) x i = Contains-append_left _ _ _ (Contains-append_left _ _ _
      (Contains-append_left _ _ _ (map_has (into_body q base c) (enter g) (record { ops = x; goal = violates r }) i)))

  abbrev entering : List Segment
  entering = map (into_body q base c) (enter g)

  abbrev rounds : List Segment
  rounds = map (λ y. segment_to q (out_of_body q base c y)) (through g normal)

  abbrev backs : List Segment
  backs = map (segment_to q) (exit_suffixes g normal)

  round : (x : List SegmentStep) → IsFirstSegment g to_end x → IsNextSegment q loop (stopped (to_point q)) (does (test base c true) ∷ x)
  round x i =
      let segment : Segment = segment_to q (out_of_body q base c x) in
      Contains-append_left ((entering ++ rounds) ++ backs) (inside g) segment (Contains-append_left (entering ++ rounds) backs segment
      (Contains-append_right entering rounds segment (map_has (λ y. segment_to q (out_of_body q base c y)) (through g normal) x i)))

  back : (p : ℕ) (x : List SegmentStep) → IsNextSegment p g to_end x → IsNextSegment p loop (stopped (to_point q)) x
  back p x i =
      let segment : Segment = segment_to q (record { source = p; ops = x }) in
      Contains-append_left ((entering ++ rounds) ++ backs) (inside g) segment (Contains-append_right (entering ++ rounds) backs segment
      (map_has (segment_to q) (exit_suffixes g normal) (record { source = p; ops = x }) i))

-- a jump of another kind goes on
differs : (j k : Exit) → j ≢ k → same_exit j k ≡ false
differs broken broken n = absurd (n refl)
differs broken continued n = refl
differs broken returned n = refl
differs continued broken n = refl
differs continued continued n = absurd (n refl)
differs continued returned n = refl
differs returned broken n = refl
differs returned continued n = refl
differs returned returned n = absurd (n refl)

same : (j : Exit) → same_exit j j ≡ true
same broken = refl
same continued = refl
same returned = refl

stays_in : {A : Type 0} (b : Bool) (xs : List A) (x : A) → b ≡ false → Contains xs x → Contains (if b then [] else xs) x
stays_in true xs x e i = absurd (let no : true ≡ false = e in cc)
stays_in false xs x e i = i

first_passed : (q : ℕ) (k : Exit) (g : Node) (z : Stop) (x : List SegmentStep) → z ≢ by_jump k → IsFirstSegment g (stopped z) x →
    IsFirstSegment (catch q k g) (stopped z) x
first_passed q k g (by_jump j) x n i = stays_in (same_exit j k) (through g (jump j)) x (differs j k (λ e. n (ap by_jump e))) i
first_passed q k g (to_point r) x n i = i
first_passed q k g (to_failure r) x n i = i

next_passed : (p q : ℕ) (k : Exit) (g : Node) (z : Stop) (x : List SegmentStep) → z ≢ by_jump k → IsNextSegment p g (stopped z) x →
    IsNextSegment p (catch q k g) (stopped z) x
next_passed p q k g (by_jump j) x n i =
    stays_in (same_exit j k) (exit_suffixes g (jump j)) (record { source = p; ops = x }) (differs j k (λ e. n (ap by_jump e))) i
next_passed p q k g (to_point r) x n i = i
next_passed p q k g (to_failure r) x n i = i

not_jump : (p : ℕ) (k : Exit) → to_point p ≢ by_jump k
not_jump p k e = subst (λ z. StopsAtPoint p z) e refl

-- labels -----------------------------------------------------------------------------------------------------------------

-- past no point, or to a first one, from one of these labels
abbrev IsLabelled : (CaseLabel → SegmentStep) → Arms → RunExtent → List SegmentStep → Type 0
IsLabelled go arms to_end x = Contains (through_labels go arms normal) x
IsLabelled go arms (stopped (by_jump j)) x = Contains (through_labels go arms (jump j)) x
IsLabelled go arms (stopped (to_point q)) x = Contains (enter_labels go arms) (record { ops = x; goal = comes_to q })
IsLabelled go arms (stopped (to_failure q)) x = Contains (enter_labels go arms) (record { ops = x; goal = violates q })

module _ (go : CaseLabel → SegmentStep) (l : CaseLabel) (arms : Arms) where
  label_here : (u : RunExtent) (x : List SegmentStep) → IsFirstSegment (arms_row arms) u x → IsLabelled go (entry l arms) u (go l ∷ x)
  label_here to_end x i = Contains-append_left (map (prepend_step (go l)) (through_arms arms normal)) (through_labels go arms normal) (go l ∷ x)
      (map_has (prepend_step (go l)) (through_arms arms normal) x (subst (λ xs. Contains xs x) (through_row arms normal) i))
  label_here (stopped (by_jump j)) x i =
      Contains-append_left (map (prepend_step (go l)) (through_arms arms (jump j))) (through_labels go arms (jump j)) (go l ∷ x)
      (map_has (prepend_step (go l)) (through_arms arms (jump j)) x (subst (λ xs. Contains xs x) (through_row arms (jump j)) i))
  label_here (stopped (to_point q)) x i =
      let way : GoalSegment = record { ops = x; goal = comes_to q } in
      Contains-append_left (map (prepend_step_to_goal (go l)) (enter_arms arms)) (enter_labels go arms) (prepend_step_to_goal (go l) way)
      (map_has (prepend_step_to_goal (go l)) (enter_arms arms) way (subst (λ ways. Contains ways way) (enter_row arms) i))
  label_here (stopped (to_failure q)) x i =
      let way : GoalSegment = record { ops = x; goal = violates q } in
      Contains-append_left (map (prepend_step_to_goal (go l)) (enter_arms arms)) (enter_labels go arms) (prepend_step_to_goal (go l) way)
      (map_has (prepend_step_to_goal (go l)) (enter_arms arms) way (subst (λ ways. Contains ways way) (enter_row arms) i))

  label_later : (u : RunExtent) (x : List SegmentStep) → IsLabelled go arms u x → IsLabelled go (entry l arms) u x
  label_later to_end x i = Contains-append_right _ (through_labels go arms normal) x i
  label_later (stopped (by_jump j)) x i = Contains-append_right _ (through_labels go arms (jump j)) x i
  label_later (stopped (to_point q)) x i = Contains-append_right _ (enter_labels go arms) _ i
  label_later (stopped (to_failure q)) x i = Contains-append_right _ (enter_labels go arms) _ i

  label_by : (k : CaseLabel) (t : Bool) (u : RunExtent) (x : List SegmentStep) → is_same_case k l ≡ t →
      (t || list_any (is_same_case k) (entries_of arms)) ≡ true
      → (list_any (is_same_case k) (entries_of arms) ≡ true → IsFirstSegment (row_behind k arms) u x → IsLabelled go arms u (go k ∷ x))
      → IsFirstSegment (cond t (arms_row arms) (row_behind k arms)) u x → IsLabelled go (entry l arms) u (go k ∷ x)
  label_by k true u x is there each i =
      subst (λ n. IsLabelled go (entry l arms) u (go n ∷ x)) (sym (alike_are k l is)) (label_here u x i)
  label_by k false u x is there each i = label_later u (go k ∷ x) (each there i)

-- if the label is there, each segment after it is one from it
label_first : (go : CaseLabel → SegmentStep) (l : CaseLabel) (arms : Arms) (u : RunExtent) (x : List SegmentStep) →
    list_any (is_same_case l) (entries_of arms) ≡ true
    → IsFirstSegment (row_behind l arms) u x → IsLabelled go arms u (go l ∷ x)
label_first go l no_arms u x there i = absurd (let no : false ≡ true = there in cc)
label_first go l (entry k arms) u x there i = label_by go k arms l (is_same_case l k) u x refl there (label_first go l arms u x) i
label_first go l (arm g arms) u x there i = label_first go l arms u x there i

none_done : (u : RunExtent) (x : List SegmentStep) → IsFirstSegment empty u x → (u ≡ to_end) × (x ≡ [])
none_done to_end x i = elim (contains_cases [] x [] i) [
  | inl e ↦ (refl, sym e)
  | inr d ↦ absurd (contains_none x d)
]
none_done (stopped (by_jump j)) x i = absurd (contains_none x i)
none_done (stopped (to_point q)) x i = absurd (contains_none _ i)
none_done (stopped (to_failure q)) x i = absurd (contains_none _ i)

module _ (q base : ℕ) (e : Expr) (arms : Arms) where
  abbrev go : CaseLabel → SegmentStep
  go = goes_in base e arms

  labelled_first : (u : RunExtent) (x : List SegmentStep) → IsLabelled go arms u x → IsFirstSegment (select q base e arms) u x
  labelled_first to_end x i = Contains-append_left (through_labels go arms normal) _ x i
  labelled_first (stopped (by_jump j)) x i = Contains-append_left (through_labels go arms (jump j)) _ x i
  labelled_first (stopped (to_point p)) x i = i
  labelled_first (stopped (to_failure p)) x i = i

  past_first : (d : Bool) → d ≡ false → Contains (through_labels go arms normal ++ past_labels go d normal) (go Default ∷ [])
  past_first true is = absurd (let no : true ≡ false = is in cc)
  past_first false is = Contains-append_right (through_labels go arms normal) _ (go Default ∷ []) (contains_head _ [])

  -- from the label to which a value goes, or past all of them
  select_first : (z : ℤ) (l : CaseLabel) → l ≡ goal_of z (entries_of arms) → (u : RunExtent) (x : List SegmentStep) → IsFirstSegment (row_behind l arms) u x
      → IsFirstSegment (select q base e arms) u (go l ∷ x)
  select_first z l is u x i = by (list_any (is_same_case l) (entries_of arms)) refl
    where
      by : (t : Bool) → list_any (is_same_case l) (entries_of arms) ≡ t → IsFirstSegment (select q base e arms) u (go l ∷ x)
      by true there = labelled_first u (go l ∷ x) (label_first go l arms u x there i)
      by false never =
          let (past, none) = goal_out z (entries_of arms) (subst (λ k. list_any (is_same_case k) (entries_of arms) ≡ false) is never) in
          let (ends, nothing) = none_done u x (subst (λ g. IsFirstSegment g u x) (none_behind l arms never) i) in
          subst (λ v. IsFirstSegment (select q base e arms) v (go l ∷ x)) (sym ends)
          (subst (λ y. IsFirstSegment (select q base e arms) to_end (go l ∷ y)) (sym nothing)
          (subst (λ k. IsFirstSegment (select q base e arms) to_end (go k ∷ [])) (sym (is ∙ past))
          (past_first (list_any (is_same_case Default) (entries_of arms)) none)))

next_at : (p : ℕ) (g h : Node) (t : Bool) (u : RunExtent) (x : List SegmentStep) → (IsNextSegment p g u x → IsNextSegment p h u x) →
    IsNextSegment p (cond t h g) u x → IsNextSegment p h u x
next_at p g h true u x each i = i
next_at p g h false u x each i = each i

next_behind : (p : ℕ) (l : CaseLabel) (arms : Arms) (u : RunExtent) (x : List SegmentStep) → IsNextSegment p (row_behind l arms) u x →
    IsNextSegment p (arms_row arms) u x
next_behind p l no_arms u x i = i
next_behind p l (entry k arms) u x i = next_at p (row_behind l arms) (arms_row arms) (is_same_case l k) u x (next_behind p l arms u x) i
next_behind p l (arm g arms) u x i = next_in_second p g (arms_row arms) u x (next_behind p l arms u x i)

select_next : (p q base : ℕ) (e : Expr) (l : CaseLabel) (arms : Arms) (u : RunExtent) (x : List SegmentStep) → IsNextSegment p (row_behind l arms) u x
    → IsNextSegment p (select q base e arms) u x
select_next p q base e l arms u x i = by u (next_behind p l arms u x i)
  where
    by : (u : RunExtent) → IsNextSegment p (arms_row arms) u x → IsNextSegment p (select q base e arms) u x
    by to_end i = subst (λ xs. Contains xs (record { source = p; ops = x })) (outs_row arms normal) i
    by (stopped (by_jump j)) i = subst (λ xs. Contains xs (record { source = p; ops = x })) (outs_row arms (jump j)) i
    by (stopped (to_point r)) i = subst (λ xs. Contains xs (record { source = p; to_goal = record { ops = x; goal = comes_to r } })) (inside_row arms) i
    by (stopped (to_failure r)) i = subst (λ xs. Contains xs (record { source = p; to_goal = record { ops = x; goal = violates r } })) (inside_row arms) i

-- runs -------------------------------------------------------------------------------------------------------------------

module _ {A : Type 0} (name : ℕ → A) where
  abbrev G : Node → Trace A → RunExtent → Trace A → Type 0
  G = RunsUpTo name NoChange

  -- if only the segments and what was met before are other ones
  lifted : (g h : Node) (a : Trace A) (u v : RunExtent) (b : Trace A) → ((x : List SegmentStep) → IsFirstSegment g u x → IsFirstSegment h v x) →
      ((p : ℕ) (x : List SegmentStep) → IsNextSegment p g u x → IsNextSegment p h v x)
      → ((x : List SegmentStep) (s t : State) → LeadsSo u x s t → LeadsSo v x s t) →
      ((p : ℕ) (d : Trace A) → G g a (stopped (to_point p)) d → G h a (stopped (to_point p)) d)
      → HasGone name g a u b → HasGone name h a v b
  lifted g h a u v b first next leads at (along_first x e i l) = along_first x e (first x i) (leads x a.state b.state l)
  lifted g h a u v b first next leads at (along_next p m before x e k i l) = along_next p m before x e (at p (record { state = m; events = before }) k)
      (next p x i) (leads x m b.state l)

  -- past a point, and then along a segment of the tree h
  past : (q : ℕ) (g h : Node) (a w : Trace A) (u v : RunExtent) (b : Trace A) (step : SegmentStep) → w.events ≡ visit (name q) a.state ∷ a.events
      → RunsStep step a.state w.state → ((x : List SegmentStep) → IsFirstSegment g u x → IsNextSegment q h v (step ∷ x))
      → ((p : ℕ) (x : List SegmentStep) → IsNextSegment p g u x → IsNextSegment p h v x)
      → ((x : List SegmentStep) (s t : State) → LeadsSo u x s t → LeadsSo v x s t) → (c : Trace A) → G h c (stopped (to_point q)) a
      → ((p : ℕ) (d : Trace A) → G g w (stopped (to_point p)) d → G h c (stopped (to_point p)) d) → HasGone name g w u b → HasGone name h c v b
  past q g h a w u v b step met o first next leads c here at (along_first x e i l) =
      along_next q a.state a.events (step ∷ x) (e ∙ met) here (first x i) (so_led v step x a.state w.state b.state o (leads x w.state b.state l))
  past q g h a w u v b step met o first next leads c here at (along_next p m before x e k i l) = along_next p m before x e
      (at p (record { state = m; events = before }) k) (next p x i) (leads x m b.state l)

  -- one tree, and then the other
  in_turn : (g h : Node) (a m : Trace A) (u : RunExtent) (b : Trace A) → G g a to_end m → HasGone name g a to_end m → HasGone name h m u b → HasGone name
      (seq g h) a u b
  in_turn g h a m u b r (along_first x e i l) (along_first y f j k) = along_first (x ++ y) (f ∙ e) (first_then_first g h u x y i j)
      (so_behind u x y a.state m.state b.state l k)
  in_turn g h a m u b r (along_next p s before x e t i l) (along_first y f j k) =
      along_next p s before (x ++ y) (f ∙ e) (inl t) (next_then_first p g h u x y i j) (so_behind u x y s m.state b.state l k)
  in_turn g h a m u b r one (along_next p s before y f t j k) = along_next p s before y f (inr (m, r, t)) (next_in_second p g h u y j) k

  after_step : (g : Node) (a m : Trace A) (u : RunExtent) (b : Trace A) (step : SegmentStep) (tree : Node) → RunsStep step a.state m.state → m.events ≡ a.events
      → ((x : List SegmentStep) → IsFirstSegment g u x → IsFirstSegment tree u (step ∷ x)) →
      ((p : ℕ) (x : List SegmentStep) → IsNextSegment p g u x → IsNextSegment p tree u x)
      → ((p : ℕ) (d : Trace A) → G g m (stopped (to_point p)) d → G tree a (stopped (to_point p)) d) → HasGone name g m u b → HasGone name tree a u b
  after_step g a m u b step tree o met first next at (along_first x e i l) = along_first (step ∷ x) (e ∙ met) (first x i)
      (so_led u step x a.state m.state b.state o l)
  after_step g a m u b step tree o met first next at (along_next p s before x e k i l) = along_next p s before x e
      (at p (record { state = s; events = before }) k) (next p x i) l

  -- the state in which a run that is alone passes a point
  abbrev Turning : ℕ → ℕ → Cond → Node → Trace A → Trace A → Type 0
  Turning q base c g u v = (w : Trace A) × VisitsAndTests name NoChange q base c true u w × G g w to_end v

  tests_run : (q base : ℕ) (c : Cond) (wanted : Bool) (a b : Trace A) → VisitsAndTests name NoChange q base c wanted a b →
      (run_op (test base c wanted) a.state ≡ Some b.state) × (b.events ≡ visit (name q) a.state ∷ a.events)
  tests_run q base c wanted a b (m, (e, i), (o, j)) = (subst (λ s. run_op (test base c wanted) s ≡ Some b.state) e o, j ∙ i)

  -- a loop's rounds lead to its point
  heads : (q base : ℕ) (c : Cond) (g : Node) → ((a b : Trace A) → G g a to_end b → HasGone name g a to_end b) → (n : ℕ) (a b : Trace A) → TrailRounds
      (Turning q base c g) n a b
      → HasGone name (iterate q base c g) a (stopped (to_point q)) b
  heads q base c g each zero a b e = along_first [] (ap (λ (t : Trace A). t.events) e) (contains_head _ []) (ap (λ (t : Trace A). t.state) e)
  heads q base c g each (suc n) a b (m, r, (w, t, x)) =
      let (o, met) = tests_run q base c true m w t in
      past q g (iterate q base c g) m w to_end (stopped (to_point q)) b (does (test base c true)) met o (λ x i. round q base c g x i)
      (λ p x i. back q base c g p x i)
      (λ x s t l. l) a
      (n, m, r, inl (refl, refl)) (λ p d y. (n, m, r, inr (w, t, y))) (each w b x)

  stops_there : (q r : ℕ) (g : Node) (a b : Trace A) → r ≡ q → HasGone name g a (stopped (to_point q)) b → HasGone name g a (stopped (to_point r)) b
  stops_there q r g a b e x = subst (λ n. HasGone name g a (stopped (to_point n)) b) (sym e) x

  came_empty : (a : Trace A) (u : RunExtent) (b : Trace A) → G empty a u b → HasGone name empty a u b
  came_empty a to_end b e = along_first [] (ap (λ (t : Trace A). t.events) e) (contains_head _ []) (ap (λ (t : Trace A). t.state) e)
  came_empty a (stopped z) b x = absurd x

  came_seq : (g h : Node) → ((a : Trace A) (u : RunExtent) (b : Trace A) → G g a u b → HasGone name g a u b)
      → ((a : Trace A) (u : RunExtent) (b : Trace A) → G h a u b → HasGone name h a u b)
      → (a : Trace A) (u : RunExtent) (b : Trace A) → G (seq g h) a u b → HasGone name (seq g h) a u b
  came_seq g h one two a to_end b (m, x, y) = in_turn g h a m to_end b x (one a to_end m x) (two m to_end b y)
  came_seq g h one two a (stopped z) b (inl x) = lifted g (seq g h) a (stopped z) (stopped z) b (first_stopped g h z)
      (λ p x i. next_stopped p g h z x i) (λ x s t l. l) (λ p d y. inl y) (one a (stopped z) b x)
  came_seq g h one two a (stopped z) b (inr (m, x, y)) = in_turn g h a m (stopped z) b x (one a to_end m x) (two m (stopped z) b y)

  -- at a label, by whether it is the one
  came_at : (g h : Node) (t : Bool) → ((a : Trace A) (u : RunExtent) (b : Trace A) → G g a u b → HasGone name g a u b)
      → ((a : Trace A) (u : RunExtent) (b : Trace A) → G h a u b → HasGone name h a u b)
      → (a : Trace A) (u : RunExtent) (b : Trace A) → G (cond t g h) a u b → HasGone name (cond t g h) a u b
  came_at g h true one two a u b x = one a u b x
  came_at g h false one two a u b x = two a u b x

  mutual
    pub came : (g : Node) (a : Trace A) (u : RunExtent) (b : Trace A) → G g a u b → HasGone name g a u b
    came empty a u b x = came_empty a u b x
    came (probe here what) a to_end b e = along_first [] (ap (λ (t : Trace A). t.events) e) (contains_head _ []) (ap (λ (t : Trace A). t.state) e)
    came (probe here what) a (stopped z) b x = absurd x
    came (point q) a to_end b (e, i) = along_next q a.state a.events [] i (refl, refl) (contains_head _ []) e
    came (point q) a (stopped (by_jump j)) b (i, e) = absurd i
    came (point q) a (stopped (to_failure r)) b (i, e) = absurd i
    came (point q) a (stopped (to_point r)) b (i, e) =
        stops_there q r (point q) a b i (along_first [] (ap (λ (t : Trace A). t.events) e) (contains_head _ []) (ap (λ (t : Trace A). t.state) e))
    came (act q op) a to_end b (o, e) = along_first (does op ∷ []) e (contains_head _ []) (b.state, o, refl)
    came (act q op) a (stopped z) b x = absurd x
    came (check q base c) a to_end b (o, e) = along_first (does (test base c true) ∷ []) e (contains_head _ []) (b.state, o, refl)
    came (check q base c) a (stopped (by_jump j)) b (i, e, t, o) = absurd i
    came (check q base c) a (stopped (to_point r)) b (i, e, t, o) = absurd i
    came (check q base c) a (stopped (to_failure r)) b (i, e, t, o) =
        subst (λ n. HasGone name (check q base c) a (stopped (to_failure n)) b) (sym i)
        (along_first (does (test base c false) ∷ []) (ap (λ (t : Trace A). t.events) e) (contains_head _ [])
        (t, (t, o, refl), store_of_test base c false a.state t o ∙ sym (ap (λ (t : Trace A). t.state.store) e)))
    came (seq g h) a u b x = came_seq g h (came g) (came h) a u b x
    came (choose q base c g h) a u b (inl (m, (o, e), x)) =
        after_step g a m u b (does (test base c true)) (choose q base c g h) o e (first_on q base c g h u) (λ p x i. next_on q base c g h p u x i)
        (λ p d y. inl (m, (o, e), y)) (came g m u b x)
    came (choose q base c g h) a u b (inr (m, (o, e), x)) =
        after_step h a m u b (does (test base c false)) (choose q base c g h) o e (first_off q base c g h u) (λ p x i. next_off q base c g h p u x i)
        (λ p d y. inr (m, (o, e), y)) (came h m u b x)
    came (iterate q base c g) a to_end b (n, m, r, t) =
        let (o, met) = tests_run q base c false m b t in
        along_next q m.state m.events (does (test base c false) ∷ []) met (n, m, r, inl (refl, refl)) (contains_head _ []) (b.state, o, refl)
    came (iterate q base c g) a (stopped (by_jump j)) b (n, m, r, inl (i, e)) = absurd i
    came (iterate q base c g) a (stopped (to_failure f)) b (n, m, r, inl (i, e)) = absurd i
    came (iterate q base c g) a (stopped (to_point p)) b (n, m, r, inl (i, e)) =
        stops_there q p (iterate q base c g) a b i (subst (λ t. HasGone name (iterate q base c g) a (stopped (to_point q)) t) (sym e)
        (heads q base c g (λ a b x. came g a to_end b x) n a m r))
    came (iterate q base c g) a (stopped z) b (n, m, r, inr (w, t, x)) =
        let (o, met) = tests_run q base c true m w t in
        past q g (iterate q base c g) m w (stopped z) (stopped z) b (does (test base c true)) met o (λ x i. into q base c g z x i)
        (λ p x i. in_body q base c g p z x i)
        (λ x s t l. l) a
        (n, m, r, inl (refl, refl)) (λ p d y. (n, m, r, inr (w, t, y))) (came g w (stopped z) b x)
    came (catch q k g) a to_end b (inl x) =
        lifted g (catch q k g) a to_end to_end b (λ x i. Contains-append_left (through g normal) _ x i)
        (λ p x i. Contains-append_left (exit_suffixes g normal) _ _ i)
        (λ x s t l. l)
        (λ p d y. (not_jump p k, y)) (came g a to_end b x)
    came (catch q k g) a to_end b (inr x) =
        lifted g (catch q k g) a (stopped (by_jump k)) to_end b (λ x i. Contains-append_right _ (through g (jump k)) x i)
        (λ p x i. Contains-append_right _ (exit_suffixes g (jump k)) _ i) (λ x s t l. l)
        (λ p d y. (not_jump p k, y)) (came g a (stopped (by_jump k)) b x)
    came (catch q k g) a (stopped z) b (n, x) =
        lifted g (catch q k g) a (stopped z) (stopped z) b (λ x i. first_passed q k g z x n i) (λ p x i. next_passed p q k g z x n i) (λ x s t l. l)
        (λ p d y. (not_jump p k, y)) (came g a (stopped z) b x)
    came (leave n k) a to_end b x = absurd x
    came (leave n k) a (stopped z) b (i, e) =
        subst (λ y. HasGone name (leave n k) a (stopped y) b) (sym i)
        (along_first [] (ap (λ (t : Trace A). t.events) e)
        (subst (λ c. Contains {X = List SegmentStep} (if c then [] ∷ [] else []) []) (sym (same k)) (contains_head [] []))
        (ap (λ (t : Trace A). t.state) e))
    came (select q base e arms) a u b (l, m, (found, met), x) =
        after_step (row_behind l arms) a m u b (goes_in base e arms l) (select q base e arms) found met
        (λ y i. select_first q base e arms found.0 l found.3 u y i) (λ p y i. select_next p q base e l arms u y i)
        (λ p d y. (l, m, (found, met), behind_of_row name NoChange l arms m (stopped (to_point p)) d y))
        (came_behind l arms m u b (row_of_behind name NoChange l arms m u b x))

    came_row : (arms : Arms) (a : Trace A) (u : RunExtent) (b : Trace A) → G (arms_row arms) a u b → HasGone name (arms_row arms) a u b
    came_row no_arms a u b x = came_empty a u b x
    came_row (entry l arms) a u b x = came_row arms a u b x
    came_row (arm g arms) a u b x = came_seq g (arms_row arms) (came g) (came_row arms) a u b x

    came_behind : (l : CaseLabel) (arms : Arms) (a : Trace A) (u : RunExtent) (b : Trace A) → G (row_behind l arms) a u b →
        HasGone name (row_behind l arms) a u b
    came_behind l no_arms a u b x = came_empty a u b x
    came_behind l (entry k arms) a u b x = came_at (arms_row arms) (row_behind l arms) (is_same_case l k) (came_row arms) (came_behind l arms) a u b x
    came_behind l (arm g arms) a u b x = came_behind l arms a u b x
