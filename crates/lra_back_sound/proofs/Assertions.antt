-- In the tree of a program one segment leads from each asserting point to where its condition is false, right after the
-- point.
use Rattle.std.proofs.Common.{◌≡◌, ℕ, suc, ◌<◌, ◌≤◌, List, [], ◌∷◌, ◌++◌, map, filter, Option, Some, None, Bool, true, false, cond, inl, inr, refl, sym, ap, ◌∙◌, subst, arith, append-nil}
use Rattle.std.proofs.lemmas.List.Elements.{All-nil, All-cons, All-head, All-tail, All-append, All-map, All-weaker, All-contains_itself, filter-append}
use Rattle.std.proofs.{Math.Bool.and-false, lemmas.Bool.cases_lt, lemmas.Bool.eqb-true, lemmas.Bool.eq-eqb, lemmas.Option.slice_get_within}
use Rattle.std.specs.{List.All, List.Contains, Prelude.nat_eq, Prelude.◌&&◌, Prelude.slice_get}
use Rattle.lra_back_sound.specs.Crates.lra_operations.Inlined.{InlineState, spot_of, move, callee, IsSiteAt, InlineStmt, InlineItems, InlineCases, InlineDeclarator, InlineLoop, InlineRvalue}
use Rattle.lra_back_sound.specs.Crates.lra_operations.Inlined.{InlineCall, main_inline_state, as_nothing, as_block, as_absent, as_assign, as_write, as_write_call, as_call, as_if, as_loop, as_for}
use Rattle.lra_back_sound.specs.Crates.lra_operations.Inlined.{as_break, as_continue, as_return, as_return_value, as_return_call, as_end, as_end_value, as_end_call, as_assert, as_switch, as_no_cases}
use Rattle.lra_back_sound.specs.Crates.lra_operations.Inlined.{as_labelled, as_stated, as_assume, as_none, as_declaration, as_array, as_statement, as_fresh, as_given, is_loop, as_value, as_result}
use Rattle.lra_back_sound.specs.Crates.lra_operations.Inlined.{is_call}
use Rattle.lra_back_sound.specs.Crates.lra_operations.Tree.{Exit, normal, Node, empty, point, act, check, seq, choose, iterate, catch, leave, select, Arms, no_arms, entry, arm}
use Rattle.lra_back_sound.specs.Crates.lra_path_segments.Segments.{SegmentStep, Suffix, Goal, comes_to, violates, GoalSegment, Segment, goes_in, prepend_step_to_goal, then_way, tested_way, segment_by}
use Rattle.lra_back_sound.specs.Crates.lra_path_segments.Segments.{into_body, out_of_body, segment_to, segments_by, then_ways, through, exit_suffixes, enter, enter_arms, enter_labels, inside}
use Rattle.lra_back_sound.specs.Crates.lra_program.Program.{Expr, Cond, Call, Rvalue, Stmt, Cases, BlockItems, Program}
use Rattle.lra_back_sound.specs.Crates.{lra_base.declared.case_labels.CaseLabel.CaseLabel, lra_base.declared.number_types.NumberType.NumberType, lra_operations.Agree.IsInlinedTree}
use Rattle.lra_back_sound.specs.Crates.{lra_path_segments.Segments.inside_arms, lra_paths.Paths.same_goal, lra_program.Assertions.IsAssertion, lra_program.Receivers.result_receiver}
use Rattle.lra_back_sound.specs.Crates.{lra_program.Sites.Site, lra_program.Sites.sites_of, lra_program.Step.Op, lra_program.Value.Argument, lra_program.declared.receivers.Receiver.Receiver}
use Rattle.lra_back.specs.BackwardAnalysis.{violation_segment, AreAsserted}
use Rattle.lra_back_sound.proofs.MadeLists.{all_flat, all_made}

-- two points are apart
apart : (q p : ℕ) → (q ≡ p → ⊥) → nat_eq q p ≡ false
apart q p other = by (nat_eq q p) refl
  where
    by : (b : Bool) → nat_eq q p ≡ b → nat_eq q p ≡ false
    by true e = absurd (other (eqb-true q p e))
    by false e = e

abbrev asserts_there : Option Site → Bool
asserts_there None = false
asserts_there (Some s) = s.asserts

module _ (T : List Site) (p : ℕ) where
  -- from p, to where the assertion there is false
  abbrev denying : Segment → Bool
  denying segment = nat_eq segment.source p && same_goal segment.to_goal.goal (violates p)

  -- these lead elsewhere
  abbrev Passes : GoalSegment → Type 0
  Passes way = same_goal way.goal (violates p) ≡ false

  abbrev Stays : Segment → Type 0
  Stays segment = denying segment ≡ false

  abbrev Once : List Segment → Type 0
  Once found = (base : ℕ) × (c : Cond) × (found ≡ violation_segment p base c ∷ [])

  -- what is found among the points from one number on and below another: p once, if it asserts
  record Denied (found : List Segment) (low high : ℕ) : Type 0 where
    ordered : low ≤ high
    within : low ≤ p → p < high → IsAssertion T p → Once found
    before : p < low → found ≡ []
    behind : high ≤ p → found ≡ []

  none_denied : (n : ℕ) → Denied [] n n
  none_denied n = record { ordered = omega arith; within = λ h i. absurd (omega (arith, h, i)); before = λ h. refl; behind = λ h. refl }

  no_assertion : (s : InlineState) (at : ℕ) → IsSiteAt T s at → s.next ≡ p → IsAssertion T p → ⊥
  no_assertion s at has same (site, there, asserts) =
      let here : asserts_there (slice_get T p) ≡ false = subst (λ (q : ℕ). asserts_there (slice_get T q) ≡ false) same (ap asserts_there has) in
      let never : false ≡ true = sym here ∙ ap asserts_there there ∙ asserts in
      cc

  -- a point that doesn't assert
  plain_point : (s : InlineState) (at : ℕ) → IsSiteAt T s at → Denied [] s.next (suc s.next)
  plain_point s at has = record {
    ordered = omega arith;
    within = λ h i asserted. absurd (no_assertion s at has (omega (arith, h, i)) asserted);
    before = λ h. refl;
    behind = λ h. refl;
  }

  first_once : (xs ys zs : List Segment) → zs ≡ xs ++ ys → Once xs → ys ≡ [] → Once zs
  first_once xs ys zs e (base, c, is) no_others = (base, c, e ∙ ap (λ us. us ++ ys) is ∙ ap (λ us. violation_segment p base c ∷ us) no_others)

  second_once : (xs ys zs : List Segment) → zs ≡ xs ++ ys → xs ≡ [] → Once ys → Once zs
  second_once xs ys zs e no_others (base, c, is) = (base, c, e ∙ ap (λ us. us ++ ys) no_others ∙ is)

  neither : (xs ys zs : List Segment) → zs ≡ xs ++ ys → xs ≡ [] → ys ≡ [] → zs ≡ []
  neither xs ys zs e i j = e ∙ ap (λ us. us ++ ys) i ∙ j

  both : (xs ys zs : List Segment) (a m b : ℕ) → Denied xs a m → Denied ys m b → zs ≡ xs ++ ys → Denied zs a b
  both xs ys zs a m b x y e = record {
    ordered = let l = x.ordered in let h = y.ordered in omega arith;
    within = λ h i asserted. elim (cases_lt p m)
        [ inl l ↦ first_once xs ys zs e (x.within h l asserted) (y.before l) | inr l ↦ second_once xs ys zs e (x.behind l) (y.within l i asserted) ];
    before = λ h. let l = x.ordered in neither xs ys zs e (x.before h) (y.before (omega (arith, h, l)));
    behind = λ h. let l = y.ordered in neither xs ys zs e (x.behind (omega (arith, h, l))) (y.behind h);
  }

  -- the second of them has the lower numbers
  swapped : (xs ys zs : List Segment) (a m b : ℕ) → Denied ys a m → Denied xs m b → zs ≡ xs ++ ys → Denied zs a b
  swapped xs ys zs a m b y x e = record {
    ordered = let l = y.ordered in let h = x.ordered in omega arith;
    within = λ h i asserted. elim (cases_lt p m)
        [ inl l ↦ second_once xs ys zs e (x.before l) (y.within h l asserted) | inr l ↦ first_once xs ys zs e (x.within l i asserted) (y.behind l) ];
    before = λ h. let l = y.ordered in neither xs ys zs e (x.before (omega (arith, h, l))) (y.before h);
    behind = λ h. let l = x.ordered in neither xs ys zs e (x.behind h) (y.behind (omega (arith, h, l)));
  }

  -- segments that lead elsewhere, from any point
  passing : (b : Bool) (goal : Goal) → same_goal goal (violates p) ≡ false → (b && same_goal goal (violates p)) ≡ false
  passing b goal h = ap (λ d. b && d) h ∙ and-false b

  by_passing : (xs : List Suffix) (ways : List GoalSegment) → All Passes ways → All Stays (segments_by xs ways)
  by_passing xs ways h = all_flat Passes Stays (λ (way : GoalSegment). map (segment_by way) xs)
      (λ (way : GoalSegment) k. all_made (Contains xs) Stays (segment_by way) (λ (x : Suffix) among. passing (nat_eq x.source p) way.goal k) xs
      (All-contains_itself xs)) ways h

  then_passing : (xs : List (List SegmentStep)) (ways : List GoalSegment) → All Passes ways → All Passes (then_ways xs ways)
  then_passing xs ways h = all_flat Passes Passes (λ (way : GoalSegment). map (then_way way) xs) (λ (way : GoalSegment) k. all_made (Contains xs) Passes (then_way way) (λ x among. k) xs
      (All-contains_itself xs)) ways h

  none_deny : (xs : List Segment) → All Stays xs → filter denying xs ≡ []
  none_deny [] h = refl
  none_deny (x ∷ xs) h = ap (λ b. cond b (x ∷ filter denying xs) (filter denying xs)) (All-head Stays x xs h) ∙ none_deny xs (All-tail Stays x xs h)

  found_behind : (xs ys : List Segment) → All Stays xs → filter denying (xs ++ ys) ≡ filter denying ys
  found_behind xs ys h = filter-append denying xs ys ∙ ap (λ us. us ++ filter denying ys) (none_deny xs h)

  found_in_turn : (xs : List Segment) (between : List Suffix) (ways : List GoalSegment) (ys : List Segment) → All Passes ways
      → filter denying (xs ++ segments_by between ways ++ ys) ≡ filter denying xs ++ filter denying ys
  found_in_turn xs between ways ys h =
      filter-append denying (xs ++ segments_by between ways) ys
      ∙ ap (λ us. us ++ filter denying ys) (filter-append denying xs (segments_by between ways)
      ∙ ap (λ us. filter denying xs ++ us) (none_deny (segments_by between ways) (by_passing between ways h)) ∙ append-nil (filter denying xs))

  -- trees with the numbers from the first on and below the second
  record In (g : Node) (low high : ℕ) : Type 0 where
    passes : All Passes (enter g)
    denied : Denied (filter denying (inside g)) low high

  record InArms (arms : Arms) (low high : ℕ) : Type 0 where
    passes : All Passes (enter_arms arms)
    labels : (go : CaseLabel → SegmentStep) → All Passes (enter_labels go arms)
    denied : Denied (filter denying (inside_arms arms)) low high

  in_empty : (n : ℕ) → In empty n n
  in_empty n = record { passes = All-nil Passes; denied = none_denied n }

  in_act : {q n : ℕ} {op : Op} → In (act q op) n n
  in_act {q} {n} {op} = record { passes = All-nil Passes; denied = none_denied n }

  in_leave : {m n : ℕ} {k : Exit} → In (leave m k) n n
  in_leave {m} {n} {k} = record { passes = All-nil Passes; denied = none_denied n }

  in_point : (s : InlineState) (at : ℕ) → IsSiteAt T s at → In (point s.next) s.next (suc s.next)
  in_point s at has = record {
    passes = All-cons Passes (record { ops = []; goal = comes_to s.next }) [] refl (All-nil Passes);
    denied = plain_point s at has;
  }

  in_check : (q base : ℕ) (c : Cond) → In (seq (point q) (check q base c)) q (suc q)
  in_check q base c = record {
    passes = All-cons Passes (record { ops = []; goal = comes_to q }) [] refl (All-nil Passes);
    denied = record {
      ordered = omega arith;
      within = λ h i asserted. let same : q ≡ p = omega (arith, h, i) in
          (base, c, found true (eq-eqb q p same) ∙ ap (λ (j : ℕ). violation_segment j base c ∷ []) same);
      before = λ h. found false (apart q p (λ (e : q ≡ p). omega (arith, h, e)));
      behind = λ h. found false (apart q p (λ (e : q ≡ p). omega (arith, h, e)));
    };
  }
    where
      found : (b : Bool) → nat_eq q p ≡ b → filter denying (violation_segment q base c ∷ []) ≡ cond (b && b) (violation_segment q base c ∷ []) []
      found b e = ap (λ (d : Bool). cond (d && d) (violation_segment q base c ∷ []) []) e

  in_seq : {a b : Node} {l m h : ℕ} → In a l m → In b m h → In (seq a b) l h
  in_seq {a} {b} {l} {m} {h} x y = record {
    passes = All-append Passes (enter a) (then_ways (through a normal) (enter b)) x.passes (then_passing (through a normal) (enter b) y.passes);
    denied = both (filter denying (inside a)) (filter denying (inside b)) _ l m h x.denied y.denied
        (found_in_turn (inside a) (exit_suffixes a normal) (enter b) (inside b) y.passes);
  }

  in_swapped : {a b : Node} {l m h : ℕ} → In b l m → In a m h → In (seq a b) l h
  in_swapped {a} {b} {l} {m} {h} y x = record {
    passes = All-append Passes (enter a) (then_ways (through a normal) (enter b)) x.passes (then_passing (through a normal) (enter b) y.passes);
    denied = swapped (filter denying (inside a)) (filter denying (inside b)) _ l m h y.denied x.denied
        (found_in_turn (inside a) (exit_suffixes a normal) (enter b) (inside b) y.passes);
  }

  in_choose : {q base : ℕ} {c : Cond} {a b : Node} {l m h : ℕ} → In a l m → In b m h → In (choose q base c a b) l h
  in_choose {q} {base} {c} {a} {b} {l} {m} {h} x y = record {
    passes = All-append Passes (map (tested_way base c true) (enter a)) (map (tested_way base c false) (enter b))
        (All-map Passes (tested_way base c true) (enter a) x.passes) (All-map Passes (tested_way base c false) (enter b) y.passes);
    denied = both (filter denying (inside a)) (filter denying (inside b)) _ l m h x.denied y.denied (filter-append denying (inside a) (inside b));
  }

  in_iterate : {q base : ℕ} {c : Cond} {a : Node} {l h : ℕ} → In a l h → In (iterate q base c a) l h
  in_iterate {q} {base} {c} {a} {l} {h} x = record {
    passes = All-cons Passes (record { ops = []; goal = comes_to q }) [] refl (All-nil Passes);
    denied = subst (λ (found : List Segment). Denied found l h) (sym (found_behind ((entering ++ turning) ++ coming_back) (inside a) elsewhere)) x.denied;
  }
    where
      entering : List Segment
      entering = map (into_body q base c) (enter a)

      turning : List Segment
      turning = map (λ ops. segment_to q (out_of_body q base c ops)) (through a normal)

      coming_back : List Segment
      coming_back = map (segment_to q) (exit_suffixes a normal)

      all_entering : All Stays entering
      all_entering = All-map Stays (into_body q base c) (enter a)
          (All-weaker Passes (λ (way : GoalSegment). Stays (into_body q base c way)) (λ (way : GoalSegment) k. passing (nat_eq q p) way.goal k) (enter a)
          x.passes)

      all_turning : All Stays turning
      all_turning = all_made (Contains (through a normal)) Stays (λ ops. segment_to q (out_of_body q base c ops)) (λ ops among. and-false (nat_eq q p))
          (through a normal) (All-contains_itself (through a normal))

      all_back : All Stays coming_back
      all_back = all_made (Contains (exit_suffixes a normal)) Stays (segment_to q) (λ (x : Suffix) among. and-false (nat_eq x.source p))
          (exit_suffixes a normal)
          (All-contains_itself (exit_suffixes a normal))

      elsewhere : All Stays ((entering ++ turning) ++ coming_back)
      elsewhere = All-append Stays (entering ++ turning) coming_back (All-append Stays entering turning all_entering all_turning) all_back

  in_catch : {q : ℕ} {k : Exit} {a : Node} {l h : ℕ} → In a l h → In (catch q k a) l h
  in_catch {q} {k} {a} {l} {h} x = record { passes = x.passes; denied = x.denied }

  in_select : {q base : ℕ} {e : Expr} {arms : Arms} {l h : ℕ} → InArms arms l h → In (select q base e arms) l h
  in_select {q} {base} {e} {arms} {l} {h} x = record { passes = x.labels (goes_in base e arms); denied = x.denied }

  in_no_arms : (n : ℕ) → InArms no_arms n n
  in_no_arms n = record { passes = All-nil Passes; labels = λ go. All-nil Passes; denied = none_denied n }

  in_entry : {label : CaseLabel} {arms : Arms} {l h : ℕ} → InArms arms l h → InArms (entry label arms) l h
  in_entry {label} {arms} {l} {h} x = record {
    passes = x.passes;
    labels = λ go. All-append Passes (map (prepend_step_to_goal (go label)) (enter_arms arms)) (enter_labels go arms)
        (All-map Passes (prepend_step_to_goal (go label)) (enter_arms arms) x.passes) (x.labels go);
    denied = x.denied;
  }

  in_arm : {a : Node} {arms : Arms} {l m h : ℕ} → In a l m → InArms arms m h → InArms (arm a arms) l h
  in_arm {a} {arms} {l} {m} {h} x y = record {
    passes = All-append Passes (enter a) (then_ways (through a normal) (enter_arms arms)) x.passes (then_passing (through a normal) (enter_arms arms) y.passes);
    labels = y.labels;
    denied = both (filter denying (inside a)) (filter denying (inside_arms arms)) _ l m h x.denied y.denied
        (found_in_turn (inside a) (exit_suffixes a normal) (enter_arms arms) (inside_arms arms) y.passes);
  }

  -- its point comes before it
  behind_point : {g : Node} {q b : ℕ} → Denied [] q (suc q) → In g (suc q) b → In g q b
  behind_point {g} {q} {b} own x = record { passes = x.passes; denied = both [] (filter denying (inside g)) _ q (suc q) b own x.denied refl }

  -- a loop: its own point, and the others
  record Loop (g : Node) (q r b : ℕ) : Type 0 where
    own : Denied [] q (suc q)
    rest : In g r b

  module _ (P : Program) where
    mutual
      in_one : {spot : InlineState} {s : Stmt} {g : Node} {q : ℕ} → InlineStmt P T spot s g q → In g spot.next q
      in_one (as_nothing {s = spot} {at = at} i) = in_point spot at i
      in_one (as_block {s = spot} {end = end} {n = n'} {q = q'} d i) = in_seq (in_all d) (in_seq (in_point (move spot n' q') end i) in_act)
      in_one (as_absent {s = spot}) = in_empty spot.next
      in_one (as_assign {s = spot} {at = at} i d) = in_seq (in_point spot at i) (in_gives d)
      in_one (as_write {s = spot} {at = at} i) = in_seq (in_point spot at i) in_act
      in_one (as_write_call {s = spot} {at = at} i d) = in_seq (in_point spot at i) (in_calls d)
      in_one (as_call {s = spot} {at = at} i d) = in_seq (in_point spot at i) (in_gives d)
      in_one (as_if {s = spot} {at = at} i d e) = in_seq (in_point spot at i) (in_choose (in_one d) (in_one e))
      in_one (as_loop d) = let l = in_loop d in behind_point l.own l.rest
      in_one (as_for d e) = let l = in_loop e in behind_point l.own (in_seq (in_all d) (in_seq l.rest in_act))
      in_one (as_break {s = spot} {at = at} i l j) = in_seq (in_point spot at j) (in_seq in_act in_leave)
      in_one (as_continue {s = spot} {at = at} i l j) = in_seq (in_point spot at j) (in_seq in_act in_leave)
      in_one (as_return {s = spot} {at = at} i l j) = in_seq (in_point spot at j) (in_seq in_act (in_seq in_act in_leave))
      in_one (as_return_value {s = spot} {at = at} i l j) = in_seq (in_point spot at j) (in_seq in_act (in_seq in_act in_leave))
      in_one (as_return_call {s = spot} {at = at} i l j d) = in_seq (in_point spot at j) (in_seq (in_gives d) (in_seq in_act in_leave))
      in_one (as_end {s = spot} {at = at} i j) = in_seq (in_point spot at j) in_leave
      in_one (as_end_value {s = spot} {at = at} i j) = in_seq (in_point spot at j) (in_seq in_act in_leave)
      in_one (as_end_call {s = spot} {at = at} i j d) = in_seq (in_point spot at j) (in_seq (in_gives d) in_leave)
      in_one (as_assert {s = spot} {c = c} i) = in_check spot.next spot.frame.here.base c
      in_one (as_assume {s = spot} {at = at} i) = in_seq (in_point spot at i) in_act
      in_one (as_switch {s = spot} {at = at} i d) = in_seq (in_point spot at i) (in_catch (in_select (in_cases d)))

      in_cases : {spot : InlineState} {cs : Cases} {arms : Arms} {q : ℕ} → InlineCases P T spot cs arms q → InArms arms spot.next q
      in_cases (as_no_cases {s = spot}) = in_no_arms spot.next
      in_cases (as_labelled d) = in_entry (in_cases d)
      in_cases (as_stated d e) = in_arm (in_one d) (in_cases e)

      in_all : {spot : InlineState} {s : BlockItems} {g : Node} {n q : ℕ} → InlineItems P T spot s g n q → In g spot.next q
      in_all (as_none {s = spot}) = in_empty spot.next
      in_all (as_declaration {s = spot} {d = d} i j e) = in_seq (in_seq (in_point spot d.label i) (in_declares j)) (in_all e)
      in_all (as_array {s = spot} {at = at} i e) = in_seq (in_seq (in_point spot at i) in_act) (in_all e)
      in_all (as_statement d e) = in_seq (in_one d) (in_all e)

      in_declares : {spot : InlineState} {r : ℕ} {t : NumberType} {e : Option Rvalue} {g : Node} {q : ℕ} → InlineDeclarator P T spot r t e g q → In g r q
      in_declares as_fresh = in_act
      in_declares (as_given d) = in_seq in_act (in_gives d)

      in_loop : {spot : InlineState} {r : ℕ} {s : Stmt} {g : Node} {q : ℕ} → InlineLoop P T spot r s g q → Loop g spot.next r q
      in_loop (is_loop {s = spot} {at = at} i d e) = record {
        own = plain_point spot at i;
        rest = in_catch (in_iterate (in_swapped (in_one d) (in_catch (in_one e))));
      }

      in_gives : {spot : InlineState} {r : ℕ} {x : Receiver} {e : Rvalue} {g : Node} {q : ℕ} → InlineRvalue P T spot r x e g q → In g r q
      in_gives as_value = in_act
      in_gives (as_result d) = in_calls d

      in_calls : {spot : InlineState} {r : ℕ} {x : Receiver} {gives : List Argument → Op} {c : Call} {g : Node} {q : ℕ} → InlineCall P T spot r x gives c g q →
          In g r q
      in_calls (is_call {s = spot} {x = x} {c = c} {fn = fn} {n = n'} {q = r'} i j d l) =
          let end = in_point (spot_of (callee spot.frame spot.live (result_receiver fn.result_type x) c) n' r') fn.end l in
          in_seq in_act (in_catch (in_seq (in_all d) (in_seq end (in_seq in_act (in_seq in_act in_act)))))

pub assertions_denied : (P : Program) (g : Node) → IsInlinedTree P g → AreAsserted (sites_of P) g
assertions_denied P g graph =
    subst (AreAsserted (sites_of P)) (sym graph.parts) (λ p asserted. (whole p).denied.within (omega arith) (below p asserted) asserted)
  where
    whole : (p : ℕ) → In (sites_of P) p (seq graph.body (point graph.last)) 0 (suc graph.last)
    whole p = in_seq (sites_of P) p (in_all (sites_of P) p P graph.inlined)
        (in_point (sites_of P) p (move (main_inline_state P) graph.live graph.last) P.main.end graph.ends)

    below : (p : ℕ) → IsAssertion (sites_of P) p → p < suc graph.last
    below p (s, there, asserts) = let inside = slice_get_within (sites_of P) p s there in omega (arith, inside, graph.all)
