-- In the tree of a program each condition that is asserted stands right after its point: so only segments from that
-- point lead to where it is false.
use Rattle.std.proofs.Common.{◌≡◌, ◌≢◌, ℕ, zero, suc, ◌+◌, ◌<◌, ◌≤◌, List, [], ◌∷◌, ◌++◌, map, filter, flat_map, length, Option, Bool, true, false, cond, inl, inr, refl, sym, ap, ◌∙◌, subst, arith}
use Rattle.std.proofs.lemmas.List.Elements.{All-nil, All-cons, All-head, All-tail, All-append, All-map, All-weaker}
use Rattle.std.proofs.{Common.append-nil, lemmas.Bool.cases_lt, lemmas.Bool.eqb-true}
use Rattle.std.specs.{List.All, List.range_with_len, Prelude.nat_eq, Prelude.◌&&◌}
use Rattle.lra_paths.specs.Crates.lra_path_segments.Segments.{SegmentStep, does, goes_in, prepend_step_to_goal, enter_arms, enter_labels, Goal, comes_to, violates, GoalSegment, Segment, then_way}
use Rattle.lra_paths.specs.Crates.lra_path_segments.Segments.{segment_by, tested_way, into_body, out_of_body, segment_to, through, enter, exit_suffixes, inside, Suffix, then_ways, segments_by}
use Rattle.lra_paths.specs.Crates.lra_program.Program.{Expr, Cond, Call, Rvalue, Stmt, Cases, BlockItems, Program}
use Rattle.lra_paths.specs.Crates.{lra_base.declared.case_labels.CaseLabel.CaseLabel, lra_base.declared.number_types.NumberType.NumberType, lra_program.Sites.Site, lra_program.Sites.sites_of}
use Rattle.lra_paths.specs.Crates.{lra_program.Step.Op, lra_program.Step.test, lra_program.Value.Argument, lra_program.declared.receivers.Receiver.Receiver}
use Rattle.lra_operations.specs.Inlined.{InlineState, InlineStmt, InlineItems, InlineCases, InlineDeclarator, InlineLoop, InlineRvalue, InlineCall, as_nothing, as_block, as_absent, as_assign}
use Rattle.lra_operations.specs.Inlined.{as_write, as_write_call, as_call, as_if, as_loop, as_for, as_break, as_continue, as_return, as_return_value, as_return_call, as_end, as_end_value, as_end_call}
use Rattle.lra_operations.specs.Inlined.{as_assert, as_switch, as_no_cases, as_labelled, as_stated, as_assume, as_none, as_declaration, as_array, as_statement, as_fresh, as_given, is_loop, as_value}
use Rattle.lra_operations.specs.Tree.{Exit, normal, Node, empty, point, act, check, seq, choose, iterate, catch, leave, select, Arms, no_arms, entry, arm}
use Rattle.lra_operations.specs.{Agree.IsInlinedTree, Inlined.as_result, Inlined.is_call}
use Rattle.lra_operations.proofs.ArmRows.{arms_row}
use Rattle.lra_paths.proofs.Crates.lra_path_segments.LabelLaws.{enter_row, inside_row}
use Rattle.lra_path_disjuncts.specs.Disjuncts.{written}
use Rattle.lra_paths.specs.Paths.{same_goal, started, live_at, actions_between, path_by, paths_between, violations_of}

-- lists ------------------------------------------------------------------------------------------------------------------

module _ {A B : Type 0} (Q : A → Type 0) (P : B → Type 0) where
  all_flat : (f : A → List B) → ((x : A) → Q x → All P (f x)) → (xs : List A) → All Q xs → All P (flat_map f xs)
  all_flat f h [] k = All-nil P
  all_flat f h (x ∷ xs) k = All-append P (f x) (flat_map f xs) (h x (All-head Q x xs k)) (all_flat f h xs (All-tail Q x xs k))

  all_made : (f : A → B) → ((x : A) → Q x → P (f x)) → (xs : List A) → All Q xs → All P (map f xs)
  all_made f h xs k = All-map P f xs (All-weaker Q (λ x. P (f x)) h xs k)

-- whatever they are made of
any_made : {A B : Type 0} (P : B → Type 0) (f : A → B) → ((x : A) → P (f x)) → (xs : List A) → All P (map f xs)
any_made P f h [] = All-nil P
any_made P f h (x ∷ xs) = All-cons P (f x) (map f xs) (h x) (any_made P f h xs)

none_pass : {A : Type 0} (p : A → Bool) (xs : List A) → All (λ x. p x ≡ false) xs → filter p xs ≡ []
none_pass p [] h = refl
none_pass p (x ∷ xs) h =
    ap (λ b. cond b (x ∷ filter p xs) (filter p xs)) (All-head (λ y. p y ≡ false) x xs h) ∙ none_pass p xs (All-tail (λ y. p y ≡ false) x xs h)

-- of all numbers one alone gives something
module _ {B : Type 0} (f : ℕ → List B) (p : ℕ) (h : (k : ℕ) → k ≢ p → f k ≡ []) where
  none_behind : (a n : ℕ) → p < a → flat_map f (range_with_len a n) ≡ []
  none_behind a zero l = refl
  none_behind a (suc n) l =
      ap (λ u. u ++ flat_map f (range_with_len (a + 1) n)) (h a (λ (e : a ≡ p). omega (arith, l, e))) ∙ none_behind (a + 1) n (omega (arith, l))

  only_one : (a n : ℕ) → a ≤ p → p < a + n → flat_map f (range_with_len a n) ≡ f p
  only_one a zero low high = absurd (omega (arith, low, high))
  only_one a (suc n) low high = elim (cases_lt a p) [
    | inl l ↦ ap (λ u. u ++ flat_map f (range_with_len (a + 1) n)) (h a (λ (e : a ≡ p). omega (arith, l, e)))
        ∙ only_one (a + 1) n (omega (arith, l)) (omega (arith, high))
    | inr l ↦ let e : a ≡ p = omega (arith, low, l) in
        ap (λ u. f a ++ u) (none_behind (a + 1) n (omega (arith, l))) ∙ append-nil (f a) ∙ ap f e
  ]

-- goals ------------------------------------------------------------------------------------------------------------------

-- it is a point
abbrev IsPoint : Goal → Type 0
IsPoint (comes_to q) = Unit {0}
IsPoint (violates q) = ⊥

-- or where the assertion at this point is false
abbrev IsOwn : ℕ → Goal → Type 0
IsOwn p (comes_to q) = Unit {0}
IsOwn p (violates q) = p ≡ q

point_own : (p : ℕ) (goal : Goal) → IsPoint goal → IsOwn p goal
point_own p (comes_to q) h = tt
point_own p (violates q) h = absurd h

abbrev EndsAtPoint : GoalSegment → Type 0
EndsAtPoint way = IsPoint way.goal

abbrev EndsAtOwn : Segment → Type 0
EndsAtOwn segment = IsOwn segment.source segment.to_goal.goal

-- the segments of a tree from its start, and from its points
pub record AreOwn (g : Node) : Type 0 where
  pub first : All EndsAtPoint (enter g)
  pub next : All EndsAtOwn (inside g)

own_empty : AreOwn empty
own_empty = record { first = All-nil EndsAtPoint; next = All-nil EndsAtOwn }

own_point : (q : ℕ) → AreOwn (point q)
own_point q = record {
  first = All-cons EndsAtPoint (record { ops = []; goal = comes_to q }) [] tt (All-nil EndsAtPoint);
  next = All-nil EndsAtOwn;
}

own_act : (q : ℕ) (op : Op) → AreOwn (act q op)
own_act q op = record { first = All-nil EndsAtPoint; next = All-nil EndsAtOwn }

own_leave : (n : ℕ) (k : Exit) → AreOwn (leave n k)
own_leave n k = record { first = All-nil EndsAtPoint; next = All-nil EndsAtOwn }

-- after its point
own_check : (q base : ℕ) (c : Cond) → AreOwn (seq (point q) (check q base c))
own_check q base c = record {
  first = All-cons EndsAtPoint (record { ops = []; goal = comes_to q }) [] tt (All-nil EndsAtPoint);
  next = All-cons EndsAtOwn (record { source = q; to_goal = record { ops = does (test base c false) ∷ []; goal = violates q } }) [] refl (All-nil EndsAtOwn);
}

own_seq : (a b : Node) → AreOwn a → AreOwn b → AreOwn (seq a b)
own_seq a b x y =
    let first = all_flat EndsAtPoint EndsAtPoint (λ (way : GoalSegment). map (then_way way) (through a normal))
    (λ (way : GoalSegment) h. any_made EndsAtPoint (then_way way) (λ ops. h) (through a normal)) (enter b) y.first in
    let next = all_flat EndsAtPoint EndsAtOwn (λ (way : GoalSegment). map (segment_by way) (exit_suffixes a normal))
    (λ (way : GoalSegment) h. any_made EndsAtOwn (segment_by way) (λ (z : Suffix). point_own z.source way.goal h) (exit_suffixes a normal)) (enter b) y.first in
    record {
      first = All-append EndsAtPoint (enter a) (then_ways (through a normal) (enter b)) x.first first;
      next = All-append EndsAtOwn (inside a ++ segments_by (exit_suffixes a normal) (enter b)) (inside b)
          (All-append EndsAtOwn (inside a) (segments_by (exit_suffixes a normal) (enter b)) x.next next) y.next;
    }

own_choose : (q base : ℕ) (c : Cond) (a b : Node) → AreOwn a → AreOwn b → AreOwn (choose q base c a b)
own_choose q base c a b x y = record {
  first = All-append EndsAtPoint (map (tested_way base c true) (enter a)) (map (tested_way base c false) (enter b))
      (all_made EndsAtPoint EndsAtPoint (tested_way base c true) (λ way h. h) (enter a) x.first)
      (all_made EndsAtPoint EndsAtPoint (tested_way base c false) (λ way h. h) (enter b) y.first);
  next = All-append EndsAtOwn (inside a) (inside b) x.next y.next;
}

own_iterate : (q base : ℕ) (c : Cond) (a : Node) → AreOwn a → AreOwn (iterate q base c a)
own_iterate q base c a x =
    let entering : List Segment = map (into_body q base c) (enter a) in
    let round : List Segment = map (λ ops. segment_to q (out_of_body q base c ops)) (through a normal) in
    let back : List Segment = map (segment_to q) (exit_suffixes a normal) in
    let one = all_made EndsAtPoint EndsAtOwn (into_body q base c) (λ (way : GoalSegment) h. point_own q way.goal h) (enter a) x.first in
    let two = any_made EndsAtOwn (λ ops. segment_to q (out_of_body q base c ops)) (λ ops. tt) (through a normal) in
    let three = any_made EndsAtOwn (segment_to q) (λ z. tt) (exit_suffixes a normal) in
    record {
      first = All-cons EndsAtPoint (record { ops = []; goal = comes_to q }) [] tt (All-nil EndsAtPoint);
      next = All-append EndsAtOwn ((entering ++ round) ++ back) (inside a)
          (All-append EndsAtOwn (entering ++ round) back (All-append EndsAtOwn entering round one two) three) x.next;
    }

own_catch : (q : ℕ) (k : Exit) (a : Node) → AreOwn a → AreOwn (catch q k a)
own_catch q k a x = record { first = x.first; next = x.next }

-- arms: of their trees in a row, and from their labels
record ArmsOwn (arms : Arms) : Type 0 where
  row : AreOwn (arms_row arms)
  labels : (go : CaseLabel → SegmentStep) → All EndsAtPoint (enter_labels go arms)

own_no_arms : ArmsOwn no_arms
own_no_arms = record { row = own_empty; labels = λ go. All-nil EndsAtPoint }

own_entry : (l : CaseLabel) (arms : Arms) → ArmsOwn arms → ArmsOwn (entry l arms)
own_entry l arms x = record {
  row = x.row;
  labels = λ go. All-append EndsAtPoint (map (prepend_step_to_goal (go l)) (enter_arms arms)) (enter_labels go arms)
      (all_made EndsAtPoint EndsAtPoint (prepend_step_to_goal (go l)) (λ way h. h) (enter_arms arms) (subst (All EndsAtPoint) (enter_row arms) x.row.first))
      (x.labels go);
}

own_arm : (a : Node) (arms : Arms) → AreOwn a → ArmsOwn arms → ArmsOwn (arm a arms)
own_arm a arms x y = record { row = own_seq a (arms_row arms) x y.row; labels = y.labels }

own_select : (q base : ℕ) (e : Expr) (arms : Arms) → ArmsOwn arms → AreOwn (select q base e arms)
own_select q base e arms x = record { first = x.labels (goes_in base e arms); next = subst (All EndsAtOwn) (inside_row arms) x.row.next }

-- trees of programs -------------------------------------------------------------------------------------------------------

mutual
  own_one : {P : Program} {T : List Site} {spot : InlineState} {s : Stmt} {g : Node} {q : ℕ} → InlineStmt P T spot s g q → AreOwn g
  own_one (as_nothing i) = own_point _
  own_one (as_block d i) = own_seq _ _ (own_all d) (own_seq _ _ (own_point _) (own_act _ _))
  own_one as_absent = own_empty
  own_one (as_assign i d) = own_seq _ _ (own_point _) (own_gives d)
  own_one (as_write i) = own_seq _ _ (own_point _) (own_act _ _)
  own_one (as_write_call i d) = own_seq _ _ (own_point _) (own_call d)
  own_one (as_call i d) = own_seq _ _ (own_point _) (own_gives d)
  own_one (as_if i d e) = own_seq _ _ (own_point _) (own_choose _ _ _ _ _ (own_one d) (own_one e))
  own_one (as_loop d) = own_loop d
  own_one (as_for d e) = own_seq _ _ (own_all d) (own_seq _ _ (own_loop e) (own_act _ _))
  own_one (as_break i k j) = own_seq _ _ (own_point _) (own_seq _ _ (own_act _ _) (own_leave _ _))
  own_one (as_continue i k j) = own_seq _ _ (own_point _) (own_seq _ _ (own_act _ _) (own_leave _ _))
  own_one (as_return i k j) = own_seq _ _ (own_point _) (own_seq _ _ (own_act _ _) (own_seq _ _ (own_act _ _) (own_leave _ _)))
  own_one (as_return_value i k j) = own_seq _ _ (own_point _) (own_seq _ _ (own_act _ _) (own_seq _ _ (own_act _ _) (own_leave _ _)))
  own_one (as_return_call i k j d) = own_seq _ _ (own_point _) (own_seq _ _ (own_gives d) (own_seq _ _ (own_act _ _) (own_leave _ _)))
  own_one (as_end i j) = own_seq _ _ (own_point _) (own_leave _ _)
  own_one (as_end_value i j) = own_seq _ _ (own_point _) (own_seq _ _ (own_act _ _) (own_leave _ _))
  own_one (as_end_call i j d) = own_seq _ _ (own_point _) (own_seq _ _ (own_gives d) (own_leave _ _))
  own_one (as_assert i) = own_check _ _ _
  own_one (as_assume i) = own_seq _ _ (own_point _) (own_act _ _)
  own_one (as_switch i d) = own_seq _ _ (own_point _) (own_catch _ _ _ (own_select _ _ _ _ (own_cases d)))

  own_cases : {P : Program} {T : List Site} {spot : InlineState} {cs : Cases} {arms : Arms} {q : ℕ} → InlineCases P T spot cs arms q → ArmsOwn arms
  own_cases as_no_cases = own_no_arms
  own_cases (as_labelled d) = own_entry _ _ (own_cases d)
  own_cases (as_stated d e) = own_arm _ _ (own_one d) (own_cases e)

  own_all : {P : Program} {T : List Site} {spot : InlineState} {s : BlockItems} {g : Node} {n q : ℕ} → InlineItems P T spot s g n q → AreOwn g
  own_all as_none = own_empty
  own_all (as_declaration i j e) = own_seq _ _ (own_seq _ _ (own_point _) (own_declares j)) (own_all e)
  own_all (as_array i e) = own_seq _ _ (own_seq _ _ (own_point _) (own_act _ _)) (own_all e)
  own_all (as_statement d e) = own_seq _ _ (own_one d) (own_all e)

  own_declares : {P : Program} {T : List Site} {spot : InlineState} {r : ℕ} {t : NumberType} {e : Option Rvalue} {g : Node} {q : ℕ} →
      InlineDeclarator P T spot r t e g q →
      AreOwn g
  own_declares as_fresh = own_act _ _
  own_declares (as_given d) = own_seq _ _ (own_act _ _) (own_gives d)

  own_loop : {P : Program} {T : List Site} {spot : InlineState} {r : ℕ} {s : Stmt} {g : Node} {q : ℕ} → InlineLoop P T spot r s g q → AreOwn g
  own_loop (is_loop i d e) = own_catch _ _ _ (own_iterate _ _ _ _ (own_seq _ _ (own_catch _ _ _ (own_one e)) (own_one d)))

  own_gives : {P : Program} {T : List Site} {spot : InlineState} {r : ℕ} {x : Receiver} {e : Rvalue} {g : Node} {q : ℕ} → InlineRvalue P T spot r x e g q →
      AreOwn g
  own_gives as_value = own_act _ _
  own_gives (as_result d) = own_call d

  own_call : {P : Program} {T : List Site} {spot : InlineState} {r : ℕ} {x : Receiver} {gives : List Argument → Op} {c : Call} {g : Node} {q : ℕ} →
      InlineCall P T spot r x gives c g q → AreOwn g
  own_call (is_call i j d k) = own_seq _ _ (own_act _ _) (own_catch _ _ _ (own_seq _ _ (own_all d) (own_seq _ _ (own_point _)
      (own_seq _ _ (own_act _ _) (own_seq _ _ (own_act _ _) (own_act _ _))))))

own_graph : (P : Program) (g : Node) → IsInlinedTree P g → AreOwn g
own_graph P g is = subst AreOwn (sym is.parts) (own_seq is.body (point is.last) (own_all is.inlined) (own_point is.last))

-- paths -------------------------------------------------------------------------------------------------------------------

never_both : (b d : Bool) → (b ≡ true → d ≡ true → ⊥) → (b && d) ≡ false
never_both true true h = absurd (h refl refl)
never_both true false h = refl
never_both false d h = refl

not_false : (b : Bool) → (b && false) ≡ false
not_false true = refl
not_false false = refl

point_denied : (goal : Goal) (q : ℕ) → IsPoint goal → same_goal goal (violates q) ≡ false
point_denied (comes_to p) q h = refl
point_denied (violates p) q h = absurd h

other_denied : (s p q : ℕ) (goal : Goal) → p ≢ q → IsOwn s goal → (nat_eq s p && same_goal goal (violates q)) ≡ false
other_denied s p q (comes_to r) other h = not_false (nat_eq s p)
other_denied s p q (violates r) other h = never_both (nat_eq s p) (nat_eq r q) (λ b d. other (sym (eqb-true s p b) ∙ h ∙ eqb-true r q d))

module _ (P : Program) (g : Node) (is : IsInlinedTree P g) (q : ℕ) where
  none_lead : (p : ℕ) → p ≢ suc q → actions_between P g p (violates q) ≡ []
  none_lead zero other = ap (flat_map (λ (way : GoalSegment). started P.globals way.ops))
      (none_pass (λ (way : GoalSegment). same_goal way.goal (violates q)) (enter g)
      (All-weaker EndsAtPoint (λ (way : GoalSegment). same_goal way.goal (violates q) ≡ false) (λ (way : GoalSegment) h. point_denied way.goal q h) (enter g)
      (own_graph P g is).first))
  none_lead (suc p) other = ap (flat_map (λ (segment : Segment). written (live_at P p) segment.to_goal.ops))
      (none_pass (λ (segment : Segment). nat_eq segment.source p && same_goal segment.to_goal.goal (violates q)) (inside g)
      (All-weaker EndsAtOwn (λ (segment : Segment). (nat_eq segment.source p && same_goal segment.to_goal.goal (violates q)) ≡ false)
      (λ (segment : Segment) h. other_denied segment.source p q segment.to_goal.goal (λ e. other (ap suc e)) h) (inside g) (own_graph P g is).next))

  pub own_denials : q < length (sites_of P) → violations_of P g q ≡ paths_between P g (suc q) (violates q)
  own_denials inside_sites = only_one (λ p. paths_between P g p (violates q)) (suc q) (λ p other. ap (map (path_by p (violates q))) (none_lead p other)) 0
      (suc (length (sites_of P))) (omega arith) (omega (arith, inside_sites))

pub violations_are_own : (P : Program) (g : Node) (q : ℕ) → IsInlinedTree P g → q < length (sites_of P) →
    violations_of P g q ≡ paths_between P g (suc q) (violates q)
violations_are_own P g q is less = own_denials P g is q less
