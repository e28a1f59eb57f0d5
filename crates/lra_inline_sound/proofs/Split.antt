-- A run that reaches a point, cut at the statement on top: what is sought there is inside, or the statement ends or
-- jumps before.
use Rattle.std.proofs.Common.{◌≡◌, ℕ, ℤ, zero, suc, ◌+◌, ◌<◌, ◌≤◌, List, [], ◌∷◌, length, Option, Some, None, Bool, true, false, ◌⊎◌, inl, inr, refl, sym, ap, ◌∙◌, subst, slice_get, arith}
use Rattle.std.proofs.lemmas.Option.{same_Some, none-some}
use Rattle.std.specs.Prelude.{cond}
use Rattle.lra_inline_sound.specs.Crates.lra_program.Program.{Cond, Call, Rvalue, value, result, Declarator, Stmt, absent, nothing, block, assign, write, call, if, loop, for, break, continue, return}
use Rattle.lra_inline_sound.specs.Crates.lra_program.Program.{assert, assume, BlockItems, Expr, switch, Cases, no_cases, labelled, stated, labels_of, no_more, declaration, array, statement, Function}
use Rattle.lra_inline_sound.specs.Crates.lra_program.Program.{Program}
use Rattle.lra_inline_sound.specs.Crates.lra_program.Step.{cases as cases_item, end_switch, cases_after_label, chosen, do_switch, State, Op, append, fill, store_value, store_element, havoc, push}
use Rattle.lra_inline_sound.specs.Crates.lra_program.Step.{push_for, truncate_to, test, run_op, run_any, CallContext, ReturnFrame, Item, run, declare, declare_array, all, end_of, next_round, end_for}
use Rattle.lra_inline_sound.specs.Crates.lra_program.Step.{return_frame, leave_call, Config, break_target, continue_target, environment_at, return_target, main_receiver, receiver_of, go, enter_by}
use Rattle.lra_inline_sound.specs.Crates.lra_program.Step.{do_rvalue, do_leave, do_break, do_continue, do_declare, next, next_at}
use Rattle.lra_inline_sound.specs.Crates.lra_program.Traces.{TraceEvent, visit, Trace, with_visit, Becomes, TracedSteps}
use Rattle.lra_inline_sound.specs.Crates.{lra_base.CaseLabels.is_same_case, lra_base.CaseLabels.goal_of, lra_base.declared.case_labels.CaseLabel.CaseLabel}
use Rattle.lra_inline_sound.specs.Crates.{lra_base.declared.number_types.NumberType.NumberType, lra_program.Receivers.variable_at, lra_program.Receivers.waiting_in, lra_program.Receivers.nobody}
use Rattle.lra_inline_sound.specs.Crates.{lra_program.Run.label_on, lra_program.Run.Point, lra_program.Sites.Site, lra_program.Value.Drawn, lra_program.Value.value_of, lra_program.Value.index_of}
use Rattle.lra_inline_sound.specs.Crates.{lra_program.Value.Argument, lra_program.Value.truth_of, lra_program.declared.arrays.Array.Array, lra_program.declared.receivers.Receiver.Receiver}
use Rattle.lra_operations.proofs.ArmRows.{arms_row, row_behind, behind_of_row}
use Rattle.lra_operations.specs.Inlined.{Frame, InlineState, move, at_point, within, into_callee, IsSiteAt, IsSiteWith, callee, InlineStmt, InlineItems, InlineDeclarator, InlineLoop, InlineRvalue}
use Rattle.lra_operations.specs.Inlined.{InlineCall, as_nothing, as_block, as_absent, as_assign, as_call, as_if, as_loop, as_for, as_break, as_continue, as_return, as_return_value, as_return_call}
use Rattle.lra_operations.specs.Inlined.{as_end, as_end_value, as_end_call, as_assert, as_assume, as_switch, as_no_cases, as_labelled, as_stated, InlineCases, among_cases, switch_node, as_none}
use Rattle.lra_operations.specs.Inlined.{as_declaration, as_statement, as_fresh, as_given, is_loop, as_value, as_result, is_call, as_array, as_write, as_write_call, loop_node, callee_node}
use Rattle.lra_operations.specs.Traces.{by_jump, RunExtent, to_end, stopped, RunsUpTo, ArmsRunUpTo, Finds, VisitsAndTests, Performs, VisitsPoint}
use Rattle.lra_operations.specs.Tree.{Exit, broken, continued, returned, Node, point, act, check, seq, choose, catch, iterate, leave, select, Arms, no_arms}
use Rattle.lra_operations.specs.{Inlined.return_node, TracesAgree.KeepsWidth, TracesAgree.point_at, TracesAgree.point_or_none}
use Rattle.lra_inline_sound.proofs.Landing.{IsBare, config, land, land_skip, Matches, matches_skip, outside_some, turn_some, mark_some, mark_none, go_some, go_on_some, go_by_some, lands_broken}
use Rattle.lra_inline_sound.proofs.Lengths.{Adds, AddsEach, adds_given, Length, length_declarator, length_array, length_one, length_all, length_test, length_push, length_push_for, length_append}
use Rattle.lra_inline_sound.proofs.Shapes.{inner, given, width, call_ends, Round, EndsBodyRound, loop_join, loop_done, loop_broken, loop_left, EndsLoop, loop_first, jump_join, tail_node}
use Rattle.lra_inline_sound.proofs.{Landing.lands_continued, Landing.lands_returned, Lengths.tests_length, Lengths.mid_length, Lengths.round_length, Selecting.entries_are}

returned_broken : by_jump returned ≡ by_jump broken → ⊥
returned_broken e = cc

returned_continued : by_jump returned ≡ by_jump continued → ⊥
returned_continued e = cc

broken_continued : by_jump broken ≡ by_jump continued → ⊥
broken_continued e = cc

abbrev pub trail : State → List (TraceEvent Point) → Trace Point
trail s xs = record { state = s; events = xs }

pub named : (T : List Site) (spot : InlineState) (at : ℕ) (asserts : Bool) → IsSiteWith T spot at asserts
    → point_at T spot.next ≡ record { path = spot.frame.here.path; label = at }
named T spot at asserts has = ap point_or_none has

pub not_there : (c d : Config) (p : ℕ) → label_on c.items ≡ Some p → label_on d.items ≡ None → d ≡ c → ⊥
not_there c d p on lab e = none-some p (sym lab ∙ (ap (λ (x : Config). label_on x.items) e ∙ on))

pub receiver_is : (P : Program) (f : Frame) (k : List Item) (b : ReturnFrame) → f.back ≡ Some b → Matches f k → receiver_of P (return_target k) ≡ b.receiver
receiver_is P f k b i mm = let marked = mark_some (return_target k) b (mm.backs ∙ i) in rw marked.1 refl

pub no_mark : (f : Frame) (k : List Item) → f.back ≡ None → Matches f k → return_target k ≡ None
no_mark f k i mm = mark_none (return_target k) (mm.backs ∙ i)

-- What is sought of a tree that is run from a trace: that of what a run may be stopped for there, or what it may do.
module _ (may : State → State → Type 0) (T : List Site) (H : Node → Trace Point → Type 0) where
  -- what is so of a part of a tree is so of the tree
  pub record IsClosed : Type 0 where
    pub first : (g h : Node) (a : Trace Point) → H g a → H (seq g h) a
    pub second : (g h : Node) (a m : Trace Point) → RunsUpTo (point_at T) may g a to_end m → H h m → H (seq g h) a
    pub on_true : (q base : ℕ) (b : Cond) (g h : Node) (a m : Trace Point) → Performs (test base b true) a m → H g m → H (choose q base b g h) a
    pub on_false : (q base : ℕ) (b : Cond) (g h : Node) (a m : Trace Point) → Performs (test base b false) a m → H h m → H (choose q base b g h) a
    pub caught : (q : ℕ) (j : Exit) (g : Node) (a : Trace Point) → H g a → H (catch q j g) a
    pub in_round : (q base : ℕ) (b : Cond) (g : Node) (a m : Trace Point) → VisitsAndTests (point_at T) may q base b true a m → H g m → H (iterate q base b g) a
    -- a round more, at the start
    pub in_loop : (q base : ℕ) (b : Cond) (g h : Node) (a m : Trace Point) → Round (point_at T) may q base b g h a m → H (loop_node q base b g h) m
        → H (loop_node q base b g h) a
    pub selected : (q base : ℕ) (e : Expr) (arms : Arms) (l : CaseLabel) (a m : Trace Point) → Finds base e arms a l m → H (row_behind l arms) m
        → H (select q base e arms) a

module _ (may : State → State → Type 0) (P : Program) (T : List Site) (c : Config) (zs : List (TraceEvent Point)) (H : Node → Trace Point → Type 0) where
  -- the run has come there
  abbrev pub IsThere : List Item → InlineState → Trace Point → Type 0
  IsThere is spot a = (config is spot.frame.here a.state ≡ c) × (a.events ≡ zs)

  -- it is so of the parts, and where the run is there: of the tree of what is on top
  pub record IsSought : Type 0 where
    pub closed : IsClosed may T H
    pub one : (spot : InlineState) (s : Stmt) (g : Node) (q : ℕ) → InlineStmt P T spot s g q → (k : List Item) (a : Trace Point) → Matches spot.frame k
        → length a.state.store ≡ spot.live → IsThere (run s ∷ k) spot a → H g a
    pub loops : (spot : InlineState) (r : ℕ) (s : Stmt) (g : Node) (q : ℕ) → InlineLoop P T spot r s g q → (k : List Item) (a : Trace Point)
        → length a.state.store ≡ spot.live → IsThere (run s ∷ k) spot a → H g a
    pub declared : (spot : InlineState) (d : Declarator) (g : Node) (q : ℕ) → IsSiteAt T spot d.label →
        InlineDeclarator P T spot (suc spot.next) d.number_type d.rvalue g q
        → (k : List Item) (a : Trace Point) → length a.state.store ≡ spot.live → IsThere (declare d ∷ k) spot a → H (seq (point spot.next) g) a
    pub filled : (spot : InlineState) (at : ℕ) (z : Array) → IsSiteAt T spot at → (k : List Item) (a : Trace Point) → length a.state.store ≡ spot.live
        → IsThere (declare_array at z ∷ k) spot a → H (seq (point spot.next) (act spot.next (fill z))) a
    pub block_end : (spot : InlineState) (n at : ℕ) → IsSiteAt T spot at → (k : List Item) (a : Trace Point) → IsBare k → length a.state.store ≡ spot.live
        → IsThere (end_of at n ∷ k) spot a → H (seq (point spot.next) (act spot.next (truncate_to n))) a
    pub call_end : (spot : InlineState) (n : ℕ) (h : CallContext) (x : Receiver) (end params : ℕ) → IsSiteAt T spot end → (k : List Item) (a : Trace Point)
        → length a.state.store ≡ spot.live
        → IsThere (end_of end (n + params) ∷ return_frame (record { receiver = x; here = h; length = n }) ∷ k) spot a → H (tail_node spot.next n x params) a
    pub main_end : (spot : InlineState) (n at : ℕ) → IsSiteAt T spot at → (a : Trace Point) → length a.state.store ≡ spot.live →
        IsThere (end_of at n ∷ []) spot a
        → H (point spot.next) a

module _ (may : State → State → Type 0) (keeps : KeepsWidth may) (P : Program) (T : List Site) (c : Config) (zs : List (TraceEvent Point)) (p : ℕ)
    (on : label_on c.items ≡ Some p) (H : Node → Trace Point → Type 0) (F : IsSought may P T c zs H) where
  abbrev G : Node → Trace Point → RunExtent → Trace Point → Type 0
  G = RunsUpTo (point_at T) may

  abbrev W : ℕ → Config → List (TraceEvent Point) → Type 0
  W n d xs = TracedSteps may P n d xs c zs

  len_one : {spot : InlineState} {s : Stmt} {g : Node} {q : ℕ} → InlineStmt P T spot s g q → Length (point_at T) may keeps spot.frame spot.live spot.live g
  len_one d = length_one (point_at T) may keeps d

  len_all : {spot : InlineState} {s : BlockItems} {g : Node} {n q : ℕ} → InlineItems P T spot s g n q → Length (point_at T) may keeps spot.frame spot.live n g
  len_all d = length_all (point_at T) may keeps d

  -- what n steps to c make of the tree that stands for the items above k
  pub data Splits (h : CallContext) (k : List Item) (n : ℕ) (g : Node) (a : Trace Point) : Type 0 where
    hits : H g a → Splits h k n g a
    ended : (j : ℕ) (m : Trace Point) → j < n → RunsUpTo (point_at T) may g a to_end m → TracedSteps may P j (config k h m.state) m.events c zs →
        Splits h k n g a
    jumped : (j : ℕ) (kind : Exit) (m : Trace Point) (d : Config) → j < n → RunsUpTo (point_at T) may g a (stopped (by_jump kind)) m
        → land kind h k m.state ≡ Some d → TracedSteps may P j d m.events c zs
        → Splits h k n g a

  splits_more : (h : CallContext) (k : List Item) (n n' : ℕ) (g : Node) (a : Trace Point) → n ≤ n' → Splits h k n g a → Splits h k n' g a
  splits_more h k n n' g a l (hits x) = hits x
  splits_more h k n n' g a l (ended j m i e r) = ended j m (omega arith) e r
  splits_more h k n n' g a l (jumped j kind m d i e b r) = jumped j kind m d (omega arith) e b r

  -- one tree after another; the items of the second stand above k
  splits_seq : (h : CallContext) (k k' : List Item) (n : ℕ) (f g : Node) (a : Trace Point) → ((j : Exit) (m : State) → land j h k' m ≡ land j h k m)
      → Splits h k' n f a
      → ((j : ℕ) (m : Trace Point) → j < n → G f a to_end m → W j (config k' h m.state) m.events → Splits h k j g m) → Splits h k n (seq f g) a
  splits_seq h k k' n f g a skip (hits x) then = hits (F.closed.first f g a x)
  splits_seq h k k' n f g a skip (jumped j kind m d i e l r) then = jumped j kind m d i (inl e) (sym (skip kind m.state) ∙ l) r
  splits_seq h k k' n f g a skip (ended j m i e r) then = after (then j m i e r)
    where
      after : Splits h k j g m → Splits h k n (seq f g) a
      after (hits x) = hits (F.closed.second f g a m e x)
      after (ended j' m' i' e' r') = ended j' m' (omega arith) (m, e, e') r'
      after (jumped j' kind m' d i' e' l r') = jumped j' kind m' d (omega arith) (inr (m, e, e')) l r'

  -- a step from an item with a point
  pub record Enters (is : List Item) (spot : InlineState) (j : ℕ) (a : Trace Point) : Type 0 where
    pub past : Trace Point
    pub goal : Config
    pub passed : VisitsPoint (point_at T) may spot.next a past
    pub long : length past.state.store ≡ spot.live
    pub step : next_at P is spot.frame.here past.state ≡ Some goal
    pub rest : TracedSteps may P j goal past.events c zs

  pub enters : (is : List Item) (spot : InlineState) (at : ℕ) (asserts : Bool) (j : ℕ) (a : Trace Point) → IsSiteWith T spot at asserts
      → length a.state.store ≡ spot.live → label_on is ≡ Some at
      → W (suc j) (config is spot.frame.here a.state) a.events → Enters is spot j a
  enters is spot at asserts j a has l lab (s, e, b, x, r) =
      let m : may a.state s = subst (λ o. Becomes may o a.state s) lab b in
      let same : with_visit (label_on is) spot.frame.here.path a.state a.events ≡ visit (point_at T spot.next) a.state ∷ a.events =
      ap (λ o. with_visit o spot.frame.here.path a.state a.events) lab ∙ ap (λ r. visit r a.state ∷ a.events) (sym (named T spot at asserts has)) in
      record {
        past = trail s (visit (point_at T spot.next) a.state ∷ a.events);
        goal = e;
        passed = (m, refl);
        long = keeps a.state s m ∙ l;
        step = x;
        rest = subst (λ ys. W j e ys) same r;
      }

  -- from an item without
  pub plain : (d : Config) (xs : List (TraceEvent Point)) (n : ℕ) → label_on d.items ≡ None → W n d xs
      → (j : ℕ) × (e : Config) × (n ≡ suc j) × (next P d ≡ Some e) × W j e xs
  plain d xs zero lab r = absurd (not_there c d p on lab r.0)
  plain d xs (suc j) lab (s, e, b, x, r) = (
    j,
    e,
    refl,
    subst (λ t. next_at P d.items d.here t ≡ Some e) (subst (λ o. Becomes may o d.state s) lab b) x,
    subst
        (λ o. W j e (with_visit o d.here.path d.state xs)) lab r,
  )

  past : (d e : Config) (xs : List (TraceEvent Point)) (n : ℕ) → label_on d.items ≡ None → next P d ≡ Some e → W n d xs → (j : ℕ) × (n ≡ suc j) × W j e xs
  past d e xs n lab x r = let y = plain d xs n lab r in (y.0, y.2, rw (same_Some e y.1 (sym x ∙ y.3)) y.4)

  -- an item with a point of its own
  splits_point : (spot : InlineState) (at : ℕ) (asserts : Bool) (i : Item) (g : Node) (k : List Item) (a : Trace Point) (count : ℕ) →
      IsSiteWith T spot at asserts
      → length a.state.store ≡ spot.live →
      label_on (i ∷ k) ≡ Some at
      → (IsThere may P T c zs H (i ∷ k) spot a → H (seq (point spot.next) g) a)
      → W count (config (i ∷ k) spot.frame.here a.state) a.events
      → ((j : ℕ) (b : Trace Point) (e : Config) → suc j ≡ count → length b.state.store ≡ spot.live → next_at P (i ∷ k) spot.frame.here b.state ≡ Some e
      → W j e b.events
      → Splits spot.frame.here k count g b)
      → Splits spot.frame.here k count (seq (point spot.next) g) a
  splits_point spot at asserts i g k a zero has l lab top r inner =
      hits (top r)
  splits_point spot at asserts i g k a (suc j) has l lab top r inner =
      let x = enters (i ∷ k) spot at asserts j a has l lab r in
      after x.past x.passed (inner j x.past x.goal refl x.long x.step x.rest)
    where
      after : (b : Trace Point) → VisitsPoint (point_at T) may spot.next a b → Splits spot.frame.here k (suc j) g b
          → Splits spot.frame.here k (suc j) (seq (point spot.next) g) a
      after b m (hits y) = hits (F.closed.second (point spot.next) g a b m y)
      after b m (ended j' m' i y z) = ended j' m' i (b, m, y) z
      after b m (jumped j' kind m' d i y l z) = jumped j' kind m' d i (inr (b, m, y)) l z

  splits_act : (q : ℕ) (op : Op) (h : CallContext) (k : List Item) (a : Trace Point) (j : ℕ) (e : Config) → go k h (run_op op a.state) ≡ Some e → W j e a.events
      → Splits h k (suc j) (act q op) a
  splits_act q op h k a j e x r = let y = go_some k h (run_op op a.state) e x in ended j (trail y.0 a.events) (omega arith) (y.1, refl) (rw y.2 r)

  pub record Tail (r : ℕ) (h : CallContext) (n : ℕ) (x : Receiver) (params : ℕ) (k : List Item) (count : ℕ) (a : Trace Point) : Type 0 where
    pub left : ℕ
    pub over : Trace Point
    pub cut : Trace Point
    pub set : Trace Point
    pub final : Trace Point
    pub fewer : suc left < count
    pub passed : VisitsPoint (point_at T) may r a over
    pub cuts : Performs (truncate_to (n + params)) over cut
    pub sets : Performs (havoc x) cut set
    pub backs : Performs (truncate_to n) set final
    pub rest : TracedSteps may P left (config k h final.state) final.events c zs

  abbrev call_items : Function → ℕ → Receiver → CallContext → List Item → List Item
  call_items fn n x h k = end_of fn.end (n + width fn) ∷ return_frame (record { receiver = x; here = h; length = n }) ∷ k

  -- runs of fewer steps are cut so
  pub record Below (fuel : ℕ) : Type 0 where
    pub one : (spot : InlineState) (s : Stmt) (g : Node) (q : ℕ) → InlineStmt P T spot s g q → (k : List Item) (a : Trace Point) (count : ℕ) →
        Matches spot.frame k
        → IsBare k → length a.state.store ≡ spot.live → count < fuel
        → TracedSteps may P count (config (run s ∷ k) spot.frame.here a.state) a.events c zs → Splits spot.frame.here k count g a
    pub every : (spot : InlineState) (s : BlockItems) (g : Node) (n q : ℕ) → InlineItems P T spot s g n q → (k : List Item) (a : Trace Point) (count : ℕ)
        → Matches spot.frame k →
        length a.state.store ≡ spot.live → count < fuel
        → TracedSteps may P count (config (all s ∷ k) spot.frame.here a.state) a.events c zs → Splits spot.frame.here k count g a
    pub among : (spot : InlineState) (cs : Cases) (arms : Arms) (q : ℕ) → InlineCases P T spot cs arms q → (k : List Item) (a : Trace Point) (count : ℕ)
        → Matches spot.frame k →
        length a.state.store ≡ spot.live → count < fuel
        → TracedSteps may P count (config (cases_item cs ∷ k) spot.frame.here a.state) a.events c zs → Splits spot.frame.here k count (arms_row arms) a
    pub loops : (spot : InlineState) (r : ℕ) (s : Stmt) (g : Node) (q : ℕ) → InlineLoop P T spot r s g q → (k : List Item) (a : Trace Point) (count : ℕ)
        → Matches spot.frame k →
        length a.state.store ≡ spot.live → count < fuel
        → TracedSteps may P count (config (run s ∷ k) spot.frame.here a.state) a.events c zs → Splits spot.frame.here k count g a

  module _ (fuel : ℕ) (below : Below fuel) where
    -- what a callee's body leaves: its end, and the call's
    call_tail : (spot : InlineState) (n : ℕ) (h : CallContext) (x : Receiver) (end params : ℕ) (k : List Item) (count : ℕ) (a : Trace Point) →
        IsSiteAt T spot end → length
        a.state.store ≡ spot.live
        → W count (config (end_of end (n + params) ∷ return_frame (record { receiver = x; here = h; length = n }) ∷ k) spot.frame.here a.state) a.events
        → H (tail_node spot.next n x params) a ⊎ Tail spot.next h n x params k count a
    call_tail spot n h x end params k zero a has l e = inl (F.call_end spot n h x end params has k a l e)
    call_tail spot n h x end params k (suc i) a has l r =
        let y = enters (end_of end (n + params) ∷ return_frame (record { receiver = x; here = h; length = n }) ∷ k) spot end false i a has l refl r in
        let cutting = go_some (return_frame (record { receiver = x; here = h; length = n }) ∷ k) spot.frame.here
        (run_op (truncate_to (n + params)) y.past.state) y.goal
        y.step in
        marked y.past y.passed cutting.0 cutting.1 (rw cutting.2 y.rest)
      where
        marked : (b : Trace Point) → VisitsPoint (point_at T) may spot.next a b → (short : State) → run_op (truncate_to (n + params)) b.state ≡ Some short
            → W i (config (return_frame (record { receiver = x; here = h; length = n }) ∷ k) spot.frame.here short) b.events
            → H (tail_node spot.next n x params) a ⊎ Tail spot.next h n
            x params k (suc i) a
        marked b m short o rest =
            let v = plain (config (return_frame (record { receiver = x; here = h; length = n }) ∷ k) spot.frame.here short) b.events i refl rest in
            let few = v.2 in
            let setting = go_on_some (run_any x short) (λ t. go k h (run_op (truncate_to n) t)) v.1 v.3 in
            let back = go_some k h (run_op (truncate_to n) setting.0) v.1 setting.2 in
            inr (record {
              left = v.0;
              over = b;
              cut = trail short b.events;
              set = trail setting.0 b.events;
              final = trail back.0 b.events;
              fewer = omega (arith, few);
              passed = m;
              cuts = (o, refl);
              sets = (setting.1, refl);
              backs = (back.1, refl);
              rest = rw back.2 v.4;
            })

    abbrev tree_of_call : InlineState → ℕ → Receiver → (List Argument → Op) → Call → Function → Node → Node
    tree_of_call spot r x gives b fn g = callee_node spot.next r spot.live (inner fn x) (gives (given fn b)) (width fn) g

    abbrev tree_of_loop : InlineState → Cond → Node → Node → Node
    tree_of_loop spot b g h = loop_node spot.next spot.frame.here.base b g h

    splits_call : (spot : InlineState) (r : ℕ) (x : Receiver) (gives : List Argument → Op) (b : Call) (fn : Function) (g : Node) (n' r' : ℕ) (k : List Item)
        (a : Trace Point) (j : ℕ) (e : Config)
        → Adds (gives (given fn b)) (width fn) → InlineItems P T (into_callee spot (inner fn x) b (width fn) r) fn.body g n' r' → IsSiteAt T
        (move (into_callee spot (inner fn x) b (width fn) r) n' r') fn.end
        → length a.state.store ≡ spot.live → j < fuel → enter_by gives (Some fn) b x k spot.frame.here a.state ≡ Some e → W j e a.events
        → Splits spot.frame.here k (suc j) (tree_of_call spot r' x gives b fn g) a
    splits_call spot r x gives b fn g n' r' k a j e adds d has l less y rest =
        let y' : go (all fn.body ∷ call_items fn spot.live (inner fn x) spot.frame.here k) (callee spot.frame spot.live (inner fn x) b).here
        (run_op (gives (given fn b)) a.state) ≡ Some e = rw (← l) y in
        let entering = go_some (all fn.body ∷ call_items fn spot.live (inner fn x) spot.frame.here k) (callee spot.frame spot.live (inner fn x) b).here
        (run_op (gives (given fn b)) a.state) e y' in
        inside (trail entering.0 a.events) (entering.1, refl) (rw entering.2 rest)
      where
        body : Node
        body = seq g (tail_node r' spot.live (inner fn x) (width fn))

        in_body : (u : Trace Point) → Performs (gives (given fn b)) a u → H body u → H (tree_of_call spot r' x gives b fn g) a
        in_body u o z = F.closed.second (act spot.next (gives (given fn b))) (catch spot.next returned body) a u o
            (F.closed.caught spot.next returned body u z)

        ended_inside : (u : Trace Point) → Performs (gives (given fn b)) a u → (i : ℕ) (m : Trace Point) → i < j → G g u to_end m
            → H (tail_node r' spot.live (inner fn x) (width fn)) m ⊎ Tail r' spot.frame.here spot.live (inner fn x) (width fn) k i m
            → Splits spot.frame.here k (suc j)
            (tree_of_call spot r' x gives b fn g) a
        ended_inside u o i m z v (inl h) = hits
            (in_body u o (F.closed.second g (tail_node r' spot.live (inner fn x) (width fn)) u m v h))
        ended_inside u o i m z v (inr t) = let few = t.fewer in ended t.left t.final (omega arith)
            (call_ends (point_at T) may spot r' (inner fn x) (gives (given fn b)) (width fn) g a u t.final o
            (record { before = m; past = t.over; cut = t.cut; set = t.set; body = v; passed = t.passed; cuts = t.cuts; sets = t.sets; back = t.backs })) t.rest

        long : (u : Trace Point) → Performs (gives (given fn b)) a u → length u.state.store ≡ spot.live + width fn
        long u o = adds a.state u.state o.0 ∙ ap (λ n. n + width fn) l

        after : (u : Trace Point) → Performs (gives (given fn b)) a u → Splits (callee spot.frame spot.live (inner fn x) b).here
            (call_items fn spot.live (inner fn x) spot.frame.here k) j g u
            → Splits spot.frame.here k (suc j) (tree_of_call spot r' x gives b fn g) a
        after u o (hits h) = hits (in_body u o (F.closed.first g (tail_node r' spot.live (inner fn x) (width fn)) u h))
        after u o (jumped i' broken m d' z v l' t) = absurd (none-some d' l')
        after u o (jumped i' continued m d' z v l' t) = absurd (none-some d' l')
        after u o (jumped i' returned m d' z v l' t) = ended i' m (omega arith) (u, o, inr (inl v)) (rw (same_Some (config k spot.frame.here m.state) d' l') t)
        after u o (ended i' m z v t) = ended_inside u o i' m z v (call_tail (move (into_callee spot (inner fn x) b (width fn) r) n' r') spot.live
            spot.frame.here (inner fn x) fn.end (width fn) k i' m has
            ((len_all d).ends u m to_end (long u o) v) t)

        inside : (u : Trace Point) → Performs (gives (given fn b)) a u →
            W j (config (all fn.body ∷ call_items fn spot.live (inner fn x) spot.frame.here k) (callee spot.frame spot.live (inner fn x) b).here u.state)
            a.events
            →
            Splits spot.frame.here k (suc j) (tree_of_call spot r' x gives b fn g) a
        inside u o t = after u o (below.every (into_callee spot (inner fn x) b (width fn) r) fn.body g n' r' d
            (call_items fn spot.live (inner fn x) spot.frame.here k) u j
            (record { breaks = λ m z. absurd (none-some m z); continues = λ m z. absurd (none-some m z); backs = refl }) (long u o) less (rw o.1 t))

    splits_calls : (spot : InlineState) (r : ℕ) (x : Receiver) (gives : List Argument → Op) (b : Call) (g : Node) (q : ℕ) (k : List Item) (a : Trace Point)
        (j : ℕ)
        (e : Config) → InlineCall P T spot r x gives b g q → AddsEach gives
        → length a.state.store ≡ spot.live → j < fuel → enter_by gives (slice_get P.functions b.function) b x k spot.frame.here a.state ≡ Some e →
        W j e a.events
        → Splits spot.frame.here k (suc j) g a
    splits_calls _ _ _ _ _ _ _ k a j e (is_call {s = spot} {r = r} {x = x} {gives = gives} {c = b} {fn = fn} {g = g'} {n = n'} {q = r'} found i d has) adds l
        less y rest =
        let y' : enter_by gives (Some fn) b x k spot.frame.here a.state ≡ Some e = subst
        (λ o. enter_by gives o b x k spot.frame.here a.state ≡ Some e) found y in
        splits_call spot r x gives b fn g' n' r' k a j e (adds_given gives fn b adds i) d has l less y' rest

    splits_gives : (spot : InlineState) (r : ℕ) (x : Receiver) (v : Rvalue) (g : Node) (q : ℕ) (k : List Item) (a : Trace Point) (j : ℕ) (e : Config) →
        InlineRvalue P T spot
        r x v g q
        → length a.state.store ≡ spot.live → j < fuel → do_rvalue P x v k spot.frame.here a.state ≡ Some e → W j e a.events →
        Splits spot.frame.here k (suc j) g a
    splits_gives _ _ _ _ _ _ k a j e (as_value {s = spot} {x = x} {e = v}) l less y rest =
        splits_act spot.next (store_value spot.frame.here.base x v) spot.frame.here k a j e y rest
    splits_gives _ _ _ _ _ _ k a j e (as_result {s = spot} {r = r} {x = x} {c = b} {g = g} {q = q'} d) l less y rest =
        splits_calls spot r x (push spot.frame.here.base) b g q' k a j e d (λ es s t o. length_push spot.frame.here.base es s t o) l less y rest

    splits_loop : (spot : InlineState) (r at : ℕ) (b : Cond) (s step : Stmt) (g h : Node) (r' q' : ℕ) → IsSiteAt T spot at
        → InlineStmt P T (within spot None r) step h r' → InlineStmt P T (within spot (Some spot.live) r') s g q' →
        (k : List Item) (a : Trace Point) (count : ℕ)
        → Matches spot.frame k
        → length a.state.store ≡ spot.live → count < suc fuel
        → (IsThere may P T c zs H (run (loop at b s step) ∷ k) spot a → H (loop_node spot.next spot.frame.here.base b g h) a)
        → W count (config (run (loop at b s step) ∷ k) spot.frame.here a.state) a.events
        → Splits spot.frame.here k count (loop_node spot.next spot.frame.here.base b g h) a
    splits_loop spot r at b s step g h r' q' has d e k a zero m l less top t =
        hits (top t)
    splits_loop spot r at b s step g h r' q' has d e k a (suc j) m l less top t =
        let x = enters (run (loop at b s step) ∷ k) spot at false j a has l refl t in
        elim (go_by_some (run s ∷ next_round step (loop at b s step) (length x.past.state.store) ∷ k) k spot.frame.here x.past.state
        (truth_of b (environment_at spot.frame.here.base x.past.state) x.past.state.draws) x.goal x.step) [
          | inl z ↦ round (trail z.0 x.past.events) (x.past, x.passed, (z.1, refl))
              (subst (λ w. W j (config (run s ∷ next_round step (loop at b s step) w ∷ k) spot.frame.here z.0) x.past.events) x.long (rw z.2 x.rest))
          | inr z ↦ ended j (trail z.0 x.past.events) (omega arith) (last to_end (trail z.0 x.past.events) (loop_done (x.past, x.passed, (z.1, refl))))
              (rw z.2 x.rest)
        ]
      where
        last : (u : RunExtent) (v : Trace Point) → EndsLoop (point_at T) may spot.next spot.frame.here.base b g h a v u → G (tree_of_loop spot b g h) a u v
        last u v x = loop_join (point_at T) may spot.next spot.frame.here.base b g h a 0 a u v refl x

        whole_round : Node
        whole_round = seq (catch spot.next continued g) h

        inside : (on' : Trace Point) → VisitsAndTests (point_at T) may spot.next spot.frame.here.base b true a on' → H whole_round on' →
            H (tree_of_loop spot b g h) a
        inside on' o y = F.closed.caught spot.next broken (iterate spot.next spot.frame.here.base b whole_round) a
            (F.closed.in_round spot.next spot.frame.here.base b whole_round a on' o y)

        -- the loop again, after a whole round
        again : (on' mid v : Trace Point) → VisitsAndTests (point_at T) may spot.next spot.frame.here.base b true a on' →
            EndsBodyRound (point_at T) may g on' mid
            → G h mid to_end v → (i : ℕ) → i < j
            → W i (config (run (loop at b s step) ∷ k) spot.frame.here v.state) v.events → Splits spot.frame.here k (suc j) (tree_of_loop spot b g h) a
        again on' mid v o x x' i less' t = shift (below.loops spot r (loop at b s step) (tree_of_loop spot b g h) q' (is_loop has d e) k v i m long
            (omega arith) t)
          where
            whole : Round (point_at T) may spot.next spot.frame.here.base b g h a v
            whole = (on', o, (mid, x, x'))

            long : length v.state.store ≡ spot.live
            long = round_length (point_at T) may keeps spot.frame spot.live g h (len_one e) (len_one d) spot.next spot.frame.here.base b a v l whole

            shift : Splits spot.frame.here k i (tree_of_loop spot b g h) v → Splits spot.frame.here k (suc j) (tree_of_loop spot b g h) a
            shift (hits y') = hits (F.closed.in_loop spot.next spot.frame.here.base b g h a v whole y')
            shift (ended i' m' z e' t') = ended i' m' (omega arith) (loop_first (point_at T) may spot.next spot.frame.here.base b g h a v to_end m' whole e') t'
            shift (jumped i' kind m' d' z e' l' t') =
                jumped i' kind m' d' (omega arith) (loop_first (point_at T) may spot.next spot.frame.here.base b g h a v (stopped (by_jump kind)) m' whole
                e') l' t'

        -- the step, after the body
        stepping : (on' mid : Trace Point) → VisitsAndTests (point_at T) may spot.next spot.frame.here.base b true a on' →
            EndsBodyRound (point_at T) may g on' mid
            → (i : ℕ) → i < j
            → W i (config (next_round step (loop at b s step) spot.live ∷ k) spot.frame.here mid.state) mid.events
            → Splits spot.frame.here k (suc j) (tree_of_loop spot b g h) a
        stepping on' mid o x i less' t =
            let moved = past (config (next_round step (loop at b s step) spot.live ∷ k) spot.frame.here mid.state)
            (config (run step ∷ run (loop at b s step) ∷ k) spot.frame.here mid.state) mid.events i
            refl refl t in
            let few = moved.1 in
            cases moved.0 (omega (arith, few)) (below.one (within spot None r) step h r' d (run (loop at b s step) ∷ k) mid moved.0
            (record { breaks = λ w z. absurd (none-some w z); continues = λ w z. absurd (none-some w z); backs = m.backs }) tt
            long (omega (arith, few)) moved.2)
          where
            long : length mid.state.store ≡ spot.live
            long = mid_length (point_at T) may keeps spot.frame spot.live g h (len_one e) (len_one d) on' mid
                (tests_length (point_at T) may keeps spot.next spot.frame.here.base b true a on' o ∙ l) x

            cases : (i' : ℕ) → i' < j → Splits spot.frame.here (run (loop at b s step) ∷ k) i' h mid
                → Splits spot.frame.here k (suc j) (tree_of_loop spot b g h) a
            cases i' less'' (hits y') = hits (inside on' o (F.closed.second (catch spot.next continued g) h on' mid x y'))
            cases i' less'' (ended i'' v z e' t') = again on' mid v o x e' i'' (omega arith) t'
            cases i' less'' (jumped i'' broken v d' z e' l' t') = absurd (none-some _ ((len_one d).ends mid v (stopped (by_jump broken)) long e').1)
            cases i' less'' (jumped i'' continued v d' z e' l' t') = absurd (none-some _ ((len_one d).ends mid v (stopped (by_jump continued)) long e').1)
            cases i' less'' (jumped i'' returned v d' z e' l' t') = jumped i'' returned v d' (omega arith)
                (last (stopped (by_jump returned)) v (loop_left on' (by_jump returned) o (inr (mid, x, e')) returned_broken)) l' t'

        round : (on' : Trace Point) → VisitsAndTests (point_at T) may spot.next spot.frame.here.base b true a on' →
            W j (config (run s ∷ next_round step (loop at b s step) spot.live ∷ k) spot.frame.here on'.state) on'.events
            → Splits spot.frame.here k (suc j) (tree_of_loop spot b g h) a
        round on' o t = cases (below.one (within spot (Some spot.live) r') s g q' e (next_round step (loop at b s step) spot.live ∷ k) on' j
            (record { breaks = λ w z. z; continues = λ w z. z; backs = m.backs }) tt
            (tests_length (point_at T) may keeps spot.next spot.frame.here.base b true a on' o ∙ l) (omega arith) t)
          where
            cases : Splits spot.frame.here (next_round step (loop at b s step) spot.live ∷ k) j g on' →
                Splits spot.frame.here k (suc j) (tree_of_loop spot b g h) a
            cases (hits y') = hits (inside on' o (F.closed.first (catch spot.next continued g) h on' (F.closed.caught spot.next continued g on' y')))
            cases (ended i m' z x t') = stepping on' m' o (inl x) i z t'
            cases (jumped i broken m' d' z x l' t') = ended i m' (omega arith) (last to_end m' (loop_broken on' o (inl (broken_continued, x))))
                (rw (same_Some (config k spot.frame.here m'.state) d' l') t')
            cases (jumped i continued m' d' z x l' t') =
                stepping on' m' o (inr x) i z (rw (same_Some (config (next_round step (loop at b s step) spot.live ∷ k) spot.frame.here m'.state) d' l') t')
            cases (jumped i returned m' d' z x l' t') = jumped i returned m' d' (omega arith)
                (last (stopped (by_jump returned)) m' (loop_left on' (by_jump returned) o (inl (returned_continued, x)) returned_broken)) l' t'

    skip_one : (h : CallContext) (i : Item) (k : List Item) → break_target (i ∷ k) ≡ break_target k → continue_target (i ∷ k) ≡ continue_target k →
        return_target (i ∷ k) ≡ return_target k
        → (j : Exit) (m : State) → land j h (i ∷ k) m ≡ land j h k m
    skip_one h i k d e e' j m = land_skip j h i k m d e e'

    -- a block's end
    end_tail : (spot : InlineState) (n at : ℕ) (k : List Item) (a : Trace Point) (count : ℕ) → IsBare k → IsSiteAt T spot at →
        length a.state.store ≡ spot.live →
        W count (config (end_of at n ∷ k) spot.frame.here a.state) a.events
        → Splits spot.frame.here k count (seq (point spot.next) (act spot.next (truncate_to n))) a
    end_tail spot n at k a count bare has l t = splits_point spot at false (end_of at n) (act spot.next (truncate_to n)) k a count has l refl
        (F.block_end spot n at has k a bare l) t
        (λ j b e j' l' y w. splits_more spot.frame.here k (suc j) count (act spot.next (truncate_to n)) b (omega arith)
        (splits_act spot.next (truncate_to n) spot.frame.here k b j e y w))

    -- the end of a `for`
    cut_tail : (h : CallContext) (n q : ℕ) (k : List Item) (a : Trace Point) (count : ℕ) → W count (config (end_for n ∷ k) h a.state) a.events
        → Splits h k count (act q (truncate_to n)) a
    cut_tail h n q k a count t =
        let x = plain (config (end_for n ∷ k) h a.state) a.events count refl t in
        splits_more h k (suc x.0) count (act q (truncate_to n)) a (omega arith) (splits_act q (truncate_to n) h k a x.0 x.1 x.3 x.4)

    after_act : (q : ℕ) (op : Op) (g : Node) (h : CallContext) (k : List Item) (n : ℕ) (a b : Trace Point) → Performs op a b → Splits h k n g b
        → Splits h k n (seq (act q op) g) a
    after_act q op g h k n a b o (hits x) = hits (F.closed.second (act q op) g a b o x)
    after_act q op g h k n a b o (ended j m i e r) = ended j m i (b, o, e) r
    after_act q op g h k n a b o (jumped j kind m d i e l r) = jumped j kind m d i (inr (b, o, e)) l r

    choose_on : (q base : ℕ) (b : Cond) (g g' : Node) (h : CallContext) (k : List Item) (n : ℕ) (a t : Trace Point) → Performs (test base b true) a t
        → Splits h k n g t →
        Splits h k n (choose q base b g g') a
    choose_on q base b g g' h k n a t o (hits x) = hits (F.closed.on_true q base b g g' a t o x)
    choose_on q base b g g' h k n a t o (ended j m i e r) = ended j m i (inl (t, o, e)) r
    choose_on q base b g g' h k n a t o (jumped j kind m d i e l r) = jumped j kind m d i (inl (t, o, e)) l r

    choose_off : (q base : ℕ) (b : Cond) (g g' : Node) (h : CallContext) (k : List Item) (n : ℕ) (a t : Trace Point) → Performs (test base b false) a t
        → Splits h k n g' t →
        Splits h k n (choose q base b g g') a
    choose_off q base b g g' h k n a t o (hits x) = hits (F.closed.on_false q base b g g' a t o x)
    choose_off q base b g g' h k n a t o (ended j m i e r) = ended j m i (inr (t, o, e)) r
    choose_off q base b g g' h k n a t o (jumped j kind m d i e l r) = jumped j kind m d i (inr (t, o, e)) l r

    splits_break : (f : Frame) (q m live : ℕ) (k : List Item) (a : Trace Point) (j : ℕ) (e : Config) → f.breaks ≡ Some m → Matches f k
        → do_break (break_target k) f.here a.state ≡ Some e → W j e a.events
        → Splits f.here k (suc j) (seq (act q (truncate_to m)) (leave live broken)) a
    splits_break f q m live k a j e i mm y t =
        let turning = outside_some (break_target k) m (mm.breaks m i) in
        let y' : go turning.0.rest f.here (run_op (truncate_to turning.0.length) a.state) ≡ Some e =
        subst (λ o. do_break o f.here a.state ≡ Some e) turning.1 y in
        let x = go_some turning.0.rest f.here (run_op (truncate_to turning.0.length) a.state) e y' in
        let o : run_op (truncate_to m) a.state ≡ Some x.0 = subst (λ w. run_op (truncate_to w) a.state ≡ Some x.0) turning.2 x.1 in
        jumped j broken (trail x.0 a.events) e (omega arith) (jump_join (point_at T) may q (truncate_to m) live broken a (trail x.0 a.events) (o, refl))
        (lands_broken (break_target k) turning.0 f.here x.0 e turning.1 x.2) t

    splits_continue : (f : Frame) (q m live : ℕ) (k : List Item) (a : Trace Point) (j : ℕ) (e : Config) → f.continues ≡ Some m → Matches f k
        → do_continue (continue_target k) f.here a.state ≡ Some e → W j e a.events
        → Splits f.here k (suc j) (seq (act q (truncate_to m)) (leave live continued)) a
    splits_continue f q m live k a j e i mm y t =
        let turning = turn_some (continue_target k) m (mm.continues m i) in
        let r : List Item = next_round turning.0.step turning.0.again turning.0.length ∷ turning.0.rest in
        let y' : go r f.here (run_op (truncate_to turning.0.length) a.state) ≡ Some e = subst (λ o. do_continue o f.here a.state ≡ Some e) turning.1 y in
        let x = go_some r f.here (run_op (truncate_to turning.0.length) a.state) e y' in
        let o : run_op (truncate_to m) a.state ≡ Some x.0 = subst (λ w. run_op (truncate_to w) a.state ≡ Some x.0) turning.2 x.1 in
        jumped j continued (trail x.0 a.events) e (omega arith) (jump_join (point_at T) may q (truncate_to m) live continued a (trail x.0 a.events) (o, refl))
        (lands_continued (continue_target k) turning.0 f.here x.0 e turning.1 x.2) t

    -- back to the caller, from a state that a change may have made
    splits_leave : (f : Frame) (q live : ℕ) (b : ReturnFrame) (k : List Item) (xs : List (TraceEvent Point)) (o : Option State) (j : ℕ) (e : Config) →
        f.back ≡ Some b
        → Matches f k → do_leave (return_target k) o ≡ Some e
        → W j e xs
        → (u : State) × (o ≡ Some u) × Splits f.here k (suc j) (seq (act q (truncate_to b.length)) (leave live returned)) (trail u xs)
    splits_leave f q live b k xs o j e i mm y t =
        let marked = mark_some (return_target k) b (mm.backs ∙ i) in
        let y' : do_leave (Some (record { back = b; rest = marked.0 })) o ≡ Some e = subst (λ w. do_leave w o ≡ Some e) marked.1 y in
        let x = go_on_some o (λ t. go marked.0 b.here (run_op (truncate_to b.length) t)) e y' in
        let z = go_some marked.0 b.here (run_op (truncate_to b.length) x.0) e x.2 in (
          x.0,
          x.1,
          jumped j returned (trail z.0 xs) e (omega arith) (jump_join (point_at T) may q (truncate_to b.length) live returned (trail x.0 xs) (trail z.0 xs)
              (z.1, refl))
              (lands_returned (return_target k) (record { back = b; rest = marked.0 }) z.0 e marked.1 z.2) t,
        )

    splits_return : (f : Frame) (q live : ℕ) (op : Op) (b : ReturnFrame) (k : List Item) (a : Trace Point) (j : ℕ) (e : Config) → f.back ≡ Some b → Matches f k
        → do_leave (return_target k) (run_op op a.state) ≡ Some e → W j e a.events → Splits f.here k (suc j) (return_node q op b.length live) a
    splits_return f q live op b k a j e i mm y t =
        let x = splits_leave f q live b k a.events (run_op op a.state) j e i mm y t in
        after_act q op (seq (act q (truncate_to b.length)) (leave live returned)) f.here k (suc j) a (trail x.0 a.events) (x.1, refl) x.2

    -- a return after a call that gave its value
    leave_tail : (f : Frame) (q live : ℕ) (b : ReturnFrame) (k : List Item) (a : Trace Point) (count : ℕ) → f.back ≡ Some b → Matches f k
        → W count (config (leave_call ∷ k) f.here a.state) a.events
        → Splits f.here k count (seq (act q (truncate_to b.length)) (leave live returned)) a
    leave_tail f q live b k a count i mm t =
        let v = plain (config (leave_call ∷ k) f.here a.state) a.events count refl t in
        let few = v.2 in
        let x = splits_leave f q live b k a.events (Some a.state) v.0 v.1 i mm v.3 v.4 in
        splits_more f.here k (suc v.0) count (seq (act q (truncate_to b.length)) (leave live returned)) a (omega (arith, few))
        (subst (λ u. Splits f.here k (suc v.0) (seq (act q (truncate_to b.length)) (leave live returned)) (trail u a.events)) (sym (same_Some a.state x.0 x.1))
        x.2)

    land_two : (h : CallContext) (i i' : Item) (k : List Item) → break_target (i ∷ i' ∷ k) ≡ break_target (i' ∷ k) →
        continue_target (i ∷ i' ∷ k) ≡ continue_target (i' ∷ k)
        → return_target (i ∷ i' ∷ k) ≡ return_target (i' ∷ k)
        → break_target (i' ∷ k) ≡ break_target k → continue_target (i' ∷ k) ≡ continue_target k →
        return_target (i' ∷ k) ≡ return_target k
        → (j : Exit) (m : State) → land j h (i ∷ i' ∷ k) m ≡ land j h k m
    land_two h i i' k o a b p d e j m = land_skip j h i (i' ∷ k) m o a b ∙ land_skip j h i' k m p d e

    splits_for : (spot : InlineState) (at : ℕ) (init : BlockItems) (b : Cond) (s step : Stmt) (g h : Node) (n' r q' : ℕ)
        → InlineItems P T (at_point spot (suc spot.next)) init g n' r →
        InlineLoop P T (move spot n' spot.next) r (loop at b s step) h q'
        → (k : List Item) (a : Trace Point) (count : ℕ)
        → Matches spot.frame k → length a.state.store ≡ spot.live → count < fuel
        → W count (config (all init ∷ run (loop at b s step) ∷ end_for spot.live ∷ k) spot.frame.here a.state) a.events →
        Splits spot.frame.here k count (seq g (seq h (act spot.next (truncate_to spot.live)))) a
    splits_for spot at init b s step g h n' r q' d e k a count m l less t =
        splits_seq spot.frame.here k (run (loop at b s step) ∷ end_for spot.live ∷ k) count g (seq h (act spot.next (truncate_to spot.live))) a
        (land_two spot.frame.here (run (loop at b s step)) (end_for spot.live) k refl refl refl refl refl refl)
        (below.every (at_point spot (suc spot.next)) init g n' r d (run (loop at b s step) ∷ end_for spot.live ∷ k) a count
        (matches_skip spot.frame (run (loop at b s step)) (end_for spot.live ∷ k) refl refl refl
        (matches_skip spot.frame (end_for spot.live) k refl refl refl m)) l less t)
        (λ j u i z w. splits_seq spot.frame.here k (end_for spot.live ∷ k) j h (act spot.next (truncate_to spot.live)) u
        (skip_one spot.frame.here (end_for spot.live) k refl refl refl)
        (below.loops (move spot n' spot.next) r (loop at b s step) h q' e (end_for spot.live ∷ k) u j
        (matches_skip spot.frame (end_for spot.live) k refl refl refl m) ((len_all d).ends a u to_end l z)
        (omega arith) w)
        (λ j' u' i' z' w'. cut_tail spot.frame.here spot.live spot.next k u' j' w'))

    -- nothing follows in `main`
    end_tail_of : (f : Frame) (k : List Item) (a : Trace Point) (count : ℕ) (g : Node) → return_target k ≡ None
        → W count (config (leave_call ∷ k) f.here a.state) a.events → Splits f.here k count g a
    end_tail_of f k a count g i t =
        let v = plain (config (leave_call ∷ k) f.here a.state) a.events count refl t in
        absurd (none-some v.1 (subst (λ o. do_leave o (Some a.state) ≡ Some v.1) i v.3))

    on_loop : (spot : InlineState) (r : ℕ) (s : Stmt) (g : Node) (q : ℕ) → InlineLoop P T spot r s g q → (k : List Item) (a : Trace Point) (count : ℕ)
        → Matches spot.frame k → length a.state.store ≡ spot.live →
        count < suc fuel → (IsThere may P T c zs H (run s ∷ k) spot a → H g a)
        → W count (config (run s ∷ k) spot.frame.here a.state) a.events → Splits spot.frame.here k count g a
    on_loop _ _ _ _ _ (is_loop {s = spot} {r = r} {at = at} {c = b} {a = s} {step = step} {g = g} {h = h} {m = r'} {q = q'} i d e) k a count m l less top t =
        splits_loop spot r at b s step g h r' q' i d e k a count m l less top t

    of_loop : (spot : InlineState) (r : ℕ) (s : Stmt) (g : Node) (q : ℕ) → InlineLoop P T spot r s g q → (k : List Item) (a : Trace Point) (count : ℕ)
        → Matches spot.frame k → length a.state.store ≡ spot.live →
        count < suc fuel
        → W count (config (run s ∷ k) spot.frame.here a.state) a.events → Splits spot.frame.here k count g a
    of_loop spot r s g q d k a count m l less t = on_loop spot r s g q d k a count m l less (F.loops spot r s g q d k a l) t

    -- an array's declarator: the point, and its elements
    splits_fill : (spot : InlineState) (at : ℕ) (z : Array) (k : List Item) (a : Trace Point) (count : ℕ) → IsSiteAt T spot at →
        length a.state.store ≡ spot.live
        → W count (config (declare_array at z ∷ k) spot.frame.here a.state) a.events
        → Splits spot.frame.here k count (seq (point spot.next) (act spot.next (fill z))) a
    splits_fill spot at z k a count has l t = splits_point spot at false (declare_array at z) (act spot.next (fill z)) k a count has l refl
        (F.filled spot at z has k a l) t
        (λ j b e j' l' y w. splits_more spot.frame.here k (suc j) count (act spot.next (fill z)) b (omega arith)
        (splits_act spot.next (fill z) spot.frame.here k b j e y w))

    -- a declarator: the point, the new variable, and what it gets
    splits_declare : (spot : InlineState) (d : Declarator) (g : Node) (q' : ℕ) → IsSiteAt T spot d.label →
        InlineDeclarator P T spot (suc spot.next) d.number_type d.rvalue g q' →
        (k : List Item) (a : Trace Point) (count : ℕ)
        → length a.state.store ≡ spot.live → count < suc fuel
        → W count (config (declare d ∷ k) spot.frame.here a.state) a.events → Splits spot.frame.here k count (seq (point spot.next) g) a
    splits_declare spot d g q' i x k a count l less t = splits_point spot d.label false (declare d) g k a count i l refl
        (F.declared spot d g q' i x k a l) t
        (λ j b e j' l' y w. splits_more spot.frame.here k (suc j) count g b (omega arith)
        (by_rvalue spot (suc spot.next) d.number_type d.rvalue g q' x k b j e l' (omega arith) y w))
      where
        by_rvalue : (spot : InlineState) (r : ℕ) (t : NumberType) (o : Option Rvalue) (g : Node) (q' : ℕ) → InlineDeclarator P T spot r t o g q' →
            (k : List Item)
            (a : Trace Point) (j : ℕ) (e : Config) →
            length a.state.store ≡ spot.live → j < fuel
            → do_declare P t o k spot.frame.here a.state ≡ Some e → W j e a.events → Splits spot.frame.here k (suc j) g a
        by_rvalue _ _ _ _ _ _ (as_fresh {s = spot} {t = t}) k a j e l less y w = splits_act spot.next (append t) spot.frame.here k a j e y w
        by_rvalue _ _ _ _ _ _ (as_given {s = spot} {r = r} {t = t} {e = b} {g = g} {q = q'} d) k a j e l less y w =
            let x = go_on_some (run_op (append t) a.state) (do_rvalue P (variable_at (length a.state.store) t) b k spot.frame.here) e y in
            let y' : do_rvalue P (variable_at spot.live t) b k spot.frame.here x.0 ≡ Some e = subst
            (λ v. do_rvalue P (variable_at v t) b k spot.frame.here x.0 ≡ Some e) l x.2 in
            after_act spot.next (append t) g spot.frame.here k (suc j) a (trail x.0 a.events) (x.1, refl)
            (splits_gives (move spot (suc spot.live) spot.next) r (variable_at spot.live t) b g q' k (trail x.0 a.events) j e d
            (length_append t a.state x.0 x.1 ∙ ap suc l) less y' w)

    splits_every : (spot : InlineState) (b : BlockItems) (g : Node) (n q : ℕ) → InlineItems P T spot b g n q → (k : List Item) (a : Trace Point) (count : ℕ)
        → Matches spot.frame k →
        length a.state.store ≡ spot.live
        → count < suc fuel
        → W count (config (all b ∷ k) spot.frame.here a.state) a.events → Splits spot.frame.here k count g a
    splits_every _ _ _ _ _ (as_none {s = spot}) k a count m l less t =
        let x = past (config (all no_more ∷ k) spot.frame.here a.state) (config k spot.frame.here a.state) a.events count refl refl t in
        ended x.0 a (omega arith) refl x.2
    splits_every _ _ _ _ _ (as_declaration {s = spot} {d = d'} {b = b} {g = g} {h = h} {r = r} {n = n'} {q = q'} i d e) k a count m l less t =
        let x = past (config (all (declaration d' b) ∷ k) spot.frame.here a.state) (config (declare d' ∷ all b ∷ k) spot.frame.here a.state) a.events count
        refl refl t in
        let few : x.0 < count = omega arith in
        splits_more spot.frame.here k x.0 count (seq (seq (point spot.next) g) h) a (omega arith)
        (splits_seq spot.frame.here k (all b ∷ k) x.0 (seq (point spot.next) g) h a (skip_one spot.frame.here (all b) k refl refl refl)
        (splits_declare spot d' g r i d (all b ∷ k) a x.0 l (omega arith) x.2)
        (λ j u less' z w. below.every (move spot (suc spot.live) r) b h n' q' e k u j m ((length_declarator (point_at T) may keeps d).ends a u to_end l z)
        (omega arith) w))
    splits_every _ _ _ _ _ (as_array {s = spot} {at = at} {a = z} {b = b} {h = h} {n = n'} {q = q'} i e) k a count m l less t =
        let x = past (config (all (array at z b) ∷ k) spot.frame.here a.state)
        (config (declare_array at z ∷ all b ∷ k) spot.frame.here a.state) a.events count refl refl t in
        let few : x.0 < count = omega arith in
        splits_more spot.frame.here k x.0 count (seq (seq (point spot.next) (act spot.next (fill z))) h) a (omega arith)
        (splits_seq spot.frame.here k (all b ∷ k) x.0 (seq (point spot.next) (act spot.next (fill z))) h a (skip_one spot.frame.here (all b) k refl refl refl)
        (splits_fill spot at z (all b ∷ k) a x.0 i l x.2)
        (λ j u less' y w. below.every (at_point spot (suc spot.next)) b h n' q' e k u j m
        ((length_array (point_at T) may keeps spot.frame spot.live spot.next z).ends a u to_end l y)
        (omega arith) w))
    splits_every _ _ _ _ _ (as_statement {s = spot} {a = s} {b = b} {g = g} {h = h} {r = r} {n = n'} {q = q'} d e) k a count m l less t =
        let x = past (config (all (statement s b) ∷ k) spot.frame.here a.state) (config (run s ∷ all b ∷ k) spot.frame.here a.state) a.events count refl refl
        t in
        let few : x.0 < count = omega arith in
        splits_more spot.frame.here k x.0 count (seq g h) a (omega arith)
        (splits_seq spot.frame.here k (all b ∷ k) x.0 g h a (skip_one spot.frame.here (all b) k refl refl refl)
        (below.one spot s g r d (all b ∷ k) a x.0 (matches_skip spot.frame (all b) k refl refl refl m) tt l (omega arith) x.2)
        (λ j u i z w. below.every (at_point spot r) b h n' q' e k u j m ((len_one d).ends a u to_end l z) (omega arith) w))

    splits_among : (spot : InlineState) (cs : Cases) (arms : Arms) (q : ℕ) → InlineCases P T spot cs arms q → (k : List Item) (a : Trace Point) (count : ℕ)
        → Matches spot.frame k →
        length a.state.store ≡ spot.live → count < suc fuel
        → W count (config (cases_item cs ∷ k) spot.frame.here a.state) a.events → Splits spot.frame.here k count (arms_row arms) a
    splits_among _ _ _ _ (as_no_cases {s = spot}) k a count m l less t =
        let x = past (config (cases_item no_cases ∷ k) spot.frame.here a.state) (config k spot.frame.here a.state) a.events count refl refl t in
        ended x.0 a (omega arith) refl x.2
    splits_among _ _ _ _ (as_labelled {s = spot} {l = n} {cs = cs} {arms = arms} {q = q'} d) k a count m l less t =
        let x = past (config (cases_item (labelled n cs) ∷ k) spot.frame.here a.state)
        (config (cases_item cs ∷ k) spot.frame.here a.state) a.events count refl refl t in
        let few : x.0 < count = omega arith in
        splits_more spot.frame.here k x.0 count (arms_row arms) a (omega arith) (below.among spot cs arms q' d k a x.0 m l (omega arith) x.2)
    splits_among _ _ _ _ (as_stated {s = spot} {a = s} {cs = cs} {g = g} {arms = arms} {r = r} {q = q'} d e) k a count m l less t =
        let x = past (config (cases_item (stated s cs) ∷ k) spot.frame.here a.state)
        (config (run s ∷ cases_item cs ∷ k) spot.frame.here a.state) a.events count refl refl t in
        let few : x.0 < count = omega arith in
        splits_more spot.frame.here k x.0 count (seq g (arms_row arms)) a (omega arith)
        (splits_seq spot.frame.here k (cases_item cs ∷ k) x.0 g (arms_row arms) a (skip_one spot.frame.here (cases_item cs) k refl refl refl)
        (below.one spot s g r d (cases_item cs ∷ k) a x.0 (matches_skip spot.frame (cases_item cs) k refl refl refl m) tt l (omega arith) x.2)
        (λ j u i z w. below.among (at_point spot r) cs arms q' e k u j m ((len_one d).ends a u to_end l z) (omega arith) w))

    -- after a label
    abbrev SplitsCases : InlineState → Cases → Node → Type 0
    SplitsCases spot cs g = (k : List Item) (a : Trace Point) (count : ℕ) → Matches spot.frame k → length a.state.store ≡ spot.live → count < fuel
        → W count (config (cases_item cs ∷ k) spot.frame.here a.state) a.events → Splits spot.frame.here k count g a

    splits_by : (spot : InlineState) (t : Bool) (cs ds : Cases) (g h : Node) → SplitsCases spot cs g → SplitsCases spot ds h
        → SplitsCases spot (cond t cs ds) (cond t g h)
    splits_by spot true cs ds g h x y = x
    splits_by spot false cs ds g h x y = y

    splits_behind : (spot : InlineState) (cs : Cases) (arms : Arms) (q : ℕ) → InlineCases P T spot cs arms q → (l : CaseLabel)
        → SplitsCases spot (cases_after_label l cs) (row_behind l arms)
    splits_behind _ _ _ _ (as_no_cases {s = spot}) l = λ k a count m n less t. below.among spot no_cases no_arms spot.next
        (as_no_cases {s = spot}) k a count m n less t
    splits_behind _ _ _ _ (as_labelled {s = spot} {l = n} {cs = cs} {arms = arms} {q = q'} d) l = splits_by spot (is_same_case l n) cs (cases_after_label l cs)
        (arms_row arms) (row_behind l arms)
        (λ k a count m i less t. below.among spot cs arms q' d k a count m i less t) (splits_behind spot cs arms q' d l)
    splits_behind _ _ _ _ (as_stated {s = spot} {cs = cs} {arms = arms} {r = r} {q = q'} d e) l = splits_behind (at_point spot r) cs arms q' e l

    -- what a `switch` goes on to
    pub record Chosen (k : List Item) (h : CallContext) (cs : Cases) (o : Drawn ℤ) (s : State) (e : Config) : Type 0 where
      pub value : ℤ
      pub left : List ℤ
      pub is : o ≡ Some (value, left)
      pub goes : config (cases_item (chosen value cs) ∷ end_switch (length s.store) ∷ k) h (record s { draws = left }) ≡ e

    do_switch_some : (k : List Item) (h : CallContext) (cs : Cases) (o : Drawn ℤ) (s : State) (e : Config) → do_switch cs k h s o ≡ Some e → Chosen k h cs o s e
    do_switch_some k h cs None s e x = absurd (none-some e x)
    do_switch_some k h cs (Some (z, left)) s e x = record { value = z; left = left; is = refl; goes = same_Some _ e x }

    splits_switch : (spot : InlineState) (v : Expr) (cs : Cases) (arms : Arms) (q : ℕ) → InlineCases P T (among_cases spot (suc spot.next)) cs arms q
        → (k : List Item) (u : Trace Point) (j : ℕ) (e : Config)
        → Matches spot.frame k → length u.state.store ≡ spot.live → j < fuel
        → do_switch cs k spot.frame.here u.state (value_of v (environment_at spot.frame.here.base u.state) u.state.draws) ≡ Some e → W j e u.events
        → Splits spot.frame.here k (suc j) (switch_node spot.next spot.frame.here.base v arms) u
    splits_switch spot v cs arms q d k u j e m n less y w = after inside
      where
        x : Chosen k spot.frame.here cs (value_of v (environment_at spot.frame.here.base u.state) u.state.draws) u.state e
        x = do_switch_some k spot.frame.here cs (value_of v (environment_at spot.frame.here.base u.state) u.state.draws) u.state e y

        l : CaseLabel
        l = goal_of x.value (labels_of cs)

        drawn : Trace Point
        drawn = trail (record u.state { draws = x.left }) u.events

        found : Finds spot.frame.here.base v arms u l drawn
        found = ((x.value, x.is, refl, ap (goal_of x.value) (sym (entries_are d))), refl)

        behind : List Item
        behind = end_switch spot.live ∷ k

        at_end : (i : ℕ) (b : Trace Point) → W i (config behind spot.frame.here b.state) b.events
            → (i' : ℕ) × (i ≡ suc i') × W i' (config k spot.frame.here b.state) b.events
        at_end i b t = past (config behind spot.frame.here b.state) (config k spot.frame.here b.state) b.events i refl refl t

        tree : Node
        tree = switch_node spot.next spot.frame.here.base v arms

        go_in : (o : RunExtent) (b : Trace Point) → G (row_behind l arms) drawn o b → ArmsRunUpTo (point_at T) may l false arms drawn o b
        go_in o b z = behind_of_row (point_at T) may l arms drawn o b z

        after : Splits spot.frame.here behind j (row_behind l arms) drawn → Splits spot.frame.here k (suc j) tree u
        after (hits h) = hits
            (F.closed.caught spot.next broken (select spot.next spot.frame.here.base v arms) u
            (F.closed.selected spot.next spot.frame.here.base v arms l u drawn found h))
        after (ended i b few t r) = let z = at_end i b r in let one = z.1 in ended z.0 b (omega arith) (inl (l, drawn, found, go_in to_end b t)) z.2
        after (jumped i broken b c' few t lands r) = ended i b (omega arith) (inr (l, drawn, found, go_in (stopped (by_jump broken)) b t))
            (rw (same_Some (config k spot.frame.here b.state) c' lands) r)
        after (jumped i continued b c' few t lands r) = jumped i continued b c' (omega arith)
            ((λ z. broken_continued (sym z)), (l, drawn, found, go_in (stopped (by_jump continued)) b t)) lands r
        after (jumped i returned b c' few t lands r) = jumped i returned b c' (omega arith)
            (returned_broken, (l, drawn, found, go_in (stopped (by_jump returned)) b t)) lands r

        inside : Splits spot.frame.here behind j (row_behind l arms) drawn
        inside = splits_behind (among_cases spot (suc spot.next)) cs arms q d l behind drawn j
            (record { breaks = λ w z. z; continues = m.continues; backs = m.backs }) n less
            (subst (λ o. W j (config (cases_item (chosen x.value cs) ∷ end_switch o ∷ k) spot.frame.here (record u.state { draws = x.left })) u.events) n
            (rw x.goes w))

    -- a statement at its point, by what its step makes
    at_its_point : (spot : InlineState) (at : ℕ) (s : Stmt) (g : Node) (k : List Item) (a : Trace Point) (count : ℕ) → count < suc fuel → IsSiteAt T spot at
        → length a.state.store ≡ spot.live →
        label_on (run s ∷ k) ≡ Some at
        → (IsThere may P T c zs H (run s ∷ k) spot a → H (seq (point spot.next) g) a) → W count
        (config (run s ∷ k) spot.frame.here a.state) a.events
        → ((j : ℕ) (b : Trace Point) (e : Config) → j < fuel → length b.state.store ≡ spot.live → next_at P (run s ∷ k) spot.frame.here b.state ≡ Some e
        → W j e b.events → Splits spot.frame.here k
        (suc j) g b)
        → Splits spot.frame.here k count (seq (point spot.next) g) a
    at_its_point spot at s g k a count less has l lab top t inner = splits_point spot at false (run s) g k a count has l lab top t
        (λ j b e j' l' y w. splits_more spot.frame.here k (suc j) count g b (omega arith) (inner j b e (omega arith) l' y w))

    on_top : (spot : InlineState) (s : Stmt) (g : Node) (q : ℕ) → InlineStmt P T spot s g q → (k : List Item) (a : Trace Point) (count : ℕ) →
        Matches spot.frame k
        → IsBare k → length a.state.store ≡ spot.live →
        count < suc fuel → (IsThere may P T c zs H (run s ∷ k) spot a → H g a)
        → W count (config (run s ∷ k) spot.frame.here a.state) a.events → Splits spot.frame.here k count g a
    on_top _ _ _ _ (as_nothing {s = spot} {at = at} i) k a zero m bare l less top t = hits (top t)
    on_top _ _ _ _ (as_nothing {s = spot} {at = at} i) k a (suc j) m bare l less top t =
        let x = enters (run (nothing at) ∷ k) spot at false j a i l refl t in
        ended j x.past (omega arith) x.passed (rw (same_Some (config k spot.frame.here x.past.state) x.goal x.step) x.rest)
    on_top _ _ _ _ (as_block {s = spot} {body = body} {end = end} {g = g} {n = n'} {q = q'} d i) k a count m bare l less top t =
        let x = past (config (run (block body end) ∷ k) spot.frame.here a.state) (config (all body ∷ end_of end (length a.state.store) ∷ k) spot.frame.here
        a.state) a.events count refl refl t in
        let t' = subst (λ w. W x.0 (config (all body ∷ end_of end w ∷ k) spot.frame.here a.state) a.events) l x.2 in
        let few : x.0 < count = omega arith in
        splits_more spot.frame.here k x.0 count (seq g (seq (point q') (act q' (truncate_to spot.live)))) a (omega arith)
        (splits_seq spot.frame.here k (end_of end spot.live ∷ k) x.0 g (seq (point q') (act q' (truncate_to spot.live))) a
        (skip_one spot.frame.here (end_of end spot.live) k refl refl refl)
        (below.every spot body g n' q' d (end_of end spot.live ∷ k) a x.0 (matches_skip spot.frame (end_of end spot.live) k refl refl refl m) l
        (omega arith) t')
        (λ j u less' z w. end_tail (move spot n' q') spot.live end k u j bare i ((len_all d).ends a u to_end l z) w))
    on_top _ _ _ _ (as_absent {s = spot}) k a count m bare l less top t =
        let x = past (config (run absent ∷ k) spot.frame.here a.state) (config k spot.frame.here a.state) a.events count refl refl t in
        ended x.0 a (omega arith) refl x.2
    on_top _ _ _ _ (as_assign {s = spot} {at = at} {x = x} {e = v} {g = g} {q = q'} i d) k a count m bare l less top t =
        at_its_point spot at (assign at x v) g k a
        count less i l refl top t
        (λ j b e less' l' y w. splits_gives spot (suc spot.next) (variable_at (index_of spot.frame.here.base x.slot) x.number_type) v g q' k b j e d l' less' y
        w)
    on_top _ _ _ _ (as_write {s = spot} {at = at} {x = x} {e = v} i) k a count m bare l less top t =
        at_its_point spot at (write at x (value v)) (act spot.next (store_element spot.frame.here.base x v)) k a count less i l refl
        top t
        (λ j u e less' l' y w. splits_act spot.next (store_element spot.frame.here.base x v) spot.frame.here k u j e y w)
    on_top _ _ _ _ (as_write_call {s = spot} {at = at} {x = x} {c = b} {g = g} {q = q'} i d) k a count m bare l less top t =
        at_its_point spot at (write at x (result b)) g k a count less i l refl top t
        (λ j u e less' l' y w. splits_calls spot (suc spot.next) (waiting_in x.array) (push_for spot.frame.here.base x) b g q' k u j e d
        (λ es s t o. length_push_for spot.frame.here.base x es s t o) l' less' y w)
    on_top _ _ _ _ (as_call {s = spot} {at = at} {c = b} {g = g} {q = q'} i d) k a count m bare l less top t =
        at_its_point spot at (call at b) g k a count less i l
        refl top t
        (λ j u e less' l' y w. splits_gives spot (suc spot.next) nobody (result b) g q' k u j e d l' less' y w)
    on_top _ _ _ _ (as_if {s = spot} {at = at} {c = b} {a = s} {b = s'} {g = g} {h = h} {r = r} {q = q'} i d d') k a count m bare l less top t =
        at_its_point spot at (if at b s s') (choose spot.next spot.frame.here.base b g h) k a count less i l refl
        top t
        (λ j u e less' l' y w. elim (go_by_some (run s ∷ k) (run s' ∷ k) spot.frame.here u.state
        (truth_of b (environment_at spot.frame.here.base u.state) u.state.draws) e y) as
        (λ z. Splits spot.frame.here k (suc j) (choose spot.next spot.frame.here.base b g h) u) [
          | inl z ↦ splits_more spot.frame.here k j (suc j) (choose spot.next spot.frame.here.base b g h) u (omega arith)
              (choose_on spot.next spot.frame.here.base b g h spot.frame.here k j u (trail z.0 u.events) (z.1, refl)
              (below.one (at_point spot (suc spot.next)) s g r d k (trail z.0 u.events) j m bare (length_test spot.frame.here.base b true u.state z.0 z.1 ∙ l')
              less' (rw z.2 w)))
          | inr z ↦ splits_more spot.frame.here k j (suc j) (choose spot.next spot.frame.here.base b g h) u (omega arith)
              (choose_off spot.next spot.frame.here.base b g h spot.frame.here k j u (trail z.0 u.events) (z.1, refl)
              (below.one (at_point spot r) s' h q' d' k (trail z.0 u.events) j m bare (length_test spot.frame.here.base b false u.state z.0 z.1 ∙ l') less'
              (rw z.2 w)))
        ])
    on_top _ _ _ _ (as_loop {s = spot} {a = s} {g = g} {q = q'} d) k a count m bare l less top t = of_loop spot (suc spot.next) s g q' d k a count m l less t
    on_top _ _ _ _ (as_for {s = spot} {at = at} {init = init} {c = b} {a = s} {step = step} {g = g} {h = h} {n = n'} {r = r} {q = q'} d e) k a count m
        bare l less top t =
        let x = past (config (run (for at init b s step) ∷ k) spot.frame.here a.state)
        (config (all init ∷ run (loop at b s step) ∷ end_for (length a.state.store) ∷ k) spot.frame.here a.state) a.events
        count refl refl t in
        splits_more spot.frame.here k x.0 count (seq g (seq h (act spot.next (truncate_to spot.live)))) a (omega arith)
        (splits_for spot at init b s step g h n' r q' d e k a x.0 m l (omega arith)
        (subst (λ w. W x.0 (config (all init ∷ run (loop at b s step) ∷ end_for w ∷ k) spot.frame.here a.state) a.events) l x.2))
    on_top _ _ _ _ (as_break {s = spot} {at = at} {m = b} i i' has) k a count m bare l less top t =
        at_its_point spot at (break at) (seq (act spot.next (truncate_to b)) (leave spot.live broken)) k a count less has l refl
        top t
        (λ j u e less' l' y w. splits_break spot.frame spot.next b spot.live k u j e i m y w)
    on_top _ _ _ _ (as_continue {s = spot} {at = at} {m = b} i i' has) k a count m bare l less top t =
        at_its_point spot at (continue at) (seq (act spot.next (truncate_to b)) (leave spot.live continued)) k a count less has l refl
        top t
        (λ j u e less' l' y w. splits_continue spot.frame spot.next b spot.live k u j e i m y w)
    on_top _ _ _ _ (as_return {s = spot} {at = at} {b = b} i i' has) k a count m bare l less top t =
        at_its_point spot at (return at None) (return_node spot.next (havoc b.receiver) b.length spot.live) k a count less has l refl
        top t
        (λ j u e less' l' y w.
        let y' : do_leave (return_target k) (run_any b.receiver u.state) ≡ Some e = subst (λ v. do_leave (return_target k) (run_any v u.state) ≡ Some e)
        (receiver_is P spot.frame k b i m) y in
        splits_return spot.frame spot.next spot.live (havoc b.receiver) b k u j e i m y' w)
    on_top _ _ _ _ (as_return_value {s = spot} {at = at} {e = v} {b = b} i i' has) k a count m bare l less top t =
        at_its_point spot at (return at (Some (value v))) (return_node spot.next (store_value spot.frame.here.base b.receiver v) b.length spot.live) k a count
        less
        has l refl top t
        (λ j u e less' l' y w.
        let y' : do_leave (return_target k) (run_op (store_value spot.frame.here.base b.receiver v) u.state) ≡ Some e =
        subst (λ x. do_leave (return_target k) (run_op (store_value spot.frame.here.base x v) u.state) ≡ Some e) (receiver_is P spot.frame k b i m) y in
        splits_return spot.frame spot.next spot.live (store_value spot.frame.here.base b.receiver v) b k u j e i m y' w)
    on_top _ _ _ _ (as_return_call {s = spot} {at = at} {c = v} {b = b} {g = g} {q = q'} i i' has d) k a count m bare l less top t =
        at_its_point spot at (return at (Some (result v))) (seq g (seq (act spot.next (truncate_to b.length)) (leave spot.live returned))) k a count less has l
        refl
        top t
        (λ j u e less' l' y w.
        let y' : do_rvalue P b.receiver (result v) (leave_call ∷ k) spot.frame.here u.state ≡ Some e =
        subst (λ x. do_rvalue P x (result v) (leave_call ∷ k) spot.frame.here u.state ≡ Some e) (receiver_is P spot.frame k b i m) y in
        splits_seq spot.frame.here k (leave_call ∷ k) (suc j) g (seq (act spot.next (truncate_to b.length)) (leave spot.live returned)) u
        (skip_one spot.frame.here leave_call k refl refl refl)
        (splits_gives spot (suc spot.next) b.receiver (result v) g q' (leave_call ∷ k) u j e d l' less' y' w)
        (λ j'' u' z f b'. leave_tail spot.frame spot.next spot.live b k u' j'' i m b'))
    on_top _ _ _ _ (as_end {s = spot} {at = at} i has) k a count m bare l less top t =
        at_its_point spot at (return at None) (leave spot.live returned) k a count
        less has l refl top t
        (λ j u e less' l' y w. absurd (none-some e (subst (λ o. do_leave o (run_any (receiver_of P o) u.state) ≡ Some e) (no_mark spot.frame k i m) y)))
    on_top _ _ _ _ (as_end_value {s = spot} {at = at} {e = v} i has) k a count m bare l less top t =
        at_its_point spot at (return at (Some (value v)))
        (seq (act spot.next (store_value spot.frame.here.base (main_receiver P) v)) (leave spot.live returned)) k a
        count less has l refl top t
        (λ j u e less' l' y w. absurd (none-some e (subst (λ o. do_leave o (run_op (store_value spot.frame.here.base (receiver_of P o) v) u.state) ≡ Some e)
        (no_mark spot.frame k i m) y)))
    on_top _ _ _ _ (as_end_call {s = spot} {at = at} {c = v} {g = g} {q = q'} i has d) k a count m bare l less top t =
        at_its_point spot at (return at (Some (result v))) (seq g (leave spot.live returned)) k a count less has l refl
        top t
        (λ j u e less' l' y w.
        let y' : do_rvalue P (main_receiver P) (result v) (leave_call ∷ k) spot.frame.here u.state ≡ Some e =
        subst (λ o. do_rvalue P (receiver_of P o) (result v) (leave_call ∷ k) spot.frame.here u.state ≡ Some e) (no_mark spot.frame k i m) y in
        splits_seq spot.frame.here k (leave_call ∷ k) (suc j) g (leave spot.live returned) u (skip_one spot.frame.here leave_call k refl refl refl)
        (splits_gives spot (suc spot.next) (main_receiver P) (result v) g q' (leave_call ∷ k) u j e d l' less' y' w)
        (λ j'' u' z f b'. end_tail_of spot.frame k u' j'' (leave spot.live returned) (no_mark spot.frame k i m) b'))
    on_top _ _ _ _ (as_assert {s = spot} {at = at} {c = b} i) k a count m bare l less top t =
        splits_point spot at true (run (assert at b)) (check spot.next spot.frame.here.base b) k a count i l refl
        top t
        (λ j u e j' l' y w. let x = go_some k spot.frame.here (run_op (test spot.frame.here.base b true) u.state) e y in
        ended j (trail x.0 u.events) (omega arith) (x.1, refl) (rw x.2 w))
    on_top _ _ _ _ (as_assume {s = spot} {at = at} {c = b} i) k a count m bare l less top t =
        at_its_point spot at (assume at b) (act spot.next (test spot.frame.here.base b true)) k a count less i l refl
        top t
        (λ j u e less' l' y w. splits_act spot.next (test spot.frame.here.base b true) spot.frame.here k u j e y w)
    on_top _ _ _ _ (as_switch {s = spot} {at = at} {e = v} {cs = cs} {arms = arms} {q = q'} i d) k a count m bare l less top t =
        at_its_point spot at (switch at v cs) (switch_node spot.next spot.frame.here.base v arms) k a count less i l refl
        top t
        (λ j u e less' l' y w. splits_switch spot v cs arms q' d k u j e m l' less' y w)

    splits_one : (spot : InlineState) (s : Stmt) (g : Node) (q : ℕ) → InlineStmt P T spot s g q → (k : List Item) (a : Trace Point) (count : ℕ) →
        Matches spot.frame k
        → IsBare k → length a.state.store ≡ spot.live → count < suc fuel
        → W count (config (run s ∷ k) spot.frame.here a.state) a.events → Splits spot.frame.here k count g a
    splits_one spot s g q d k a count m bare l less t = on_top spot s g q d k a count m bare l less (F.one spot s g q d k a m l) t

  nothing_below : Below zero
  nothing_below = record {
    one = λ spot s g q d k a count m bare l less t. absurd (omega arith);
    every = λ spot s g n q d k a count m l less t. absurd (omega arith);
    among = λ spot cs arms q d k a count m l less t. absurd (omega arith);
    loops = λ spot r s g q d k a count m l less t. absurd (omega arith);
  }

  pub all_below : (fuel : ℕ) → Below fuel
  all_below zero = nothing_below
  all_below (suc fuel) = record {
    one = splits_one fuel (all_below fuel);
    every = splits_every fuel (all_below fuel);
    among = splits_among fuel
        (all_below fuel);
    loops = of_loop fuel (all_below fuel);
  }
