-- What the tree reaches, a run reaches, on the same trace.
use Rattle.std.proofs.Common.{◌≡◌, ◌≢◌, ℕ, zero, suc, ◌+◌, ◌≤◌, List, ◌∷◌, length, Option, Some, None, Bool, true, false, inl, inr, refl, sym, ap, ◌∙◌, subst, slice_get}
use Rattle.std.proofs.lemmas.Option.{same_Some, none-some}
use Rattle.std.specs.Prelude.{cond}
use Rattle.lra_inline_sound.specs.Crates.lra_program.Program.{Expr, Cond, Call, Rvalue, value, result, Declarator, Stmt, absent, nothing, block, assign, write, call, if, loop, for, break, continue}
use Rattle.lra_inline_sound.specs.Crates.lra_program.Program.{return, assert, assume, switch, Cases, no_cases, labelled, stated, labels_of, BlockItems, no_more, declaration, array, statement}
use Rattle.lra_inline_sound.specs.Crates.lra_program.Program.{Function, Program}
use Rattle.lra_inline_sound.specs.Crates.lra_program.Step.{State, Op, append, fill, store_value, store_element, havoc, truncate_to, test, run_op, run_any, tested, CallContext, ReturnFrame, Item, run}
use Rattle.lra_inline_sound.specs.Crates.lra_program.Step.{declare, declare_array, all, end_of, next_round, end_for, return_frame, leave_call, Config, BreakTarget, ContinueTarget, environment_at}
use Rattle.lra_inline_sound.specs.Crates.lra_program.Step.{break_target, continue_target, ReturnTarget, return_target, main_receiver, receiver_of, go, go_by, go_on, enter_by, do_rvalue, do_write}
use Rattle.lra_inline_sound.specs.Crates.lra_program.Step.{do_leave, do_break, cases, end_switch, cases_after_label, do_continue, do_stmt, do_declare, next, next_at}
use Rattle.lra_inline_sound.specs.Crates.lra_program.Traces.{TraceEvent, visit, Trace, with_visit, Becomes, TracedSteps}
use Rattle.lra_inline_sound.specs.Crates.lra_program.Value.{Drawn, index_of, Argument, truth_of}
use Rattle.lra_inline_sound.specs.Crates.{lra_base.CaseLabels.is_same_case, lra_base.declared.case_labels.CaseLabel.CaseLabel, lra_program.Receivers.variable_at, lra_program.Receivers.nobody}
use Rattle.lra_inline_sound.specs.Crates.{lra_program.Run.label_on, lra_program.Run.Point, lra_program.Run.IsFailing, lra_program.Sites.Site, lra_program.declared.receivers.Receiver.Receiver}
use Rattle.lra_inline_sound.proofs.Crates.lra_program.TraceLaws.{walk_on}
use Rattle.lra_operations.specs.Inlined.{Frame, InlineState, spot_of, move, IsSiteAt, IsSiteWith, callee, InlineStmt, InlineItems, InlineDeclarator, InlineLoop, InlineRvalue, InlineCall, as_nothing}
use Rattle.lra_operations.specs.Inlined.{as_block, as_absent, as_assign, as_write, as_write_call, as_call, as_if, as_loop, as_for, as_break, as_continue, as_return, as_return_value, as_return_call}
use Rattle.lra_operations.specs.Inlined.{as_end, as_end_value, as_end_call, as_assert, as_assume, as_switch, as_no_cases, as_labelled, as_stated, InlineCases, switch_node, as_none, as_declaration}
use Rattle.lra_operations.specs.Inlined.{as_array, as_statement, as_fresh, as_given, is_loop, as_value, as_result, is_call, loop_node, callee_node, return_node}
use Rattle.lra_operations.specs.Traces.{Stop, by_jump, to_point, to_failure, RunExtent, to_end, stopped, RunsUpTo, ArmsRunUpTo, Finds, VisitsAndTests, TrailRounds, Performs, VisitsPoint}
use Rattle.lra_operations.specs.TracesAgree.{KeepsWidth, point_at, point_or_none}
use Rattle.lra_operations.specs.Tree.{Exit, broken, continued, returned, Node, empty, point, act, check, seq, choose, leave, Arms, entries_of}
use Rattle.lra_operations.proofs.ArmRows.{arms_row, row_behind, row_of_behind}
use Rattle.lra_inline_sound.proofs.Landing.{config, land, land_skip, Matches, matches_skip, mark_none, outside_length, turn_length, back_of, land_broken, land_continued, land_returned}
use Rattle.lra_inline_sound.proofs.Lengths.{Adds, AddsEach, adds_given, LengthAt, Length, length_one, length_all, length_declarator, length_array, length_loop, length_test, length_push}
use Rattle.lra_inline_sound.proofs.Lengths.{length_push_for, length_append, grows_all, tests_length, in_loop, mid_length, rounds_length}
use Rattle.lra_inline_sound.proofs.Selecting.{entries_are}
use Rattle.lra_inline_sound.proofs.Shapes.{inner, given, width, seq_inv, act_inv, leave_inv, point_seq, act_seq, jump_inv, EndsBody, GoesCall, call_returned, call_ended, call_stopped, call_at_end}
use Rattle.lra_inline_sound.proofs.Shapes.{call_inv, Round, EndsBodyRound, LeavesRound, EndsLoop, loop_done, loop_at, loop_broken, loop_left, loop_inv}

go_is : (k : List Item) (h : CallContext) (o : Option State) (t : State) → o ≡ Some t → go k h o ≡ Some (config k h t)
go_is k h o t e = rw e refl

go_on_is : (o : Option State) (f : State → Option Config) (t : State) → o ≡ Some t → go_on o f ≡ f t
go_on_is o f t e = rw e refl

go_by_true : (a b : List Item) (h : CallContext) (s : State) (v : Drawn Bool) (t : State) → tested true s v ≡ Some t → go_by a b h s v ≡ Some (config a h t)
go_by_true a b h s None t e = absurd (none-some t e)
go_by_true a b h s (Some (true, ds)) t e = ap (λ (u : State). Some (config a h u)) (same_Some _ t e)
go_by_true a b h s (Some (false, ds)) t e = absurd (none-some t e)

go_by_false : (a b : List Item) (h : CallContext) (s : State) (v : Drawn Bool) (t : State) → tested false s v ≡ Some t → go_by a b h s v ≡ Some (config b h t)
go_by_false a b h s None t e = absurd (none-some t e)
go_by_false a b h s (Some (true, ds)) t e = absurd (none-some t e)
go_by_false a b h s (Some (false, ds)) t e = ap (λ (u : State). Some (config b h u)) (same_Some _ t e)

break_step : (o : Option BreakTarget) (m : ℕ) (h : CallContext) (s t : State) (e : Config) → outside_length o ≡ Some m → run_op (truncate_to m) s ≡ Some t
    → land_broken o h t ≡ Some e → do_break o h s ≡ Some e
break_step None m h s t e a b d = absurd (none-some e d)
break_step (Some r) m h s t e a b d =
    go_is r.rest h (run_op (truncate_to r.length) s) t (subst (λ w. run_op (truncate_to w) s ≡ Some t) (sym (same_Some r.length m a)) b) ∙ d

continue_step : (o : Option ContinueTarget) (m : ℕ) (h : CallContext) (s t : State) (e : Config) → turn_length o ≡ Some m → run_op (truncate_to m) s ≡ Some t → land_continued o h t ≡ Some e →
    do_continue o h s ≡ Some e
continue_step None m h s t e a b d = absurd (none-some e d)
continue_step (Some r) m h s t e a b d =
    go_is (next_round r.step r.again r.length ∷ r.rest) h (run_op (truncate_to r.length) s) t (subst (λ w. run_op (truncate_to w) s ≡ Some t) (sym (same_Some r.length m a)) b) ∙ d

leave_step : (o : Option ReturnTarget) (b : ReturnFrame) (v : Option State) (u t : State) (e : Config) → back_of o ≡ Some b → v ≡ Some u → run_op (truncate_to b.length) u ≡ Some t →
    land_returned o t ≡ Some e
    → do_leave o v ≡ Some e
leave_step None b v u t e a i o d = absurd (none-some e d)
leave_step (Some r) b v u t e a i o d =
    rw i (go_is r.rest r.back.here (run_op (truncate_to r.back.length) u) t (subst (λ (w : ReturnFrame). run_op (truncate_to w.length) u ≡ Some t) (sym (same_Some r.back b a)) o) ∙ d)

receiver_back : (P : Program) (o : Option ReturnTarget) (b : ReturnFrame) → back_of o ≡ Some b → receiver_of P o ≡ b.receiver
receiver_back P None b e = absurd (none-some b e)
receiver_back P (Some r) b e = ap (λ (w : ReturnFrame). w.receiver) (same_Some r.back b e)

no_landing : (o : Option ReturnTarget) (t : State) (e : Config) → o ≡ None → land_returned o t ≡ Some e → ⊥
no_landing o t e i z = none-some e (subst (λ w. land_returned w t ≡ Some e) i z)

module _ (may : State → State → Type 0) (keeps : KeepsWidth may) (P : Program) (T : List Site) where
  abbrev G : Node → Trace Point → RunExtent → Trace Point → Type 0
  G = RunsUpTo (point_at T) may

  abbrev pub RunsTo : Config → List (TraceEvent Point) → Config → List (TraceEvent Point) → Type 0
  RunsTo c xs d ys = (n : ℕ) × TracedSteps may P n c xs d ys

  join : (c d e : Config) (xs ys zs : List (TraceEvent Point)) → RunsTo c xs d ys → RunsTo d ys e zs → RunsTo c xs e zs
  join c d e xs ys zs x y = walk_on may P x.0 y.0 c d e xs ys zs x.1 y.1

  met_same : (c d : Config) (xs ys zs : List (TraceEvent Point)) → zs ≡ ys → RunsTo c xs d ys → RunsTo c xs d zs
  met_same c d xs ys zs e x = rw e x

  -- a step from an item without a point, and from one with a point
  step_plain : (c d : Config) (xs : List (TraceEvent Point)) → label_on c.items ≡ None → next P c ≡ Some d → RunsTo c xs d xs
  step_plain c d xs lab x = (1, (c.state, d, subst (λ o. Becomes may o c.state c.state) (sym lab) refl, x, (refl, ap (λ o. with_visit o c.here.path c.state xs) lab)))

  step_at : (is : List Item) (spot : InlineState) (at : ℕ) (asserts : Bool) (a b : Trace Point) (d : Config) → IsSiteWith T spot at asserts → label_on is ≡ Some at →
      VisitsPoint (point_at T) may spot.next a b
      → next_at P is spot.frame.here b.state ≡ Some d → RunsTo (config is spot.frame.here a.state) a.events d b.events
  step_at is spot at asserts a b d has lab (m, e) x = (1, (b.state, d, subst (λ o. Becomes may o a.state b.state) (sym lab) m, x, (refl, met ∙ sym e)))
    where
      met : with_visit (label_on is) spot.frame.here.path a.state a.events ≡ visit (point_at T spot.next) a.state ∷ a.events
      met = ap (λ o. with_visit o spot.frame.here.path a.state a.events) lab ∙ ap (λ r. visit r a.state ∷ a.events) (sym (ap point_or_none has))

  -- a run from c stands at the point of this number, on the trace
  pub record Stands (c : Config) (xs : List (TraceEvent Point)) (q : ℕ) (b : Trace Point) : Type 0 where
    pub there : Config
    pub label : ℕ
    pub asserts : Bool
    pub runs : (n : ℕ) × TracedSteps may P n c xs there b.events
    pub on : label_on there.items ≡ Some label
    pub site : slice_get T q ≡ Some (record { path = there.here.path; label = label; live = length there.state.store; asserts = asserts })
    pub state : there.state ≡ b.state

  -- it fails the assertion there
  pub record Denied (c : Config) (xs : List (TraceEvent Point)) (q : ℕ) (b : Trace Point) : Type 0 where
    pub there : Config
    pub label : ℕ
    pub asserts : Bool
    pub before : List (TraceEvent Point)
    pub runs : (n : ℕ) × TracedSteps may P n c xs there before
    pub on : label_on there.items ≡ Some label
    pub site : slice_get T q ≡ Some (record { path = there.here.path; label = label; live = length there.state.store; asserts = asserts })
    pub becomes : may there.state b.state
    pub fails : IsFailing there.items there.here b.state
    pub met : b.events ≡ visit (record { path = there.here.path; label = label }) there.state ∷ before

  -- what a run from c must guarantee for an outcome of a tree whose items stand above k
  abbrev pub Fulfils : CallContext → List Item → RunExtent → Trace Point → Config → List (TraceEvent Point) → Type 0
  Fulfils h k to_end b c xs = RunsTo c xs (config k h b.state) b.events
  Fulfils h k (stopped (by_jump j)) b c xs = (e : Config) → land j h k b.state ≡ Some e → RunsTo c xs e b.events
  Fulfils h k (stopped (to_point q)) b c xs = Stands c xs q b
  Fulfils h k (stopped (to_failure q)) b c xs = Denied c xs q b

  pub later : (h : CallContext) (k : List Item) (u : RunExtent) (b : Trace Point) (c d : Config) (xs ys : List (TraceEvent Point)) → RunsTo c xs d ys → Fulfils h k u b d ys → Fulfils h k u b c xs
  later h k to_end b c d xs ys x y = join c d (config k h b.state) xs ys b.events x y
  later h k (stopped (by_jump j)) b c d xs ys x y = λ e l. join c d e xs ys b.events x (y e l)
  later h k (stopped (to_point q)) b c d xs ys x y =
      record {
        there = y.there;
        label = y.label;
        asserts = y.asserts;
        runs = join c d y.there xs ys b.events x y.runs;
        on = y.on;
        site = y.site;
        state =
            y.state;
      }
  later h k (stopped (to_failure q)) b c d xs ys x y =
      record {
        there = y.there;
        label = y.label;
        asserts = y.asserts;
        before = y.before;
        runs = join c d y.there xs ys y.before x y.runs;
        on = y.on;
        site = y.site;
        becomes = y.becomes;
        fails = y.fails;
        met = y.met;
      }

  -- a stop above more items is one above fewer
  lower : (h : CallContext) (i : Item) (k : List Item) (z : Stop) (b : Trace Point) (c : Config) (xs : List (TraceEvent Point)) →
      break_target (i ∷ k) ≡ break_target k
      → continue_target (i ∷ k) ≡ continue_target k → return_target (i ∷ k) ≡ return_target k
      → Fulfils h (i ∷ k) (stopped z) b c xs → Fulfils h k (stopped z) b c xs
  lower h i k (by_jump j) b c xs so sa sb x = λ e l. x e (land_skip j h i k b.state so sa sb ∙ l)
  lower h i k (to_point q) b c xs so sa sb x = x
  lower h i k (to_failure q) b c xs so sa sb x = x

  -- one that isn't a jump is one anywhere
  across : (h h' : CallContext) (k k' : List Item) (z : Stop) (b : Trace Point) (c : Config) (xs : List (TraceEvent Point)) → ((j : Exit) → z ≢ by_jump j) → Fulfils h k (stopped z) b c xs →
      Fulfils h' k' (stopped z) b c xs
  across h h' k k' (by_jump j) b c xs n x = absurd (n j refl)
  across h h' k k' (to_point q) b c xs n x = x
  across h h' k k' (to_failure q) b c xs n x = x

  -- the same, a step before: the state on top is what the point has left
  abbrev pub Pends : CallContext → List Item → List Item → RunExtent → Trace Point → Trace Point → Type 0
  Pends h is k to_end a b = (e : Config) × (next_at P is h a.state ≡ Some e) × RunsTo e a.events (config k h b.state) b.events
  Pends h is k (stopped (by_jump j)) a b = (d : Config) → land j h k b.state ≡ Some d → (e : Config) × (next_at P is h a.state ≡ Some e) × RunsTo e a.events d b.events
  Pends h is k (stopped (to_point q)) a b = (e : Config) × (next_at P is h a.state ≡ Some e) × Stands e a.events q b
  Pends h is k (stopped (to_failure q)) a b = (e : Config) × (next_at P is h a.state ≡ Some e) × Denied e a.events q b

  pends : (h : CallContext) (is k : List Item) (u : RunExtent) (a b : Trace Point) (e : Config) → next_at P is h a.state ≡ Some e → Fulfils h k u b e a.events → Pends h is k u a b
  pends h is k to_end a b e x y = (e, x, y)
  pends h is k (stopped (by_jump j)) a b e x y = λ d l. (e, x, y d l)
  pends h is k (stopped (to_point q)) a b e x y = (e, x, y)
  pends h is k (stopped (to_failure q)) a b e x y = (e, x, y)

  -- with n variables, a run of the item does what the tree does, whatever waits below
  pub record Does (f : Frame) (n : ℕ) (i : Item) (g : Node) : Type 0 where
    pub runs : (k : List Item) (a : Trace Point) (u : RunExtent) (b : Trace Point) → Matches f k → length a.state.store ≡ n → G g a u b → Fulfils f.here k u b (config (i ∷ k) f.here a.state) a.events

  -- the same of its step
  pub record Follows (f : Frame) (n : ℕ) (i : Item) (g : Node) : Type 0 where
    pub runs : (k : List Item) (a : Trace Point) (u : RunExtent) (b : Trace Point) → Matches f k → length a.state.store ≡ n → G g a u b → Pends f.here (i ∷ k) k u a b

  -- and of a step, from any state and above any items
  pub record StepDoes (f : Frame) (n : ℕ) (step : List Item → State → Option Config) (g : Node) : Type 0 where
    pub runs : (k : List Item) (a : Trace Point) (u : RunExtent) (b : Trace Point) → length a.state.store ≡ n → G g a u b
        → (e : Config) × (step k a.state ≡ Some e) × Fulfils f.here k u b e a.events

  -- as what a variable gets, and a call whose arguments an operation gives
  abbrev pub GivesDoes : Frame → ℕ → Receiver → Rvalue → Node → Type 0
  GivesDoes f n x v g = StepDoes f n (λ k s. do_rvalue P x v k f.here s) g

  abbrev pub CallDoes : Frame → ℕ → Receiver → (List Argument → Op) → Call → Node → Type 0
  CallDoes f n x gives c g = StepDoes f n (λ k s. enter_by gives (slice_get P.functions c.function) c x k f.here s) g

  -- an item without a point does what its step does
  does_plain : (f : Frame) (n : ℕ) (i : Item) (g : Node) → ((k : List Item) → label_on (i ∷ k) ≡ None) → Follows f n i g → Does f n i g
  does_plain f n i g lab x = record { runs = λ k a u b m l y. by k u a b (x.runs k a u b m l y) }
    where
      by : (k : List Item) (u : RunExtent) (a b : Trace Point) → Pends f.here (i ∷ k) k u a b → Fulfils f.here k u b (config (i ∷ k) f.here a.state) a.events
      by k to_end a b (e, x, y) = later f.here k to_end b (config (i ∷ k) f.here a.state) e a.events a.events (step_plain (config (i ∷ k) f.here a.state) e a.events (lab k) x) y
      by k (stopped (by_jump j)) a b z = λ d l. let (e, x, y) = z d l in
          join (config (i ∷ k) f.here a.state) e d a.events a.events b.events (step_plain (config (i ∷ k) f.here a.state) e a.events (lab k) x) y
      by k (stopped (to_point q)) a b (e, x, y) =
          later f.here k (stopped (to_point q)) b (config (i ∷ k) f.here a.state) e a.events a.events (step_plain (config (i ∷ k) f.here a.state) e a.events (lab k) x) y
      by k (stopped (to_failure q)) a b (e, x, y) = later f.here k (stopped (to_failure q)) b (config (i ∷ k) f.here a.state) e a.events a.events
          (step_plain (config (i ∷ k) f.here a.state) e a.events (lab k) x) y

  pub stands_here : (spot : InlineState) (at : ℕ) (asserts : Bool) (is : List Item) (a b : Trace Point) → IsSiteWith T spot at asserts → label_on is ≡ Some at → length a.state.store ≡ spot.live →
      b ≡ a
      → Stands (config is spot.frame.here a.state) a.events spot.next b
  stands_here spot at asserts is a b has lab l e =
      rw e (record { there = config is spot.frame.here a.state; label = at; asserts = asserts; runs = (0, (refl, refl)); on = lab; site = rw l has; state = refl })

  -- its point stands before what its step does
  does_point : (spot : InlineState) (at : ℕ) (i : Item) (g : Node) → IsSiteAt T spot at → ((k : List Item) → label_on (i ∷ k) ≡ Some at) →
      Follows spot.frame spot.live i g
      → Does spot.frame spot.live i (seq (point spot.next) g)
  does_point spot at i g has lab x = record {
    runs = λ k a u b m l y. elim (point_seq (point_at T) may spot.next g a u b y) as (λ _. Fulfils spot.frame.here k u b (config (i ∷ k) spot.frame.here a.state) a.events) [
      | inl z ↦ rw z.0 (stands_here spot at false (i ∷ k) a b has (lab k) l z.1)
      | inr z ↦ by k a z.0 u b z.1 (x.runs k z.0 u b m (keeps a.state z.0.state z.1.0 ∙ l) z.2)
    ];
  }
    where
      by : (k : List Item) (a w : Trace Point) (u : RunExtent) (b : Trace Point) → VisitsPoint (point_at T) may spot.next a w →
          Pends spot.frame.here (i ∷ k) k u w b
          → Fulfils spot.frame.here k u b (config (i ∷ k) spot.frame.here a.state) a.events
      by k a w to_end b v (e, x, y) =
          later spot.frame.here k to_end b (config (i ∷ k) spot.frame.here a.state) e a.events w.events (step_at (i ∷ k) spot at false a w e has (lab k) v x) y
      by k a w (stopped (by_jump j)) b v z = λ d l. let (e, x, y) = z d l in
          join (config (i ∷ k) spot.frame.here a.state) e d a.events w.events b.events (step_at (i ∷ k) spot at false a w e has (lab k) v x) y
      by k a w (stopped (to_point q)) b v (e, x, y) =
          later spot.frame.here k (stopped (to_point q)) b (config (i ∷ k) spot.frame.here a.state) e a.events w.events (step_at (i ∷ k) spot at false a w e has (lab k) v x) y
      by k a w (stopped (to_failure q)) b v (e, x, y) =
          later spot.frame.here k (stopped (to_failure q)) b (config (i ∷ k) spot.frame.here a.state) e a.events w.events (step_at (i ∷ k) spot at false a w e has (lab k) v x) y

  follows_act : (f : Frame) (n q : ℕ) (op : Op) (i : Item) → ((k : List Item) (s : State) → next P (config (i ∷ k) f.here s) ≡ go k f.here (run_op op s)) → Follows f n i (act q op)
  follows_act f n q op i same = record {
    runs = λ k a u b m l y. let x = act_inv (point_at T) may q op a u b y in
        rw x.0 (config k f.here b.state, same k a.state ∙ go_is k f.here (run_op op a.state) b.state x.1.0, (0, (refl, sym x.1.1)));
  }

  -- an assertion, whose point is that of its verdict
  does_assert : (spot : InlineState) (at : ℕ) (c : Cond) → IsSiteWith T spot at true → Does spot.frame spot.live (run (assert at c)) (seq (point spot.next) (check spot.next spot.frame.here.base c))
  does_assert spot at c has = record {
    runs = λ k a u b m l y. elim (point_seq (point_at T) may spot.next (check spot.next spot.frame.here.base c) a u b y) as
        (λ _. Fulfils spot.frame.here k u b (config (run (assert at c) ∷ k) spot.frame.here a.state) a.events) [
          | inl z ↦ rw z.0 (stands_here spot at true (run (assert at c) ∷ k) a b has refl l z.1)
          | inr z ↦ by k a z.0 u b l z.1 z.2
        ];
  }
    where
      by : (k : List Item) (a w : Trace Point) (u : RunExtent) (b : Trace Point) → length a.state.store ≡ spot.live →
          VisitsPoint (point_at T) may spot.next a w →
          G (check spot.next spot.frame.here.base c) w u b
          → Fulfils spot.frame.here k u b (config (run (assert at c) ∷ k) spot.frame.here a.state) a.events
      by k a w to_end b l v (o, e) =
          met_same (config (run (assert at c) ∷ k) spot.frame.here a.state) (config k spot.frame.here b.state) a.events w.events b.events e
          (step_at (run (assert at c) ∷ k) spot at true a w (config k spot.frame.here b.state) has refl v (go_is k spot.frame.here (run_op (test spot.frame.here.base c true) w.state) b.state o))
      by k a w (stopped (by_jump j)) b l v y = absurd y.0
      by k a w (stopped (to_point q)) b l v y = absurd y.0
      by k a w (stopped (to_failure q)) b l v (e, i, t, o) = rw (e, i) (record {
        there = config (run (assert at c) ∷ k) spot.frame.here a.state;
        label = at;
        asserts = true;
        before = a.events;
        runs = (0, (refl, refl));
        on = refl;
        site = rw l has;
        becomes = v.0;
        fails = (t, o);
        met = v.1 ∙ ap (λ r. visit r a.state ∷ a.events) (ap point_or_none has);
      })

  does_nothing : (spot : InlineState) (at : ℕ) → IsSiteAt T spot at → Does spot.frame spot.live (run (nothing at)) (point spot.next)
  does_nothing spot at has = record { runs = λ k a u b m l y. by k a u b l y }
    where
      by : (k : List Item) (a : Trace Point) (u : RunExtent) (b : Trace Point) → length a.state.store ≡ spot.live → G (point spot.next) a u b
          → Fulfils spot.frame.here k u b (config (run (nothing at) ∷ k) spot.frame.here a.state) a.events
      by k a to_end b l v = step_at (run (nothing at) ∷ k) spot at false a b (config k spot.frame.here b.state) has refl v refl
      by k a (stopped (by_jump j)) b l v = absurd v.0
      by k a (stopped (to_point q)) b l (e, i) = rw e (stands_here spot at false (run (nothing at) ∷ k) a b has refl l i)
      by k a (stopped (to_failure q)) b l v = absurd v.0

  -- an item that does nothing and has no point
  follows_empty : (f : Frame) (n : ℕ) (i : Item) → ((k : List Item) (s : State) → next P (config (i ∷ k) f.here s) ≡ Some (config k f.here s)) → Follows f n i empty
  follows_empty f n i same = record { runs = λ k a u b m l y. by k a u b y }
    where
      by : (k : List Item) (a : Trace Point) (u : RunExtent) (b : Trace Point) → G empty a u b → Pends f.here (i ∷ k) k u a b
      by k a to_end b y = (config k f.here a.state, same k a.state, (0, rw y (refl, refl)))
      by k a (stopped z) b y = absurd y

  -- two trees, whose items stand above k
  does_seq : (f : Frame) (n n' : ℕ) (i i' : Item) (g g' : Node) → ((k : List Item) → break_target (i' ∷ k) ≡ break_target k)
      → ((k : List Item) → continue_target (i' ∷ k) ≡ continue_target k) → ((k : List Item) → return_target (i' ∷ k) ≡ return_target k)
      → Length (point_at T) may keeps f n n' g → Does f n i g → Does f n' i' g' → (k : List Item) (a : Trace Point) (u : RunExtent) (b : Trace Point) → Matches f k → length a.state.store ≡ n
      → G (seq g g') a u b → Fulfils f.here k u b (config (i ∷ i' ∷ k) f.here a.state) a.events
  does_seq f n n' i i' g g' so sa sb len x y k a u b m l z = elim (seq_inv (point_at T) may g g' a u b z) as
      (λ _. Fulfils f.here k u b (config (i ∷ i' ∷ k) f.here a.state) a.events) [
        | inl w ↦ rw w.1 (lower f.here i' k w.0 b (config (i ∷ i' ∷ k) f.here a.state) a.events (so k) (sa k) (sb k)
            (x.runs (i' ∷ k) a (stopped w.0) b m' l w.2))
        | inr w ↦ later f.here k u b (config (i ∷ i' ∷ k) f.here a.state) (config (i' ∷ k) f.here w.0.state) a.events w.0.events (x.runs (i' ∷ k) a to_end w.0 m' l w.1)
            (y.runs k w.0 u b m (len.ends a w.0 to_end l w.1) w.2)
      ]
    where
      m' : Matches f (i' ∷ k)
      m' = matches_skip f i' k (so k) (sa k) (sb k) m

  -- an item that takes one step to two others
  does_two : (f : Frame) (n n' : ℕ) (i j j' : Item) (g g' : Node) → ((k : List Item) → label_on (i ∷ k) ≡ None)
      → ((k : List Item) (s : State) → length s.store ≡ n → next P (config (i ∷ k) f.here s) ≡ Some (config (j ∷ j' ∷ k) f.here s))
      → ((k : List Item) → break_target (j' ∷ k) ≡ break_target k) → ((k : List Item) → continue_target (j' ∷ k) ≡ continue_target k)
      → ((k : List Item) → return_target (j' ∷ k) ≡ return_target k) → Length (point_at T) may keeps f n n' g → Does f n j g → Does f n' j' g' →
      Does f n i (seq g g')
  does_two f n n' i j j' g g' lab nx so sa sb len x y = does_plain f n i (seq g g') lab (record {
    runs = λ k a u b m l z. pends f.here (i ∷ k) k u a b (config (j ∷ j' ∷ k) f.here a.state) (nx k a.state l)
        (does_seq f n n' j j' g g' so sa sb len x y k a u b m l z);
  })

  follows_if : (spot : InlineState) (at : ℕ) (c : Cond) (s s' : Stmt) (g h : Node) → Does spot.frame spot.live (run s) g →
      Does spot.frame spot.live (run s') h →
      Follows spot.frame spot.live (run (if at c s s')) (choose spot.next spot.frame.here.base c g h)
  follows_if spot at c s s' g h x y = record {
    runs = λ k a u b m l z. elim z as (λ _. Pends spot.frame.here (run (if at c s s') ∷ k) k u a b) [
      | inl w ↦ pends spot.frame.here (run (if at c s s') ∷ k) k u a b (config (run s ∷ k) spot.frame.here w.0.state)
          (go_by_true (run s ∷ k) (run s' ∷ k) spot.frame.here a.state (truth_of c (environment_at spot.frame.here.base a.state) a.state.draws) w.0.state w.1.0)
          (moved k u b w.0 (run s) a w.1.1 (x.runs k w.0 u b m (length_test spot.frame.here.base c true a.state w.0.state w.1.0 ∙ l) w.2))
      | inr w ↦ pends spot.frame.here (run (if at c s s') ∷ k) k u a b (config (run s' ∷ k) spot.frame.here w.0.state)
          (go_by_false (run s ∷ k) (run s' ∷ k) spot.frame.here a.state (truth_of c (environment_at spot.frame.here.base a.state) a.state.draws) w.0.state
          w.1.0)
          (moved k u b w.0 (run s') a w.1.1 (y.runs k w.0 u b m (length_test spot.frame.here.base c false a.state w.0.state w.1.0 ∙ l) w.2))
    ];
  }
    where
      moved : (k : List Item) (u : RunExtent) (b w : Trace Point) (i : Item) (a : Trace Point) → w.events ≡ a.events → Fulfils spot.frame.here k u b (config (i ∷ k) spot.frame.here w.state) w.events
          → Fulfils spot.frame.here k u b (config (i ∷ k) spot.frame.here w.state) a.events
      moved k u b w i a e x = subst (λ xs. Fulfils spot.frame.here k u b (config (i ∷ k) spot.frame.here w.state) xs) e x

  follows_give : (spot : InlineState) (x : Receiver) (v : Expr) →
      GivesDoes spot.frame spot.live x (value v) (act spot.next (store_value spot.frame.here.base x v))
  follows_give spot x v = record {
    runs = λ k a u b l y. let z = act_inv (point_at T) may spot.next (store_value spot.frame.here.base x v) a u b y in
        rw z.0 (config k spot.frame.here b.state, go_is k spot.frame.here (run_op (store_value spot.frame.here.base x v) a.state) b.state z.1.0, (0, (refl, sym z.1.1)));
  }

  -- a statement that takes this step
  follows_step : (spot : InlineState) (i : Stmt) (step : List Item → State → Option Config) (g : Node)
      → ((k : List Item) (s : State) → do_stmt P i k spot.frame.here s ≡ step k s)
      → StepDoes spot.frame spot.live step g → Follows spot.frame spot.live (run i) g
  follows_step spot i step g same y = record {
    runs = λ k a u b m l z. let r = y.runs k a u b l z in pends spot.frame.here (run i ∷ k) k u a b r.0 (same k a.state ∙ r.1) r.2;
  }

  abbrev call_behind : InlineState → Function → Receiver → List Item → List Item
  call_behind spot fn x k =
      end_of fn.end (spot.live + width fn) ∷ return_frame (record { receiver = inner fn x; here = spot.frame.here; length = spot.live }) ∷ k

  does_call : (spot : InlineState) (r' : ℕ) (x : Receiver) (gives : List Argument → Op) (c : Call) (fn : Function) (g : Node) (n' : ℕ)
      → slice_get P.functions c.function ≡ Some fn → Adds (gives (given fn c)) (width fn)
      → Length (point_at T) may keeps (callee spot.frame spot.live (inner fn x) c) (spot.live + width fn) n' g → spot.live + width fn ≤ n' →
      IsSiteAt T (spot_of (callee spot.frame spot.live (inner fn x) c) n' r') fn.end
      → Does (callee spot.frame spot.live (inner fn x) c) (spot.live + width fn) (all fn.body) g
      → CallDoes spot.frame spot.live x gives c (callee_node spot.next r' spot.live (inner fn x) (gives (given fn c)) (width fn) g)
  does_call spot r' x gives c fn g n' found adds len up has y = record {
    runs = λ k a u b l z. let w = call_inv (point_at T) may spot r' (inner fn x) (gives (given fn c)) (width fn) g a u b z in (
      config (all fn.body ∷ call_behind spot fn x k) (callee spot.frame spot.live (inner fn x) c).here w.0.state,
      enters k a w.0 l w.1,
      moved k u b a w.0
          w.1.1 (by k w.0 u b (long a w.0 l w.1) w.2),
    );
  }
    where
      long : (a w : Trace Point) → length a.state.store ≡ spot.live → Performs (gives (given fn c)) a w → length w.state.store ≡ spot.live
          + width fn
      long a w l o = adds a.state w.state o.0 ∙ ap (λ n. n + width fn) l

      matches : (k : List Item) → Matches (callee spot.frame spot.live (inner fn x) c)
          (end_of fn.end (spot.live + width fn) ∷ return_frame (record { receiver = inner fn x; here = spot.frame.here; length = spot.live }) ∷ k)
      matches k = record { breaks = λ m z. absurd (none-some m z); continues = λ m z. absurd (none-some m z); backs = refl }

      enters : (k : List Item) (a w : Trace Point) → length a.state.store ≡ spot.live → Performs (gives (given fn c)) a w
          → enter_by gives (slice_get P.functions c.function) c x k spot.frame.here a.state ≡ Some (config (all fn.body ∷ call_behind spot fn x k)
          (callee spot.frame spot.live (inner fn x) c).here w.state)
      enters k a w l o = subst (λ v. enter_by gives v c x k spot.frame.here a.state ≡ Some
          (config (all fn.body ∷ call_behind spot fn x k) (callee spot.frame spot.live (inner fn x) c).here w.state)) (sym found)
          (rw l (go_is (all fn.body ∷ call_behind spot fn x k) (callee spot.frame spot.live (inner fn x) c).here
          (run_op (gives (given fn c)) a.state) w.state o.0))

      moved : (k : List Item) (u : RunExtent) (b a w : Trace Point) → w.events ≡ a.events →
          Fulfils spot.frame.here k u b (config (all fn.body ∷ call_behind spot fn x k) (callee spot.frame spot.live (inner fn x) c).here w.state) w.events
          → Fulfils spot.frame.here k u b (config (all fn.body ∷ call_behind spot fn x k) (callee spot.frame spot.live (inner fn x) c).here w.state) a.events
      moved k u b a w e z = subst (λ xs. Fulfils spot.frame.here k u b (config (all fn.body ∷ call_behind spot fn x k)
          (callee spot.frame spot.live (inner fn x) c).here w.state) xs) e z

      no_jump : (z : Stop) (w b : Trace Point) → z ≢ by_jump returned → LengthAt (callee spot.frame spot.live (inner fn x) c) n' (stopped z) b.state →
          (j : Exit) → z ≢ by_jump j
      no_jump (by_jump broken) w b d v j e = none-some _ v.1
      no_jump (by_jump continued) w b d v j e = none-some _ v.1
      no_jump (by_jump returned) w b d v j e = d refl
      no_jump (to_point q) w b d v j e = cc
      no_jump (to_failure q) w b d v j e = cc

      through_end : (k : List Item) (w b : Trace Point) → EndsBody (point_at T) may r' spot.live (inner fn x) (width fn) g w b → length w.state.store ≡
          spot.live + width fn
          → RunsTo (config (all fn.body ∷ call_behind spot fn x k) (callee spot.frame spot.live (inner fn x) c).here w.state) w.events
          (config k spot.frame.here b.state) b.events
      through_end k w b z l =
          let marked : List Item = return_frame (record { receiver = inner fn x; here = spot.frame.here; length = spot.live }) ∷ k in
          let there : CallContext = (callee spot.frame spot.live (inner fn x) c).here in
          let one = y.runs (call_behind spot fn x k) w to_end z.before (matches k) l z.body in
          let two = step_at (call_behind spot fn x k) (spot_of (callee spot.frame spot.live (inner fn x) c) n' r') fn.end false z.before z.past
          (config marked there z.cut.state) has refl z.passed
          (go_is marked there (run_op (truncate_to (spot.live + width fn)) z.past.state) z.cut.state z.cuts.0) in
          let three = step_plain (config marked there z.cut.state) (config k spot.frame.here b.state) z.past.events refl
          (go_on_is (run_any (inner fn x) z.cut.state) (λ v. go k spot.frame.here (run_op (truncate_to spot.live) v)) z.set.state z.sets.0
          ∙ go_is k spot.frame.here
          (run_op (truncate_to spot.live) z.set.state) b.state
          z.back.0) in
          join (config (all fn.body ∷ call_behind spot fn x k) there w.state) (config (call_behind spot fn x k) there z.before.state)
          (config k spot.frame.here b.state) w.events z.before.events b.events one
          (join (config (call_behind spot fn x k) there z.before.state) (config marked there z.cut.state) (config k spot.frame.here b.state) z.before.events
          z.past.events b.events two
          (met_same (config marked there z.cut.state) (config k spot.frame.here b.state) z.past.events z.past.events b.events (z.back.1 ∙ (z.sets.1 ∙ z.cuts.1))
          three))

      by : (k : List Item) (w : Trace Point) (u : RunExtent) (b : Trace Point) → length w.state.store ≡ spot.live + width fn → GoesCall (point_at T) may spot r'
          (inner fn x) (width fn) g w b u
          → Fulfils spot.frame.here k u b (config (all fn.body ∷ call_behind spot fn x k) (callee spot.frame spot.live (inner fn x) c).here w.state) w.events
      by k w _ b l (call_returned z) = y.runs (call_behind spot fn x k) w (stopped (by_jump returned)) b (matches k) l z (config k spot.frame.here b.state) refl
      by k w _ b l (call_ended z) = through_end k w b z l
      by k w _ b l (call_stopped v d z) =
          across (callee spot.frame spot.live (inner fn x) c).here spot.frame.here (call_behind spot fn x k) k v b
          (config (all fn.body ∷ call_behind spot fn x k) (callee spot.frame spot.live (inner fn x) c).here w.state) w.events
          (no_jump v w b d (len.ends w b (stopped v) l z)) (y.runs (call_behind spot fn x k) w (stopped v) b (matches k) l z)
      by k w _ b l (call_at_end z) = later spot.frame.here k (stopped (to_point r')) b
          (config (all fn.body ∷ call_behind spot fn x k) (callee spot.frame spot.live (inner fn x) c).here w.state)
          (config (call_behind spot fn x k) (callee spot.frame spot.live (inner fn x) c).here b.state) w.events b.events
          (y.runs (call_behind spot fn x k) w to_end b (matches k) l z)
          (stands_here (spot_of (callee spot.frame spot.live (inner fn x) c) n' r') fn.end false (call_behind spot fn x k) b b has refl
          (len.ends w b to_end l z) refl)

  module _ (spot : InlineState) (at : ℕ) (c : Cond) (s step : Stmt) (g h : Node) (has : IsSiteAt T spot at) (body : Does (in_loop spot.frame (Some spot.live)) spot.live (run s) g)
      (stepping : Does (in_loop spot.frame None) spot.live (run step) h)
      (body_length : Length (point_at T) may keeps (in_loop spot.frame (Some spot.live)) spot.live spot.live g)
      (step_length : Length (point_at T) may keeps (in_loop spot.frame None) spot.live spot.live h) where
    abbrev L : Item
    L = run (loop at c s step)

    abbrev behind : List Item → List Item
    behind k = next_round step (loop at c s step) spot.live ∷ k

    abbrev Entered : Bool → Trace Point → Trace Point → Type 0
    Entered wanted a b = VisitsAndTests (point_at T) may spot.next spot.frame.here.base c wanted a b

    abbrev Rounds : ℕ → Trace Point → Trace Point → Type 0
    Rounds n a b = TrailRounds (Round (point_at T) may spot.next spot.frame.here.base c g h) n a b

    goes_in : (k : List Item) (a w : Trace Point) → length a.state.store ≡ spot.live → Entered true a w →
        RunsTo (config (L ∷ k) spot.frame.here a.state) a.events (config (run s ∷ behind k) spot.frame.here w.state) w.events
    goes_in k a w l (m, v, o) =
        met_same (config (L ∷ k) spot.frame.here a.state) (config (run s ∷ behind k) spot.frame.here w.state) a.events m.events w.events o.1
        (step_at (L ∷ k) spot at false a m (config (run s ∷ behind k) spot.frame.here w.state) has refl v
        (rw (keeps a.state m.state v.0 ∙ l) (go_by_true (run s ∷ behind k) k spot.frame.here m.state (truth_of c (environment_at spot.frame.here.base m.state) m.state.draws) w.state o.0)))

    goes_out : (k : List Item) (a w : Trace Point) → Entered false a w → RunsTo (config (L ∷ k) spot.frame.here a.state) a.events (config k spot.frame.here w.state) w.events
    goes_out k a w (m, v, o) = met_same (config (L ∷ k) spot.frame.here a.state) (config k spot.frame.here w.state) a.events m.events w.events o.1
        (step_at (L ∷ k) spot at false a m (config k spot.frame.here w.state) has refl v
        (go_by_false (run s ∷ next_round step (loop at c s step) (length m.state.store) ∷ k) k spot.frame.here m.state (truth_of c (environment_at spot.frame.here.base m.state) m.state.draws) w.state
        o.0))

    in_body : (k : List Item) → Matches spot.frame k → Matches (in_loop spot.frame (Some spot.live)) (behind k)
    in_body k m = record { breaks = λ w z. z; continues = λ w z. z; backs = m.backs }

    in_step : (k : List Item) → Matches spot.frame k → Matches (in_loop spot.frame None) (L ∷ k)
    in_step k m = record { breaks = λ w z. absurd (none-some w z); continues = λ w z. absurd (none-some w z); backs = m.backs }

    -- from the body's end to the step
    turns : (k : List Item) (w mid : Trace Point) → RunsTo (config (run s ∷ behind k) spot.frame.here w.state) w.events (config (behind k) spot.frame.here mid.state) mid.events
        → RunsTo (config (run s ∷ behind k) spot.frame.here w.state) w.events (config (run step ∷ L ∷ k) spot.frame.here mid.state) mid.events
    turns k w mid x = join (config (run s ∷ behind k) spot.frame.here w.state) (config (behind k) spot.frame.here mid.state) (config (run step ∷ L ∷ k) spot.frame.here mid.state) w.events mid.events
        mid.events x
        (step_plain (config (behind k) spot.frame.here mid.state) (config (run step ∷ L ∷ k) spot.frame.here mid.state) mid.events refl refl)

    body_runs : (k : List Item) → Matches spot.frame k → (w mid : Trace Point) → length w.state.store ≡ spot.live → EndsBodyRound (point_at T) may g w mid
        → RunsTo (config (run s ∷ behind k) spot.frame.here w.state) w.events (config (run step ∷ L ∷ k) spot.frame.here mid.state) mid.events
    body_runs k m w mid l (inl e) = turns k w mid (body.runs (behind k) w to_end mid (in_body k m) l e)
    body_runs k m w mid l (inr e) = turns k w mid (body.runs (behind k) w (stopped (by_jump continued)) mid (in_body k m) l e (config (behind k) spot.frame.here mid.state) refl)

    rounds_run : (k : List Item) → Matches spot.frame k → (i : ℕ) (a v : Trace Point) → length a.state.store ≡ spot.live → Rounds i a v →
        RunsTo (config (L ∷ k) spot.frame.here a.state) a.events (config (L ∷ k) spot.frame.here v.state) v.events
    rounds_run k m zero a v l r = (0, rw r (refl, refl))
    rounds_run k m (suc i) a v l (u, r, (w, t, (mid, e, e'))) =
        let lu = rounds_length (point_at T) may keeps spot.frame spot.live g h body_length step_length spot.next spot.frame.here.base c i a u l r in
        let lw = tests_length (point_at T) may keeps spot.next spot.frame.here.base c true u w t ∙ lu in
        join (config (L ∷ k) spot.frame.here a.state) (config (L ∷ k) spot.frame.here u.state) (config (L ∷ k) spot.frame.here v.state) a.events u.events v.events (rounds_run k m i a u l r)
        (join (config (L ∷ k) spot.frame.here u.state) (config (run s ∷ behind k) spot.frame.here w.state) (config (L ∷ k) spot.frame.here v.state) u.events w.events v.events (goes_in k u w lu t)
        (join (config (run s ∷ behind k) spot.frame.here w.state) (config (run step ∷ L ∷ k) spot.frame.here mid.state) (config (L ∷ k) spot.frame.here v.state) w.events mid.events v.events
        (body_runs k m w mid lw e)
        (stepping.runs (L ∷ k) mid to_end v (in_step k m) (mid_length (point_at T) may keeps spot.frame spot.live g h body_length step_length w mid lw e) e')))

    -- a stop in the body or in the step, that isn't one of the loop's own jumps
    carried : (k : List Item) (k' : List Item) (z : Stop) (b : Trace Point) (d : Config) (xs : List (TraceEvent Point)) → return_target k' ≡ return_target k → z ≢ by_jump broken →
        z ≢ by_jump continued
        → Fulfils spot.frame.here k' (stopped z) b d xs → Fulfils spot.frame.here k (stopped z) b d xs
    carried k k' (by_jump broken) b d xs e n n' x = absurd (n refl)
    carried k k' (by_jump continued) b d xs e n n' x = absurd (n' refl)
    carried k k' (by_jump returned) b d xs e n n' x = λ v l. x v (subst (λ o. land_returned o b.state ≡ Some v) (sym e) l)
    carried k k' (to_point q) b d xs e n n' x = x
    carried k k' (to_failure q) b d xs e n n' x = x

    not_continued : (z : Stop) (mid b : Trace Point) → LengthAt (in_loop spot.frame None) spot.live (stopped z) b.state → (z ≢ by_jump broken) × (z ≢ by_jump continued)
    not_continued (by_jump broken) mid b v = absurd (none-some _ v.1)
    not_continued (by_jump continued) mid b v = absurd (none-some _ v.1)
    not_continued (by_jump returned) mid b v = (λ e. cc, λ e. cc)
    not_continued (to_point q) mid b v = (λ e. cc, λ e. cc)
    not_continued (to_failure q) mid b v = (λ e. cc, λ e. cc)

    -- out of the last round
    leaves_run : (k : List Item) → Matches spot.frame k → (w : Trace Point) (z : Stop) (b : Trace Point) → length w.state.store ≡ spot.live → z ≢ by_jump broken →
        LeavesRound (point_at T) may g h w z b
        → Fulfils spot.frame.here k (stopped z) b (config (run s ∷ behind k) spot.frame.here w.state) w.events
    leaves_run k m w z b l n (inl (n', y)) =
        carried k (behind k) z b (config (run s ∷ behind k) spot.frame.here w.state) w.events refl n n' (body.runs (behind k) w (stopped z) b (in_body k m) l y)
    leaves_run k m w z b l n (inr (mid, x, y)) =
        let lm = mid_length (point_at T) may keeps spot.frame spot.live g h body_length step_length w mid l x in
        later spot.frame.here k (stopped z) b (config (run s ∷ behind k) spot.frame.here w.state) (config (run step ∷ L ∷ k) spot.frame.here mid.state) w.events mid.events (body_runs k m w mid l x)
        (carried k (L ∷ k) z b (config (run step ∷ L ∷ k) spot.frame.here mid.state) mid.events refl n (not_continued z mid b (step_length.ends mid b (stopped z) lm y)).1
        (stepping.runs (L ∷ k) mid (stopped z) b (in_step k m) lm y))

    breaks_run : (k : List Item) → Matches spot.frame k → (w b : Trace Point) → length w.state.store ≡ spot.live → LeavesRound (point_at T) may g h w (by_jump broken) b
        → RunsTo (config (run s ∷ behind k) spot.frame.here w.state) w.events (config k spot.frame.here b.state) b.events
    breaks_run k m w b l (inl (n, y)) = body.runs (behind k) w (stopped (by_jump broken)) b (in_body k m) l y (config k spot.frame.here b.state) refl
    breaks_run k m w b l (inr (mid, x, y)) =
        absurd ((not_continued (by_jump broken) mid b (step_length.ends mid b (stopped (by_jump broken))
        (mid_length (point_at T) may keeps spot.frame spot.live g h body_length step_length w mid l x) y)).0 refl)

    last_round : (k : List Item) → Matches spot.frame k → (a : Trace Point) (u : RunExtent) (b : Trace Point) → length a.state.store ≡ spot.live
        → EndsLoop (point_at T) may spot.next spot.frame.here.base c g h a b u → Fulfils spot.frame.here k u b (config (L ∷ k) spot.frame.here a.state) a.events
    last_round k m a _ b l (loop_done t) = goes_out k a b t
    last_round k m a _ b l (loop_at e) = stands_here spot at false (L ∷ k) a b has refl l e
    last_round k m a _ b l (loop_broken w t y) =
        join (config (L ∷ k) spot.frame.here a.state) (config (run s ∷ behind k) spot.frame.here w.state) (config k spot.frame.here b.state) a.events w.events b.events (goes_in k a w l t)
        (breaks_run k m w b (tests_length (point_at T) may keeps spot.next spot.frame.here.base c true a w t ∙ l) y)
    last_round k m a _ b l (loop_left w z t y n) =
        later spot.frame.here k (stopped z) b (config (L ∷ k) spot.frame.here a.state) (config (run s ∷ behind k) spot.frame.here w.state) a.events w.events (goes_in k a w l t)
        (leaves_run k m w z b (tests_length (point_at T) may keeps spot.next spot.frame.here.base c true a w t ∙ l) n y)

    does_loop : Does spot.frame spot.live (run (loop at c s step)) (loop_node spot.next spot.frame.here.base c g h)
    does_loop = record {
      runs = λ k a u b m l y.
          let r = loop_inv (point_at T) may spot.next spot.frame.here.base c g h a u b y in
          later spot.frame.here k u b (config (L ∷ k) spot.frame.here a.state) (config (L ∷ k) spot.frame.here r.1.state) a.events r.1.events (rounds_run k m r.0 a r.1 l r.2)
          (last_round k m r.1 u b (rounds_length (point_at T) may keeps spot.frame spot.live g h body_length step_length spot.next spot.frame.here.base c r.0 a r.1 l r.2) r.3);
    }

  follows_break : (spot : InlineState) (at m : ℕ) → spot.frame.breaks ≡ Some m
      → Follows spot.frame spot.live (run (break at)) (seq (act spot.next (truncate_to m)) (leave spot.live broken))
  follows_break spot at m i = record {
    runs = λ k a u b mm l y. let x = jump_inv (point_at T) may spot.next (truncate_to m) spot.live broken a u b y in
        rw x.0 (λ e z. (e, break_step (break_target k) m spot.frame.here a.state b.state e (mm.breaks m i) x.1.0 z, (0, (refl, sym x.1.1))));
  }

  follows_continue : (spot : InlineState) (at m : ℕ) → spot.frame.continues ≡ Some m
      → Follows spot.frame spot.live (run (continue at)) (seq (act spot.next (truncate_to m)) (leave spot.live continued))
  follows_continue spot at m i = record {
    runs = λ k a u b mm l y. let x = jump_inv (point_at T) may spot.next (truncate_to m) spot.live continued a u b y in
        rw x.0 (λ e z. (e, continue_step (continue_target k) m spot.frame.here a.state b.state e (mm.continues m i) x.1.0 z, (0, (refl, sym x.1.1))));
  }

  -- a return that gives its value, or any
  follows_return : (spot : InlineState) (i : Item) (op : Op) (r : ReturnFrame) → spot.frame.back ≡ Some r
      → ((k : List Item) (s : State) → receiver_of P (return_target k) ≡ r.receiver →
      next P (config (i ∷ k) spot.frame.here s) ≡ do_leave (return_target k) (run_op op s))
      → Follows spot.frame spot.live i (return_node spot.next op r.length spot.live)
  follows_return spot i op r is same = record {
    runs = λ k a u b mm l y.
        let one = act_seq (point_at T) may spot.next op (seq (act spot.next (truncate_to r.length)) (leave spot.live returned)) a u b y in
        let x = jump_inv (point_at T) may spot.next (truncate_to r.length) spot.live returned one.0 u b one.2 in
        let back = mm.backs ∙ is in
        rw x.0 (λ e z. (
          e,
          same k a.state (receiver_back P (return_target k) r back)
              ∙ leave_step (return_target k) r (run_op op a.state) one.0.state b.state e back one.1.0 x.1.0 z,
          (0, (refl, sym (x.1.1 ∙ one.1.1))),
        ));
  }

  follows_return_call : (spot : InlineState) (at : ℕ) (v : Call) (r : ReturnFrame) (g : Node) → spot.frame.back ≡ Some r →
      GivesDoes spot.frame spot.live r.receiver
      (result v) g
      → Follows spot.frame spot.live (run (return at (Some (result v)))) (seq g (seq (act spot.next (truncate_to r.length)) (leave spot.live returned)))
  follows_return_call spot at v r g is y = record {
    runs = λ k a u b mm l z. elim (seq_inv (point_at T) may g (seq (act spot.next (truncate_to r.length)) (leave spot.live returned)) a u b z) as
        (λ _. Pends spot.frame.here (run (return at (Some (result v))) ∷ k) k u a b) [
          | inl w ↦ let q = y.runs (leave_call ∷ k) a (stopped w.0) b l w.2 in
              rw w.1 (pends spot.frame.here (run (return at (Some (result v))) ∷ k) k (stopped w.0) a b q.0 (starts k a.state q.0 (mm.backs ∙ is) q.1)
              (lower spot.frame.here leave_call k w.0 b q.0 a.events refl refl refl q.2))
          | inr w ↦ let q = y.runs (leave_call ∷ k) a to_end w.0 l w.1 in
              let x = jump_inv (point_at T) may spot.next (truncate_to r.length) spot.live returned w.0 u b w.2 in
              rw x.0 (λ e n. (
                q.0,
                starts k a.state q.0 (mm.backs ∙ is) q.1,
                join q.0 (config (leave_call ∷ k) spot.frame.here w.0.state) e a.events w.0.events b.events q.2
                    (met_same (config (leave_call ∷ k) spot.frame.here w.0.state) e w.0.events w.0.events b.events x.1.1
                    (step_plain (config (leave_call ∷ k) spot.frame.here w.0.state) e w.0.events refl
                    (leave_step (return_target k) r (Some w.0.state) w.0.state b.state e (mm.backs ∙ is) refl x.1.0 n))),
              ))
        ];
  }
    where
      starts : (k : List Item) (s : State) (e : Config) → back_of (return_target k) ≡ Some r →
          do_rvalue P r.receiver (result v) (leave_call ∷ k) spot.frame.here s ≡
          Some e
          → next P (config (run (return at (Some (result v))) ∷ k) spot.frame.here s) ≡ Some e
      starts k s e back z = subst (λ w. do_rvalue P w (result v) (leave_call ∷ k) spot.frame.here s ≡ Some e) (sym (receiver_back P (return_target k) r back)) z

  -- in `main` nothing follows
  follows_stop : (spot : InlineState) (i : Item) → spot.frame.back ≡ None → Follows spot.frame spot.live i (leave spot.live returned)
  follows_stop spot i is = record {
    runs = λ k a u b mm l y. let x = leave_inv (point_at T) may spot.live returned a u b y in
        rw x.0 (λ e z. absurd (no_landing (return_target k) b.state e (mark_none (return_target k) (mm.backs ∙ is)) z));
  }

  -- its value is given
  follows_stop_value : (spot : InlineState) (i : Item) (op : Op) → spot.frame.back ≡ None → Follows spot.frame spot.live i
      (seq (act spot.next op) (leave spot.live returned))
  follows_stop_value spot i op is = record {
    runs = λ k a u b mm l y. let x = jump_inv (point_at T) may spot.next op spot.live returned a u b y in
        rw x.0 (λ e z. absurd (no_landing (return_target k) b.state e (mark_none (return_target k) (mm.backs ∙ is)) z));
  }

  follows_stop_call : (spot : InlineState) (at : ℕ) (v : Call) (g : Node) → spot.frame.back ≡ None →
      GivesDoes spot.frame spot.live (main_receiver P) (result v) g →
      Follows spot.frame spot.live (run (return at (Some (result v)))) (seq g (leave spot.live returned))
  follows_stop_call spot at v g is y = record {
    runs = λ k a u b mm l z. elim (seq_inv (point_at T) may g (leave spot.live returned) a u b z) as (λ _. Pends spot.frame.here (run (return at (Some (result v))) ∷ k) k u a b) [
      | inl w ↦ let q = y.runs (leave_call ∷ k) a (stopped w.0) b l w.2 in
          rw w.1 (pends spot.frame.here (run (return at (Some (result v))) ∷ k) k (stopped w.0) a b q.0 (starts k a.state q.0 (mark_none (return_target k) (mm.backs ∙ is)) q.1)
          (lower spot.frame.here leave_call k w.0 b q.0 a.events refl refl refl q.2))
      | inr w ↦ let x = leave_inv (point_at T) may spot.live returned w.0 u b w.2 in
          rw x.0 (λ e n. absurd (no_landing (return_target k) b.state e (mark_none (return_target k) (mm.backs ∙ is)) n))
    ];
  }
    where
      starts : (k : List Item) (s : State) (e : Config) → return_target k ≡ None →
          do_rvalue P (main_receiver P) (result v) (leave_call ∷ k) spot.frame.here s ≡ Some e
          → next P (config (run (return at (Some (result v))) ∷ k) spot.frame.here s) ≡ Some e
      starts k s e i z = subst (λ w. do_rvalue P (receiver_of P w) (result v) (leave_call ∷ k) spot.frame.here s ≡ Some e) (sym i) z

  -- a declarator that gives its variable a value
  follows_given : (spot : InlineState) (d : Declarator) (v : Rvalue) (g : Node) → d.rvalue ≡ Some v → GivesDoes spot.frame (suc spot.live)
      (variable_at spot.live d.number_type) v g →
      Follows spot.frame spot.live (declare d) (seq (act spot.next (append d.number_type)) g)
  follows_given spot d v g same y = record {
    runs = λ k a u b mm l z.
        let one = act_seq (point_at T) may spot.next (append d.number_type) g a u b z in
        let r = y.runs k one.0 u b (length_append d.number_type a.state one.0.state one.1.0 ∙ ap suc l) one.2 in
        pends spot.frame.here (declare d ∷ k) k u a b r.0 (starts k a.state one.0.state r.0 l one.1.0 r.1) (subst (λ xs. Fulfils spot.frame.here k u b r.0 xs) one.1.1 r.2);
  }
    where
      starts : (k : List Item) (s u : State) (e : Config) → length s.store ≡ spot.live → run_op (append d.number_type) s ≡ Some u → do_rvalue P
          (variable_at spot.live d.number_type) v k spot.frame.here u ≡ Some e
          → next P (config (declare d ∷ k) spot.frame.here s) ≡ Some e
      starts k s u e l o z = subst (λ w. do_declare P d.number_type w k spot.frame.here s ≡ Some e) (sym same)
          (go_on_is (run_op (append d.number_type) s) (do_rvalue P (variable_at (length s.store) d.number_type) v k spot.frame.here) u o
          ∙ subst (λ w. do_rvalue P (variable_at w d.number_type) v k spot.frame.here u ≡ Some e) (sym l) z)

  does_cut : (f : Frame) (n q m : ℕ) → Does f n (end_for m) (act q (truncate_to m))
  does_cut f n q m = does_plain f n (end_for m) (act q (truncate_to m)) (λ k. refl) (follows_act f n q (truncate_to m) (end_for m) (λ k s. refl))

  does_for : (spot : InlineState) (at : ℕ) (init : BlockItems) (c : Cond) (s step : Stmt) (g h : Node) (n' : ℕ) → Length (point_at T) may keeps spot.frame spot.live n' g
      → Length (point_at T) may keeps spot.frame n' n' h → Does spot.frame spot.live (all init) g → Does spot.frame n' (run (loop at c s step)) h
      → Does spot.frame spot.live (run (for at init c s step)) (seq g (seq h (act spot.next (truncate_to spot.live))))
  does_for spot at init c s step g h n' lg lh x y = does_plain spot.frame spot.live (run (for at init c s step)) (seq g (seq h (act spot.next (truncate_to spot.live)))) (λ k. refl) (record {
    runs = λ k a u b mm l z. pends spot.frame.here (run (for at init c s step) ∷ k) k u a b (config (all init ∷ run (loop at c s step) ∷ end_for spot.live ∷ k) spot.frame.here a.state)
        (starts k a.state l)
        (elim (seq_inv (point_at T) may g (seq h (act spot.next (truncate_to spot.live))) a u b z) as
        (λ _. Fulfils spot.frame.here k u b (config (all init ∷ run (loop at c s step) ∷ end_for spot.live ∷ k) spot.frame.here a.state) a.events) [
          | inl w ↦ rw w.1 (lower spot.frame.here (end_for spot.live) k w.0 b _ a.events refl refl refl
              (lower spot.frame.here (run (loop at c s step)) (end_for spot.live ∷ k) w.0 b _ a.events refl refl refl
              (x.runs (run (loop at c s step) ∷ end_for spot.live ∷ k) a (stopped w.0) b (deeper k mm) l w.2)))
          | inr w ↦ later spot.frame.here k u b (config (all init ∷ run (loop at c s step) ∷ end_for spot.live ∷ k) spot.frame.here a.state)
              (config (run (loop at c s step) ∷ end_for spot.live ∷ k) spot.frame.here w.0.state)
              a.events w.0.events (x.runs (run (loop at c s step) ∷ end_for spot.live ∷ k) a to_end w.0 (deeper k mm) l w.1)
              (does_seq spot.frame n' n' (run (loop at c s step)) (end_for spot.live) h (act spot.next (truncate_to spot.live)) (λ k. refl) (λ k. refl)
              (λ k. refl) lh y
              (does_cut spot.frame n' spot.next spot.live) k
              w.0 u b mm
              (lg.ends a w.0 to_end l w.1) w.2)
        ]);
  })
    where
      deeper : (k : List Item) → Matches spot.frame k → Matches spot.frame (run (loop at c s step) ∷ end_for spot.live ∷ k)
      deeper k m = matches_skip spot.frame (run (loop at c s step)) (end_for spot.live ∷ k) refl refl refl
          (matches_skip spot.frame (end_for spot.live) k refl refl refl m)

      starts : (k : List Item) (t : State) → length t.store ≡ spot.live → next P (config (run (for at init c s step) ∷ k) spot.frame.here t) ≡
          Some (config (all init ∷ run (loop at c s step) ∷ end_for spot.live ∷ k) spot.frame.here t)
      starts k t l = rw l refl

  -- one step to another item
  does_past : (f : Frame) (n : ℕ) (i j : Item) (g : Node) → ((k : List Item) → label_on (i ∷ k) ≡ None)
      → ((k : List Item) (s : State) → next P (config (i ∷ k) f.here s) ≡ Some (config (j ∷ k) f.here s))
      → Does f n j g → Does f n i g
  does_past f n i j g lab nx x = does_plain f n i g lab
      (record { runs = λ k a u b m l z. pends f.here (i ∷ k) k u a b (config (j ∷ k) f.here a.state) (nx k a.state) (x.runs k a u b m l z) })

  does_by : (f : Frame) (n : ℕ) (t : Bool) (cs ds : Cases) (g h : Node) → Does f n (cases cs) g → Does f n (cases ds) h
      → Does f n (cases (cond t cs ds)) (cond t g h)
  does_by f n true cs ds g h x y = x
  does_by f n false cs ds g h x y = y

  -- a `switch`: the cases that its value chooses, above its end
  module _ (spot : InlineState) (at : ℕ) (e : Expr) (cs : Cases) (arms : Arms) (same : entries_of arms ≡ labels_of cs)
      (inside : (l : CaseLabel) → Does (record spot.frame { breaks = Some spot.live }) spot.live (cases (cases_after_label l cs)) (row_behind l arms)) where
    abbrev above_end : List Item → List Item
    above_end k = end_switch spot.live ∷ k

    among : (k : List Item) → Matches spot.frame k → Matches (record spot.frame { breaks = Some spot.live }) (above_end k)
    among k m = record { breaks = λ w z. z; continues = m.continues; backs = m.backs }

    abbrev chosen_config : List Item → CaseLabel → State → Config
    chosen_config k l s = config (cases (cases_after_label l cs) ∷ above_end k) spot.frame.here s

    -- the step to what is chosen
    switch_step : (k : List Item) (a m : Trace Point) (l : CaseLabel) → length a.state.store ≡ spot.live → Finds spot.frame.here.base e arms a l m
        → next_at P (run (switch at e cs) ∷ k) spot.frame.here a.state ≡ Some (chosen_config k l m.state)
    switch_step k a m l n ((z, got, state, is), met) =
        subst (λ s. next_at P (run (switch at e cs) ∷ k) spot.frame.here a.state ≡ Some (chosen_config k l s)) (sym state) (rw (got, n, is, same) refl)

    follows_switch : Follows spot.frame spot.live (run (switch at e cs)) (switch_node spot.next spot.frame.here.base e arms)
    follows_switch = record { runs = λ k a u b m l x. by k a u b m l x }
      where
        found : (k : List Item) (a w b : Trace Point) (l : CaseLabel) (u : RunExtent) → Matches spot.frame k → length a.state.store ≡ spot.live
            → Finds spot.frame.here.base e arms a l w
            → ArmsRunUpTo (point_at T) may l false arms w u b → Fulfils spot.frame.here (above_end k) u b (chosen_config k l w.state) a.events
        found k a w b l u m n f x = subst (λ xs. Fulfils spot.frame.here (above_end k) u b (chosen_config k l w.state) xs) f.1
            ((inside l).runs (above_end k) w u b (among k m) (ap (λ (x : State). length x.store) f.0.2 ∙ n) (row_of_behind (point_at T) may l arms w u b x))

        -- past the end of the `switch`
        past_end : (k : List Item) (b : Trace Point) (c : Config) (xs : List (TraceEvent Point)) →
            RunsTo c xs (config (above_end k) spot.frame.here b.state) b.events
            → RunsTo c xs (config k spot.frame.here b.state) b.events
        past_end k b c xs r = join c (config (above_end k) spot.frame.here b.state) (config k spot.frame.here b.state) xs b.events b.events r
            (step_plain (config (above_end k) spot.frame.here b.state) (config k spot.frame.here b.state) b.events refl refl)

        by : (k : List Item) (a : Trace Point) (u : RunExtent) (b : Trace Point) → Matches spot.frame k → length a.state.store ≡ spot.live
            → G (switch_node spot.next spot.frame.here.base e arms) a u b → Pends spot.frame.here (run (switch at e cs) ∷ k) k u a b
        by k a to_end b m n (inl (l, w, f, x)) = (
          chosen_config k l w.state,
          switch_step k a w l n f,
          past_end k b (chosen_config k l w.state) a.events
              (found k a w b l to_end m n f x),
        )
        by k a to_end b m n (inr (l, w, f, x)) = (
          chosen_config k l w.state,
          switch_step k a w l n f,
          found k a w b l (stopped (by_jump broken)) m n f x
              (config k spot.frame.here b.state) refl,
        )
        by k a (stopped (by_jump broken)) b m n (d, x) = absurd (d refl)
        by k a (stopped (by_jump continued)) b m n (d, (l, w, f, x)) = λ c i.
            (chosen_config k l w.state, switch_step k a w l n f, found k a w b l (stopped (by_jump continued)) m n f x c i)
        by k a (stopped (by_jump returned)) b m n (d, (l, w, f, x)) = λ c i.
            (chosen_config k l w.state, switch_step k a w l n f, found k a w b l (stopped (by_jump returned)) m n f x c i)
        by k a (stopped (to_point q)) b m n (d, (l, w, f, x)) =
            (chosen_config k l w.state, switch_step k a w l n f, found k a w b l (stopped (to_point q)) m n f x)
        by k a (stopped (to_failure q)) b m n (d, (l, w, f, x)) =
            (chosen_config k l w.state, switch_step k a w l n f, found k a w b l (stopped (to_failure q)) m n f x)

  -- a block's end
  does_end : (spot : InlineState) (n at : ℕ) → IsSiteAt T spot at →
      Does spot.frame spot.live (end_of at n) (seq (point spot.next) (act spot.next (truncate_to n)))
  does_end spot n at has = does_point spot at (end_of at n) (act spot.next (truncate_to n)) has (λ k. refl) (follows_act spot.frame spot.live spot.next (truncate_to n) (end_of at n) (λ k s. refl))

  mutual
    pub does_one : {spot : InlineState} {s : Stmt} {g : Node} {q : ℕ} → InlineStmt P T spot s g q → Does spot.frame spot.live (run s) g
    does_one (as_nothing {s = spot} {at = at} i) = does_nothing spot at i
    does_one (as_block {s = spot} {body = body} {end = end} {g = g} {n = n'} {q = q'} d i) =
        does_two spot.frame spot.live n' (run (block body end)) (all body) (end_of end spot.live) g (seq (point q') (act q' (truncate_to spot.live)))
        (λ k. refl)
        (λ k s l. rw l refl) (λ k. refl) (λ k. refl) (λ k. refl) (length_all (point_at T) may keeps d) (does_all d) (does_end (move spot n' q') spot.live end i)
    does_one (as_absent {s = spot}) = does_plain spot.frame spot.live (run absent) empty (λ k. refl) (follows_empty spot.frame spot.live (run absent) (λ k s. refl))
    does_one (as_assign {s = spot} {at = at} {x = x} {e = e} {g = g} i d) = does_point spot at (run (assign at x e)) g i (λ k. refl)
        (follows_step spot (assign at x e) (λ k s. do_rvalue P (variable_at (index_of spot.frame.here.base x.slot) x.number_type) e k spot.frame.here s) g
        (λ k s. refl) (does_gives d))
    does_one (as_write {s = spot} {at = at} {x = x} {e = e} i) = does_point spot at (run (write at x (value e)))
        (act spot.next (store_element spot.frame.here.base x e)) i (λ k. refl)
        (follows_act spot.frame spot.live spot.next (store_element spot.frame.here.base x e) (run (write at x (value e))) (λ k s. refl))
    does_one (as_write_call {s = spot} {at = at} {x = x} {c = c} {g = g} i d) = does_point spot at (run (write at x (result c))) g i (λ k. refl)
        (follows_step spot (write at x (result c)) (λ k s. do_write P x (result c) k spot.frame.here s) g (λ k s. refl)
        (does_calls d (λ es s t o. length_push_for spot.frame.here.base x es s t o)))
    does_one (as_call {s = spot} {at = at} {c = c} {g = g} i d) = does_point spot at (run (call at c)) g i (λ k. refl)
        (follows_step spot (call at c) (λ k s. do_rvalue P nobody (result c) k spot.frame.here s) g (λ k s. refl) (does_gives d))
    does_one (as_if {s = spot} {at = at} {c = c} {a = s} {b = s'} {g = g} {h = h} i d e) =
        does_point spot at (run (if at c s s')) (choose spot.next spot.frame.here.base c g h) i (λ k. refl)
        (follows_if spot at c s s' g h (does_one d) (does_one e))
    does_one (as_loop d) = does_loops d
    does_one (as_for {s = spot} {at = at} {init = init} {c = c} {a = s} {step = step} {g = g} {h = h} {n = n'} d e) =
        does_for spot at init c s step g h n' (length_all (point_at T) may keeps d) (length_loop (point_at T) may keeps e) (does_all d) (does_loops e)
    does_one (as_break {s = spot} {at = at} {m = m} i k j) =
        does_point spot at (run (break at)) (seq (act spot.next (truncate_to m)) (leave spot.live broken)) j
        (λ k. refl) (follows_break spot at m i)
    does_one (as_continue {s = spot} {at = at} {m = m} i k j) = does_point spot at (run (continue at))
        (seq (act spot.next (truncate_to m)) (leave spot.live continued)) j (λ k. refl) (follows_continue spot at m i)
    does_one (as_return {s = spot} {at = at} {b = b} i k j) = does_point spot at (run (return at None))
        (return_node spot.next (havoc b.receiver) b.length spot.live) j (λ k. refl)
        (follows_return spot (run (return at None)) (havoc b.receiver) b i (λ k s z. ap (λ x. do_leave (return_target k) (run_any x s)) z))
    does_one (as_return_value {s = spot} {at = at} {e = e} {b = b} i k j) =
        does_point spot at (run (return at (Some (value e)))) (return_node spot.next (store_value spot.frame.here.base b.receiver e) b.length spot.live) j
        (λ k. refl)
        (follows_return spot (run (return at (Some (value e)))) (store_value spot.frame.here.base b.receiver e) b i
        (λ k s z. ap (λ x. do_leave (return_target k) (run_op (store_value spot.frame.here.base x e) s)) z))
    does_one (as_return_call {s = spot} {at = at} {c = c} {b = b} {g = g} i k j d) =
        does_point spot at (run (return at (Some (result c)))) (seq g (seq (act spot.next (truncate_to b.length)) (leave spot.live returned))) j
        (λ k. refl) (follows_return_call spot at c b g i (does_gives d))
    does_one (as_end {s = spot} {at = at} i j) = does_point spot at (run (return at None)) (leave spot.live returned) j (λ k. refl)
        (follows_stop spot (run (return at None)) i)
    does_one (as_end_value {s = spot} {at = at} {e = e} i j) = does_point spot at (run (return at (Some (value e))))
        (seq (act spot.next (store_value spot.frame.here.base (main_receiver P) e)) (leave spot.live returned)) j
        (λ k. refl) (follows_stop_value spot (run (return at (Some (value e)))) (store_value spot.frame.here.base (main_receiver P) e) i)
    does_one (as_end_call {s = spot} {at = at} {c = c} {g = g} i j d) = does_point spot at (run (return at (Some (result c))))
        (seq g (leave spot.live returned)) j (λ k. refl) (follows_stop_call spot at c g i (does_gives d))
    does_one (as_assert {s = spot} {at = at} {c = c} i) = does_assert spot at c i
    does_one (as_assume {s = spot} {at = at} {c = c} i) = does_point spot at (run (assume at c)) (act spot.next (test spot.frame.here.base c true)) i
        (λ k. refl) (follows_act spot.frame spot.live spot.next (test spot.frame.here.base c true) (run (assume at c)) (λ k s. refl))
    does_one (as_switch {s = spot} {at = at} {e = e} {cs = cs} {arms = arms} i d) = does_point spot at (run (switch at e cs))
        (switch_node spot.next spot.frame.here.base e arms) i (λ k. refl)
        (follows_switch spot at e cs arms (entries_are d) (λ l. does_behind d l))

    -- what runs after a label
    pub does_cases : {spot : InlineState} {cs : Cases} {arms : Arms} {q : ℕ} → InlineCases P T spot cs arms q →
        Does spot.frame spot.live (cases cs) (arms_row arms)
    does_cases (as_no_cases {s = spot}) = does_plain spot.frame spot.live (cases no_cases) empty (λ k. refl)
        (follows_empty spot.frame spot.live (cases no_cases) (λ k s. refl))
    does_cases (as_labelled {s = spot} {l = l} {cs = cs} {arms = arms} d) = does_past spot.frame spot.live (cases (labelled l cs)) (cases cs) (arms_row arms)
        (λ k. refl) (λ k s. refl) (does_cases d)
    does_cases (as_stated {s = spot} {a = s} {cs = cs} {g = g} {arms = arms} d e) =
        does_two spot.frame spot.live spot.live (cases (stated s cs)) (run s) (cases cs) g (arms_row arms) (λ k. refl) (λ k s l. refl) (λ k. refl)
        (λ k. refl) (λ k. refl)
        (length_one (point_at T) may keeps d) (does_one d) (does_cases e)

    pub does_behind : {spot : InlineState} {cs : Cases} {arms : Arms} {q : ℕ} → InlineCases P T spot cs arms q → (l : CaseLabel)
        → Does spot.frame spot.live (cases (cases_after_label l cs)) (row_behind l arms)
    does_behind (as_no_cases {s = spot}) l = does_plain spot.frame spot.live (cases no_cases) empty (λ k. refl)
        (follows_empty spot.frame spot.live (cases no_cases) (λ k s. refl))
    does_behind (as_labelled {s = spot} {l = m} {cs = cs} {arms = arms} d) l = does_by spot.frame spot.live (is_same_case l m) cs (cases_after_label l cs)
        (arms_row arms) (row_behind l arms) (does_cases d) (does_behind d l)
    does_behind (as_stated d e) l = does_behind e l

    pub does_all : {spot : InlineState} {b : BlockItems} {g : Node} {n q : ℕ} → InlineItems P T spot b g n q → Does spot.frame spot.live (all b) g
    does_all (as_none {s = spot}) = does_plain spot.frame spot.live (all no_more) empty (λ k. refl) (follows_empty spot.frame spot.live (all no_more) (λ k s. refl))
    does_all (as_declaration {s = spot} {d = d} {b = b} {g = g} {h = h} i j e) =
        does_two spot.frame spot.live (suc spot.live) (all (declaration d b)) (declare d) (all b) (seq (point spot.next) g) h (λ k. refl) (λ k s l. refl) (λ k. refl)
        (λ k. refl) (λ k. refl) (length_declarator (point_at T) may keeps j)
        (does_point spot d.label (declare d) g i (λ k. refl) (does_declares d j refl)) (does_all e)
    does_all (as_array {s = spot} {at = at} {a = a} {b = b} {h = h} i e) =
        does_two spot.frame spot.live spot.live (all (array at a b)) (declare_array at a) (all b) (seq (point spot.next) (act spot.next (fill a))) h (λ k. refl)
        (λ k s l. refl) (λ k. refl) (λ k. refl) (λ k. refl) (length_array (point_at T) may keeps spot.frame spot.live spot.next a)
        (does_point spot at (declare_array at a) (act spot.next (fill a)) i (λ k. refl)
        (follows_act spot.frame spot.live spot.next (fill a) (declare_array at a) (λ k s. refl))) (does_all e)
    does_all (as_statement {s = spot} {a = s} {b = b} {g = g} {h = h} d e) =
        does_two spot.frame spot.live spot.live (all (statement s b)) (run s) (all b) g h (λ k. refl) (λ k s l. refl) (λ k. refl) (λ k. refl) (λ k. refl)
        (length_one (point_at T) may keeps d)
        (does_one d) (does_all e)

    pub does_declares : {spot : InlineState} {r : ℕ} {o : Option Rvalue} {g : Node} {q : ℕ} (d : Declarator) → InlineDeclarator P T spot r d.number_type o g q →
        d.rvalue ≡ o
        → Follows spot.frame spot.live (declare d) g
    does_declares d (as_fresh {s = spot}) same = follows_act spot.frame spot.live spot.next (append d.number_type) (declare d)
        (λ k s. ap (λ w. do_declare P d.number_type w k spot.frame.here s) same)
    does_declares d (as_given {s = spot} {e = e} {g = g} x) same = follows_given spot d e g same (does_gives x)

    pub does_loops : {spot : InlineState} {r : ℕ} {s : Stmt} {g : Node} {q : ℕ} → InlineLoop P T spot r s g q → Does spot.frame spot.live (run s) g
    does_loops (is_loop {s = spot} {at = at} {c = c} {a = s} {step = step} {g = g} {h = h} i d e) =
        does_loop spot at c s step g h i (does_one e) (does_one d) (length_one (point_at T) may keeps e) (length_one (point_at T) may keeps d)

    pub does_gives : {spot : InlineState} {r : ℕ} {x : Receiver} {e : Rvalue} {g : Node} {q : ℕ} → InlineRvalue P T spot r x e g q →
        GivesDoes spot.frame spot.live x e g
    does_gives (as_value {s = spot} {x = x} {e = e}) = follows_give spot x e
    does_gives (as_result {s = spot} d) = does_calls d (λ es s t o. length_push spot.frame.here.base es s t o)

    pub does_calls : {spot : InlineState} {r : ℕ} {x : Receiver} {gives : List Argument → Op} {c : Call} {g : Node} {q : ℕ} →
        InlineCall P T spot r x gives c g q
        → AddsEach gives → CallDoes spot.frame spot.live x gives c g
    does_calls (is_call {s = spot} {x = x} {gives = gives} {c = c} {fn = fn} {g = g} {n = n'} {q = r'} i j d k) adds =
        does_call spot r' x gives c fn g n' i (adds_given gives fn c adds j) (length_all (point_at T) may keeps d) (grows_all d) k (does_all d)
