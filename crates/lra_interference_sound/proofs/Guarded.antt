-- A called function's end stands nowhere but after the end of its body, so it is on top only after that point.
use Rattle.std.proofs.Common.{◌≡◌, ℕ, zero, suc, ℤ, List, [], ◌∷◌, length, Option, Some, None, Bool, true, false, ◌⊎◌, inl, inr, refl, sym, subst}
use Rattle.std.proofs.lemmas.Option.{same_Some, none-some}
use Rattle.std.specs.Prelude.{⊤, slice_get}
use Rattle.lra_interference_sound.specs.Crates.lra_program.Program.{Element, Call, Rvalue, value, result, Stmt, absent, nothing, block, assign, write, call, if, loop, for, break, continue, return}
use Rattle.lra_interference_sound.specs.Crates.lra_program.Program.{assert, assume, switch, Cases, no_cases, labelled, stated, no_more, declaration, array, statement, Function, Program}
use Rattle.lra_interference_sound.specs.Crates.lra_program.Receivers.{variable_at, waiting_in, nobody}
use Rattle.lra_interference_sound.specs.Crates.lra_program.Step.{State, environment_at, Op, append, fill, store_value, store_element, push, push_for, truncate_to, test, run_any, run_op, CallContext}
use Rattle.lra_interference_sound.specs.Crates.lra_program.Step.{ReturnFrame, Item, run, declare, declare_array, all, end_of, next_round, cases, end_switch, end_for, return_frame, leave_call, Config}
use Rattle.lra_interference_sound.specs.Crates.lra_program.Step.{BreakTarget, break_target, ContinueTarget, continue_target, ReturnTarget, return_target, receiver_of, go, go_by, go_on, arguments_for}
use Rattle.lra_interference_sound.specs.Crates.lra_program.Step.{enter_by, do_rvalue, do_write, do_break, do_continue, do_leave, do_return, do_switch, chosen, do_stmt, do_declare, next_at}
use Rattle.lra_interference_sound.specs.Crates.lra_program.Traces.{TraceEvent, with_visit, Becomes, TracedSteps}
use Rattle.lra_interference_sound.specs.Crates.lra_program.Value.{index_of, Drawn, value_of, Argument, truth_of}
use Rattle.lra_interference_sound.specs.Crates.{lra_base.declared.number_types.NumberType.NumberType, lra_program.Run.label_on, lra_program.Run.Point, lra_program.declared.receivers.Receiver.Receiver}
use Rattle.lra_inline_sound.proofs.Landing.{IsBare}

abbrev pub IsGuarded : List Item → Type 0
IsGuarded [] = ⊤
IsGuarded (run a ∷ k) = IsBare k × IsGuarded k
IsGuarded (declare d ∷ k) = IsBare k × IsGuarded k
IsGuarded (declare_array at a ∷ k) = IsBare k × IsGuarded k
IsGuarded (all a ∷ k) = IsBare k × IsGuarded k
IsGuarded (end_of at n ∷ k) = IsGuarded k
IsGuarded (next_round step again n ∷ k) = IsBare k × IsGuarded k
IsGuarded (cases cs ∷ k) = IsBare k × IsGuarded k
IsGuarded (end_switch n ∷ k) = IsBare k × IsGuarded k
IsGuarded (end_for n ∷ k) = IsBare k × IsGuarded k
IsGuarded (return_frame b ∷ k) = IsBare k × IsGuarded k
IsGuarded (leave_call ∷ k) = IsBare k × IsGuarded k

abbrev IsOk : Config → Type 0
IsOk e = IsBare e.items × IsGuarded e.items

landed : (k : List Item) (h : CallContext) (o : Option State) (e : Config) → IsBare k × IsGuarded k → go k h o ≡ Some e → IsOk e
landed k h None e g i = absurd (none-some e i)
landed k h (Some s) e g i = subst IsOk (same_Some (record { items = k; here = h; state = s }) e i) g

entered : (gives : List Argument → Op) (o : Option Function) (c : Call) (x : Receiver) (k : List Item) (h : CallContext) (s : State) (e : Config)
    → IsBare k × IsGuarded k
    → enter_by gives o c x k h s ≡ Some e → IsOk e
entered gives None c x k h s e g i = absurd (none-some e i)
entered gives (Some f) c x k h s e g i = landed _ _ (run_op (gives (arguments_for f.parameters c.arguments)) s) e (tt, (tt, g)) i

abbrev IsCall : Option ReturnTarget → Type 0
IsCall None = ⊤
IsCall (Some m) = IsBare m.rest × IsGuarded m.rest

to_call : (k : List Item) → IsGuarded k → IsCall (return_target k)
to_call [] g = tt
to_call (run a ∷ k) g = to_call k g.1
to_call (declare d ∷ k) g = to_call k g.1
to_call (declare_array at a ∷ k) g = to_call k g.1
to_call (all a ∷ k) g = to_call k g.1
to_call (end_of at n ∷ k) g = to_call k g
to_call (next_round step again n ∷ k) g = to_call k g.1
to_call (cases cs ∷ k) g = to_call k g.1
to_call (end_switch n ∷ k) g = to_call k g.1
to_call (end_for n ∷ k) g = to_call k g.1
to_call (return_frame b ∷ k) g = g
to_call (leave_call ∷ k) g = to_call k g.1

behind_call : (b : ReturnFrame) (k : List Item) (o : Option State) (e : Config) → IsBare k × IsGuarded k
    → go_on o (λ t. go k b.here (run_op (truncate_to b.length) t)) ≡ Some e → IsOk e
behind_call b k None e g i = absurd (none-some e i)
behind_call b k (Some t) e g i = landed k b.here (run_op (truncate_to b.length) t) e g i

left : (m : Option ReturnTarget) (o : Option State) (e : Config) → IsCall m → do_leave m o ≡ Some e → IsOk e
left None o e g i = absurd (none-some e i)
left (Some m) o e g i = behind_call m.back m.rest o e g i

abbrev IsOut : Option BreakTarget → Type 0
IsOut None = ⊤
IsOut (Some m) = IsBare m.rest × IsGuarded m.rest

to_out : (k : List Item) → IsGuarded k → IsOut (break_target k)
to_out [] g = tt
to_out (run a ∷ k) g = to_out k g.1
to_out (declare d ∷ k) g = to_out k g.1
to_out (declare_array at a ∷ k) g = to_out k g.1
to_out (all a ∷ k) g = to_out k g.1
to_out (end_of at n ∷ k) g = to_out k g
to_out (next_round step again n ∷ k) g = g
to_out (cases cs ∷ k) g = to_out k g.1
to_out (end_switch n ∷ k) g = g
to_out (end_for n ∷ k) g = to_out k g.1
to_out (return_frame b ∷ k) g = tt
to_out (leave_call ∷ k) g = to_out k g.1

abbrev IsTurn : Option ContinueTarget → Type 0
IsTurn None = ⊤
IsTurn (Some m) = IsBare m.rest × IsGuarded m.rest

to_next : (k : List Item) → IsGuarded k → IsTurn (continue_target k)
to_next [] g = tt
to_next (run a ∷ k) g = to_next k g.1
to_next (declare d ∷ k) g = to_next k g.1
to_next (declare_array at a ∷ k) g = to_next k g.1
to_next (all a ∷ k) g = to_next k g.1
to_next (end_of at n ∷ k) g = to_next k g
to_next (next_round step again n ∷ k) g = g
to_next (cases cs ∷ k) g = to_next k g.1
to_next (end_switch n ∷ k) g = to_next k g.1
to_next (end_for n ∷ k) g = to_next k g.1
to_next (return_frame b ∷ k) g = tt
to_next (leave_call ∷ k) g = to_next k g.1

broken : (o : Option BreakTarget) (h : CallContext) (s : State) (e : Config) → IsOut o → do_break o h s ≡ Some e → IsOk e
broken None h s e g i = absurd (none-some e i)
broken (Some m) h s e g i = landed m.rest h (run_op (truncate_to m.length) s) e g i

continued : (o : Option ContinueTarget) (h : CallContext) (s : State) (e : Config) → IsTurn o → do_continue o h s ≡ Some e → IsOk e
continued None h s e g i = absurd (none-some e i)
continued (Some m) h s e g i = landed (next_round m.step m.again m.length ∷ m.rest) h (run_op (truncate_to m.length) s) e (tt, g) i

branched : (on off : List Item) (h : CallContext) (s : State) (v : Drawn Bool) (e : Config) → IsBare on × IsGuarded on → IsBare off × IsGuarded off
    → go_by on off h s v ≡ Some e → IsOk e
branched on off h s None e g f i = absurd (none-some e i)
branched on off h s (Some (true, left)) e g f i = landed on h (Some (record s { draws = left })) e g i
branched on off h s (Some (false, left)) e g f i = landed off h (Some (record s { draws = left })) e f i

switched : (cs : Cases) (k : List Item) (h : CallContext) (s : State) (v : Drawn ℤ) (e : Config) → IsBare k × IsGuarded k → do_switch cs k h s v ≡ Some e →
    IsOk e
switched cs k h s None e g i = absurd (none-some e i)
switched cs k h s (Some r) e g i = landed (cases (chosen r.0 cs) ∷ end_switch (length s.store) ∷ k) h (Some (record s { draws = r.1 })) e (tt, (tt, g)) i

module _ (P : Program) where
  rvalue : (x : Receiver) (v : Rvalue) (k : List Item) (h : CallContext) (s : State) (e : Config) → IsBare k × IsGuarded k → do_rvalue P x v k h s ≡ Some e →
      IsOk e
  rvalue x (value w) k h s e g i = landed k h (run_op (store_value h.base x w) s) e g i
  rvalue x (result c) k h s e g i = entered (push h.base) (slice_get P.functions c.function) c x k h s e g i

  written : (x : Element) (v : Rvalue) (k : List Item) (h : CallContext) (s : State) (e : Config) → IsBare k × IsGuarded k → do_write P x v k h s ≡ Some e →
      IsOk e
  written x (value w) k h s e g i = landed k h (run_op (store_element h.base x w) s) e g i
  written x (result c) k h s e g i = entered (push_for h.base x) (slice_get P.functions c.function) c (waiting_in x.array) k h s e g i

  returned : (v : Option Rvalue) (k : List Item) (h : CallContext) (s : State) (e : Config) → IsBare k × IsGuarded k → do_return P v k h s ≡ Some e → IsOk e
  returned None k h s e g i = left (return_target k) (run_any (receiver_of P (return_target k)) s) e (to_call k g.1) i
  returned (Some (value w)) k h s e g i = left (return_target k) (run_op (store_value h.base (receiver_of P (return_target k)) w) s) e (to_call k g.1) i
  returned (Some (result c)) k h s e g i = rvalue (receiver_of P (return_target k)) (result c) (leave_call ∷ k) h s e (tt, g) i

  behind_new : (x : Receiver) (v : Rvalue) (k : List Item) (h : CallContext) (o : Option State) (e : Config) → IsBare k × IsGuarded k
      → go_on o (do_rvalue P x v k h) ≡ Some e → IsOk e
  behind_new x v k h None e g i = absurd (none-some e i)
  behind_new x v k h (Some m) e g i = rvalue x v k h m e g i

  declared : (t : NumberType) (v : Option Rvalue) (k : List Item) (h : CallContext) (s : State) (e : Config) → IsBare k × IsGuarded k
      → do_declare P t v k h s ≡ Some e → IsOk e
  declared t None k h s e g i = landed k h (run_op (append t) s) e g i
  declared t (Some v) k h s e g i = behind_new (variable_at (length s.store) t) v k h (run_op (append t) s) e g i

  stepped : (a : Stmt) (k : List Item) (h : CallContext) (s : State) (e : Config) → IsBare k × IsGuarded k → do_stmt P a k h s ≡ Some e → IsOk e
  stepped absent k h s e g i = landed k h (Some s) e g i
  stepped (nothing at) k h s e g i = landed k h (Some s) e g i
  stepped (block body end) k h s e g i = landed (all body ∷ end_of end (length s.store) ∷ k) h (Some s) e (tt, (tt, g.1)) i
  stepped (assign at x v) k h s e g i = rvalue (variable_at (index_of h.base x.slot) x.number_type) v k h s e g i
  stepped (write at x v) k h s e g i = written x v k h s e g i
  stepped (call at c) k h s e g i = rvalue nobody (result c) k h s e g i
  stepped (if at c a b) k h s e g i = branched (run a ∷ k) (run b ∷ k) h s (truth_of c (environment_at h.base s) s.draws) e (tt, g) (tt, g) i
  stepped (loop at c a step) k h s e g i =
      branched (run a ∷ next_round step (loop at c a step) (length s.store) ∷ k) k h s (truth_of c (environment_at h.base s) s.draws) e (tt, (tt, g)) g i
  stepped (for at init c a step) k h s e g i = landed (all init ∷ run (loop at c a step) ∷ end_for (length s.store) ∷ k) h (Some s) e (tt, (tt, (tt, g))) i
  stepped (break at) k h s e g i = broken (break_target k) h s e (to_out k g.1) i
  stepped (continue at) k h s e g i = continued (continue_target k) h s e (to_next k g.1) i
  stepped (return at v) k h s e g i = returned v k h s e g i
  stepped (assert at c) k h s e g i = landed k h (run_op (test h.base c true) s) e g i
  stepped (assume at c) k h s e g i = landed k h (run_op (test h.base c true) s) e g i
  stepped (switch at v cs) k h s e g i = switched cs k h s (value_of v (environment_at h.base s) s.draws) e g i

  -- what is on top after a step is no function's end, but after the end of a block
  pub record FromEnd (k : List Item) (h : CallContext) (s : State) (e : Config) : Type 0 where
    pub label : ℕ
    pub kept : ℕ
    pub items : k ≡ end_of label kept ∷ e.items
    pub here : e.here ≡ h
    pub cuts : run_op (truncate_to kept) s ≡ Some e.state

  abbrev Goes : List Item → CallContext → State → Config → Type 0
  Goes k h s e = IsGuarded e.items × (IsBare e.items ⊎ FromEnd k h s e)

  ok : (k : List Item) (h : CallContext) (s : State) (e : Config) → IsOk e → Goes k h s e
  ok k h s e g = (g.1, inl g.0)

  from_end : (at n : ℕ) (k : List Item) (h : CallContext) (s : State) (e : Config) → IsGuarded k → go k h (run_op (truncate_to n) s) ≡ Some e →
      Goes (end_of at n ∷ k) h s e
  from_end at n k h s e g i = subst (λ (d : Config). Goes (end_of at n ∷ k) h s d) (same_Some _ e i)
      (g, inr (record { label = at; kept = n; items = refl; here = refl; cuts = refl }))

  pub guarded_step : (k : List Item) (h : CallContext) (s : State) (e : Config) → IsGuarded k → next_at P k h s ≡ Some e → Goes k h s e
  guarded_step [] h s e g i = absurd (none-some e i)
  guarded_step (run a ∷ k) h s e g i = ok (run a ∷ k) h s e (stepped a k h s e g i)
  guarded_step (declare d ∷ k) h s e g i = ok (declare d ∷ k) h s e (declared d.number_type d.rvalue k h s e g i)
  guarded_step (declare_array at a ∷ k) h s e g i = ok (declare_array at a ∷ k) h s e (landed k h (run_op (fill a) s) e g i)
  guarded_step (all no_more ∷ k) h s e g i = ok (all no_more ∷ k) h s e (landed k h (Some s) e g i)
  guarded_step (all (declaration d b) ∷ k) h s e g i = ok (all (declaration d b) ∷ k) h s e (landed (declare d ∷ all b ∷ k) h (Some s) e (tt, (tt, g)) i)
  guarded_step (all (array at a b) ∷ k) h s e g i = ok (all (array at a b) ∷ k) h s e (landed (declare_array at a ∷ all b ∷ k) h (Some s) e (tt, (tt, g)) i)
  guarded_step (all (statement a b) ∷ k) h s e g i = ok (all (statement a b) ∷ k) h s e (landed (run a ∷ all b ∷ k) h (Some s) e (tt, (tt, g)) i)
  guarded_step (end_of at n ∷ k) h s e g i = from_end at n k h s e g i
  guarded_step (next_round step again n ∷ k) h s e g i = ok (next_round step again n ∷ k) h s e (landed (run step ∷ run again ∷ k) h (Some s) e (tt, (tt, g)) i)
  guarded_step (cases no_cases ∷ k) h s e g i = ok (cases no_cases ∷ k) h s e (landed k h (Some s) e g i)
  guarded_step (cases (labelled l cs) ∷ k) h s e g i = ok (cases (labelled l cs) ∷ k) h s e (landed (cases cs ∷ k) h (Some s) e (tt, g) i)
  guarded_step (cases (stated a cs) ∷ k) h s e g i = ok (cases (stated a cs) ∷ k) h s e (landed (run a ∷ cases cs ∷ k) h (Some s) e (tt, (tt, g)) i)
  guarded_step (end_switch n ∷ k) h s e g i = ok (end_switch n ∷ k) h s e (landed k h (Some s) e g i)
  guarded_step (end_for n ∷ k) h s e g i = ok (end_for n ∷ k) h s e (landed k h (run_op (truncate_to n) s) e g i)
  guarded_step (return_frame b ∷ k) h s e g i = ok (return_frame b ∷ k) h s e (behind_call b k (run_any b.receiver s) e g i)
  guarded_step (leave_call ∷ k) h s e g i = ok (leave_call ∷ k) h s e (left (return_target k) (Some s) e (to_call k g.1) i)

  -- the last step of a walk to a function's end
  pub record BehindEnd (may : State → State → Type 0) (c : Config) (xs : List (TraceEvent Point)) (d : Config) (ys : List (TraceEvent Point)) : Type 0 where
    pub steps : ℕ
    pub there : Config
    pub before : List (TraceEvent Point)
    pub walk : TracedSteps may P steps c xs there before
    pub past : State
    pub changed : Becomes may (label_on there.items) there.state past
    pub from : FromEnd there.items there.here past d
    pub met : ys ≡ with_visit (label_on there.items) there.here.path there.state before

  abbrev pub Ends : (may : State → State → Type 0) → Config → List (TraceEvent Point) → Config → List (TraceEvent Point) → Type 0
  Ends may c xs d ys = ((c ≡ d) × (xs ≡ ys)) ⊎ BehindEnd may c xs d ys

  pub behind_end : (may : State → State → Type 0) (n : ℕ) (c d : Config) (xs ys : List (TraceEvent Point)) → IsGuarded c.items → (IsBare d.items → ⊥)
      → TracedSteps may P n c xs d ys
      → Ends may c xs d ys
  behind_end may zero c d xs ys g covered w = inl w
  behind_end may (suc n) c d xs ys g covered (s, e, b, x, w) =
      by (behind_end may n e d (with_visit (label_on c.items) c.here.path c.state xs) ys one.0 covered w)
    where
      one : Goes c.items c.here s e
      one = guarded_step c.items c.here s e g x

      last : e ≡ d → IsBare e.items ⊎ FromEnd c.items c.here s e → FromEnd c.items c.here s d
      last same (inl bare) = absurd (covered (subst (λ (f : Config). IsBare f.items) same bare))
      last same (inr from) = subst (λ (f : Config). FromEnd c.items c.here s f) same from

      by : Ends may e (with_visit (label_on c.items) c.here.path c.state xs) d ys → Ends may c xs d ys
      by (inl (same, met)) = inr (record {
        steps = 0;
        there = c;
        before = xs;
        walk = (refl, refl);
        past = s;
        changed = b;
        from = last same one.1;
        met =
            sym met;
      })
      by (inr r) = inr (record {
        steps = suc r.steps;
        there = r.there;
        before = r.before;
        walk = (s, e, b, x, r.walk);
        past = r.past;
        changed = r.changed;
        from = r.from;
        met = r.met;
      })
