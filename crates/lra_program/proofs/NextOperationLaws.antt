-- If no step follows, the operation that is asked ends the run, or something ends it of which nothing is asked.
use Rattle.std.proofs.Common.{◌≡◌, List, [], ◌∷◌, length, Option, Some, None, Bool, true, refl, inl, inr}
use Rattle.std.specs.Prelude.{◌⊎◌, ℤ, slice_get}
use Rattle.lra_base.specs.declared.number_types.NumberType.{NumberType}
use Rattle.lra_program.specs.NextOperation.{RvalueOpIs, WriteOpIs, ReturnOpIs, DeclaratorOpIs, StmtOpIs, Ends, LacksCallee, ReturnEnds, DeclaredEnds, EndsOtherwise, EndsAreByNextOp}
use Rattle.lra_program.specs.Program.{Element, Call, Rvalue, value, result, Stmt, absent, nothing, block, assign, write, call, if, loop, for, break, continue, return, assert, assume, switch, Cases}
use Rattle.lra_program.specs.Program.{no_cases, labelled, stated, no_more, declaration, array, statement, Function, Program}
use Rattle.lra_program.specs.Step.{State, environment_at, Op, append, fill, store_value, store_element, push, push_for, truncate_to, test, receive, tested, run_any, run_op, CallContext, ReturnFrame}
use Rattle.lra_program.specs.Step.{Item, run, declare, declare_array, all, end_of, next_round, cases, end_switch, end_for, return_frame, leave_call, BreakTarget, break_target, ContinueTarget}
use Rattle.lra_program.specs.Step.{continue_target, ReturnTarget, return_target, receiver_of, go, go_by, go_on, arguments_for, enter_by, do_rvalue, do_write, do_break, do_continue, do_leave}
use Rattle.lra_program.specs.Value.{index_of, Drawn, value_of, Argument, truth_of}
use Rattle.lra_program.specs.{Receivers.variable_at, Receivers.waiting_in, Receivers.nobody, Step.do_return, Step.do_switch, Step.do_stmt, Step.do_declare, declared.receivers.Receiver.Receiver}

-- in each of these no step follows only if what is done has no state -------------------------------------------------

undone : (k : List Item) (h : CallContext) (o : Option State) → go k h o ≡ None → o ≡ None
undone k h None e = refl
undone k h (Some s) e = absurd cc

untested : (on off : List Item) (h : CallContext) (s : State) (o : Drawn Bool) → go_by on off h s o ≡ None → tested true s o ≡ None
untested on off h s None e = refl
untested on off h s (Some r) e = absurd cc

unswitched : (cs : Cases) (k : List Item) (h : CallContext) (s : State) (o : Drawn ℤ) → do_switch cs k h s o ≡ None → receive nobody s o ≡ None
unswitched cs k h s None e = refl
unswitched cs k h s (Some r) e = absurd cc

unbroken : (o : Option BreakTarget) (h : CallContext) (s : State) → do_break o h s ≡ None → o ≡ None
unbroken None h s e = refl
unbroken (Some t) h s e = absurd cc

unturned : (o : Option ContinueTarget) (h : CallContext) (s : State) → do_continue o h s ≡ None → o ≡ None
unturned None h s e = refl
unturned (Some t) h s e = absurd cc

unmarked : (k : List Item) (b : ReturnFrame) (o : Option State) → go_on o (λ t. go k b.here (run_op (truncate_to b.length) t)) ≡ None → o ≡ None
unmarked k b None e = refl
unmarked k b (Some t) e = absurd cc

no_caller : (m : Option ReturnTarget) (s : State) → do_leave m (Some s) ≡ None → m ≡ None
no_caller None s e = refl
no_caller (Some m) s e = absurd cc

unleft : (m : Option ReturnTarget) (o : Option State) → do_leave m o ≡ None → (o ≡ None) ⊎ (m ≡ None)
unleft m None e = inl refl
unleft m (Some t) e = inr (no_caller m t e)

-- calls and what is given --------------------------------------------------------------------------------------------

uncalled : (gives : List Argument → Op) (o : Option Function) (c : Call) (x : Receiver) (k : List Item) (h : CallContext) (s : State) →
    enter_by gives o c x k h s ≡ None → ((f : Function) × (o ≡ Some f) × Ends (gives (arguments_for f.parameters c.arguments)) s) ⊎ (o ≡ None)
uncalled gives None c x k h s e = inr refl
uncalled gives (Some f) c x k h s e = inl (f, refl, undone _ _ (run_op (gives (arguments_for f.parameters c.arguments)) s) e)

module _ (P : Program) where
  ungiven : (x : Receiver) (e : Rvalue) (k : List Item) (h : CallContext) (s : State) → do_rvalue P x e k h s ≡ None →
      RvalueOpIs Ends P x e h s ⊎ LacksCallee P e
  ungiven x (value e) k h s is = inl (undone k h (run_op (store_value h.base x e) s) is)
  ungiven x (result c) k h s is = uncalled (push h.base) (slice_get P.functions c.function) c x k h s is

  unwritten : (x : Element) (e : Rvalue) (k : List Item) (h : CallContext) (s : State) → do_write P x e k h s ≡ None →
      WriteOpIs Ends P x e h s ⊎ LacksCallee P e
  unwritten x (value e) k h s is = inl (undone k h (run_op (store_element h.base x e) s) is)
  unwritten x (result c) k h s is = uncalled (push_for h.base x) (slice_get P.functions c.function) c (waiting_in x.array) k h s is

  unreturned : (e : Option Rvalue) (k : List Item) (h : CallContext) (s : State) → do_return P e k h s ≡ None → ReturnOpIs Ends P e k h s ⊎ ReturnEnds P e k s
  unreturned None k h s is = inr (unleft (return_target k) (run_any (receiver_of P (return_target k)) s) is)
  unreturned (Some (value e)) k h s is = unleft (return_target k) (run_op (store_value h.base (receiver_of P (return_target k)) e) s) is
  unreturned (Some (result c)) k h s is = ungiven (receiver_of P (return_target k)) (result c) (leave_call ∷ k) h s is

  behind_new : (x : Receiver) (e : Rvalue) (k : List Item) (h : CallContext) (o : Option State) → go_on o (do_rvalue P x e k h) ≡ None →
      ((m : State) × (o ≡ Some m) × RvalueOpIs Ends P x e h m) ⊎ ((o ≡ None) ⊎ LacksCallee P e)
  behind_new x e k h None is = inr (inl refl)
  behind_new x e k h (Some m) is = elim (ungiven x e k h m is) [ inl asked ↦ inl (m, refl, asked) | inr lacks ↦ inr (inr lacks) ]

  undeclared : (t : NumberType) (e : Option Rvalue) (k : List Item) (h : CallContext) (s : State) → do_declare P t e k h s ≡ None →
      DeclaratorOpIs Ends P t e h s ⊎ DeclaredEnds P t e s
  undeclared t None k h s is = inr (undone k h (run_op (append t) s) is)
  undeclared t (Some e) k h s is = behind_new (variable_at (length s.store) t) e k h (run_op (append t) s) is

  unstated : (a : Stmt) (k : List Item) (h : CallContext) (s : State) → do_stmt P a k h s ≡ None → StmtOpIs Ends P a k h s ⊎ EndsOtherwise P (run a ∷ k) s
  unstated absent k h s is = absurd cc
  unstated (nothing at) k h s is = absurd cc
  unstated (block body end) k h s is = absurd cc
  unstated (assign at x e) k h s is = ungiven (variable_at (index_of h.base x.slot) x.number_type) e k h s is
  unstated (write at x e) k h s is = unwritten x e k h s is
  unstated (call at c) k h s is = ungiven nobody (result c) k h s is
  unstated (if at c a b) k h s is = inl (untested (run a ∷ k) (run b ∷ k) h s (truth_of c (environment_at h.base s) s.draws) is)
  unstated (loop at c a step) k h s is =
      inl (untested (run a ∷ next_round step (loop at c a step) (length s.store) ∷ k) k h s (truth_of c (environment_at h.base s) s.draws) is)
  unstated (for at init c a step) k h s is = absurd cc
  unstated (break at) k h s is = inr (unbroken (break_target k) h s is)
  unstated (continue at) k h s is = inr (unturned (continue_target k) h s is)
  unstated (return at e) k h s is = unreturned e k h s is
  unstated (assert at c) k h s is = inl (undone k h (run_op (test h.base c true) s) is)
  unstated (assume at c) k h s is = inl (undone k h (run_op (test h.base c true) s) is)
  unstated (switch at e cs) k h s is = inl (unswitched cs k h s (value_of e (environment_at h.base s) s.draws) is)

pub ends_are_asked : EndsAreByNextOp
ends_are_asked P [] h s is = inr tt
ends_are_asked P (run a ∷ k) h s is = unstated P a k h s is
ends_are_asked P (declare d ∷ k) h s is = undeclared P d.number_type d.rvalue k h s is
ends_are_asked P (declare_array at a ∷ k) h s is = inr (undone k h (run_op (fill a) s) is)
ends_are_asked P (all no_more ∷ k) h s is = absurd cc
ends_are_asked P (all (declaration d b) ∷ k) h s is = absurd cc
ends_are_asked P (all (array at a b) ∷ k) h s is = absurd cc
ends_are_asked P (all (statement a b) ∷ k) h s is = absurd cc
ends_are_asked P (end_of at n ∷ k) h s is = absurd cc
ends_are_asked P (next_round step again n ∷ k) h s is = absurd cc
ends_are_asked P (cases no_cases ∷ k) h s is = absurd cc
ends_are_asked P (cases (labelled l cs) ∷ k) h s is = absurd cc
ends_are_asked P (cases (stated a cs) ∷ k) h s is = absurd cc
ends_are_asked P (end_switch n ∷ k) h s is = absurd cc
ends_are_asked P (end_for n ∷ k) h s is = absurd cc
ends_are_asked P (return_frame b ∷ k) h s is = inr (unmarked k b (run_any b.receiver s) is)
ends_are_asked P (leave_call ∷ k) h s is = inr (no_caller (return_target k) s is)
