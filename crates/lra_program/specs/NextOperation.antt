-- By which operation a run goes on if an item is on top, so far as it may compute something or access an array:
-- what is asked of it, and of the state before it; and that a run that ends there ends by it.
use Rattle.std.specs.Prelude.{◌≡◌, ◌⊎◌, List, [], ◌∷◌, length, Option, None, Some, true, slice_get, ⊤}
use Rattle.lra_base.specs.declared.number_types.NumberType.{NumberType}
use Rattle.lra_program.specs.Program.{Element, Call, Rvalue, value, result, Stmt, absent, nothing, block, assign, write}
use Rattle.lra_program.specs.Program.{call, if, loop, for, break, continue, return, assert, assume, switch, Function}
use Rattle.lra_program.specs.Receivers.{variable_at, nobody}
use Rattle.lra_program.specs.Step.{State, Op, append, fill, store_value, store_element, push, push_for, test, run_op}
use Rattle.lra_program.specs.Step.{CallContext, Item, run, declare, declare_array, all, end_of, next_round, cases}
use Rattle.lra_program.specs.Step.{end_switch, end_for, return_frame, leave_call, break_target, continue_target}
use Rattle.lra_program.specs.Step.{return_target, receiver_of, run_any, arguments_for, next_at}
use Rattle.lra_program.specs.{Program.Program, Value.index_of, Value.Argument, declared.receivers.Receiver.Receiver}

module _ (Q : Op → State → Type 0) (P : Program) where
  -- of what a call gives to its callee's parameters
  abbrev pub CallOpIs : (List Argument → Op) → Call → State → Type 0
  CallOpIs gives c s = (f : Function) × (slice_get P.functions c.function ≡ Some f) ×
      Q (gives (arguments_for f.parameters c.arguments)) s

  abbrev pub RvalueOpIs : Receiver → Rvalue → CallContext → State → Type 0
  RvalueOpIs x (value e) h s = Q (store_value h.base x e) s
  RvalueOpIs x (result c) h s = CallOpIs (push h.base) c s

  abbrev pub WriteOpIs : Element → Rvalue → CallContext → State → Type 0
  WriteOpIs x (value e) h s = Q (store_element h.base x e) s
  WriteOpIs x (result c) h s = CallOpIs (push_for h.base x) c s

  abbrev pub ReturnOpIs : Option Rvalue → List Item → CallContext → State → Type 0
  ReturnOpIs None k h s = ⊥
  ReturnOpIs (Some e) k h s = RvalueOpIs (receiver_of P (return_target k)) e h s

  -- after the new variable
  abbrev pub DeclaratorOpIs : NumberType → Option Rvalue → CallContext → State → Type 0
  DeclaratorOpIs t None h s = ⊥
  DeclaratorOpIs t (Some e) h s = (m : State) × (run_op (append t) s ≡ Some m) ×
      RvalueOpIs (variable_at (length s.store) t) e h m

  -- of a condition it is asked once, whichever side goes on; a value that is looked for goes to no receiver
  abbrev pub StmtOpIs : Stmt → List Item → CallContext → State → Type 0
  StmtOpIs absent k h s = ⊥
  StmtOpIs (nothing at) k h s = ⊥
  StmtOpIs (block body end) k h s = ⊥
  StmtOpIs (assign at x e) k h s = RvalueOpIs (variable_at (index_of h.base x.slot) x.number_type) e h s
  StmtOpIs (write at x e) k h s = WriteOpIs x e h s
  StmtOpIs (call at c) k h s = CallOpIs (push h.base) c s
  StmtOpIs (if at c a b) k h s = Q (test h.base c true) s
  StmtOpIs (loop at c a step) k h s = Q (test h.base c true) s
  StmtOpIs (for at init c a step) k h s = ⊥
  StmtOpIs (break at) k h s = ⊥
  StmtOpIs (continue at) k h s = ⊥
  StmtOpIs (return at e) k h s = ReturnOpIs e k h s
  StmtOpIs (assert at c) k h s = Q (test h.base c true) s
  StmtOpIs (assume at c) k h s = Q (test h.base c true) s
  StmtOpIs (switch at e cs) k h s = Q (store_value h.base nobody e) s

  -- of what is on top
  abbrev pub NextOpIs : List Item → CallContext → State → Type 0
  NextOpIs [] h s = ⊥
  NextOpIs (run a ∷ k) h s = StmtOpIs a k h s
  NextOpIs (declare d ∷ k) h s = DeclaratorOpIs d.number_type d.rvalue h s
  NextOpIs (declare_array at a ∷ k) h s = ⊥
  NextOpIs (all a ∷ k) h s = ⊥
  NextOpIs (end_of at n ∷ k) h s = ⊥
  NextOpIs (next_round step again n ∷ k) h s = ⊥
  NextOpIs (cases cs ∷ k) h s = ⊥
  NextOpIs (end_switch n ∷ k) h s = ⊥
  NextOpIs (end_for n ∷ k) h s = ⊥
  NextOpIs (return_frame b ∷ k) h s = ⊥
  NextOpIs (leave_call ∷ k) h s = ⊥

-- where a run ends ---------------------------------------------------------------------------------------------------

abbrev pub Ends : Op → State → Type 0
Ends op s = run_op op s ≡ None

-- the function that is called isn't there
abbrev pub LacksCallee : Program → Rvalue → Type 0
LacksCallee P (value e) = ⊥
LacksCallee P (result c) = slice_get P.functions c.function ≡ None

-- there is no draw for a value that isn't given, or none of its type; or `main` returns
abbrev pub ReturnEnds : Program → Option Rvalue → List Item → State → Type 0
ReturnEnds P None k s = (run_any (receiver_of P (return_target k)) s ≡ None) ⊎ (return_target k ≡ None)
ReturnEnds P (Some (value e)) k s = return_target k ≡ None
ReturnEnds P (Some (result c)) k s = LacksCallee P (result c)

-- there is no draw for the new variable, or none of its type
abbrev pub DeclaredEnds : Program → NumberType → Option Rvalue → State → Type 0
DeclaredEnds P t None s = Ends (append t) s
DeclaredEnds P t (Some e) s = Ends (append t) s ⊎ LacksCallee P e

-- a run may end by something of which nothing is asked: nothing is left to do, a draw or a callee isn't there, `main`
-- returns, or there is nothing to leave
abbrev pub EndsOtherwise : Program → List Item → State → Type 0
EndsOtherwise P [] s = ⊤
EndsOtherwise P (run (assign at x e) ∷ k) s = LacksCallee P e
EndsOtherwise P (run (write at x e) ∷ k) s = LacksCallee P e
EndsOtherwise P (run (call at c) ∷ k) s = LacksCallee P (result c)
EndsOtherwise P (run (break at) ∷ k) s = break_target k ≡ None
EndsOtherwise P (run (continue at) ∷ k) s = continue_target k ≡ None
EndsOtherwise P (run (return at e) ∷ k) s = ReturnEnds P e k s
EndsOtherwise P (declare d ∷ k) s = DeclaredEnds P d.number_type d.rvalue s
EndsOtherwise P (declare_array at a ∷ k) s = Ends (fill a) s
EndsOtherwise P (return_frame b ∷ k) s = run_any b.receiver s ≡ None
EndsOtherwise P (leave_call ∷ k) s = return_target k ≡ None
EndsOtherwise P k s = ⊥

-- else, if no step follows, the operation that is asked ends the run
abbrev pub EndsAreByNextOp : Type 0
EndsAreByNextOp = (P : Program) (k : List Item) (h : CallContext) (s : State) → next_at P k h s ≡ None →
    NextOpIs Ends P k h s ⊎ EndsOtherwise P k s
