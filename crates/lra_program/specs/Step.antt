-- One step of a run. A configuration is a list of pending items, the call that runs, and a state; the top item decides,
-- and exactly one case applies to it. The step is a function, since a state holds the draws that are left.
use Rattle.std.specs.Prelude.{ℕ, ◌+◌, ℤ, List, [], ◌∷◌, ◌++◌, length, take, Option, Some, None, Bool, true, false}
use Rattle.std.specs.Prelude.{slice_get, slice_set, cond}
use Rattle.lra_program.specs.Arrays.{Contents, place_among, with_element}
use Rattle.lra_program.specs.Program.{Expr, Element, Cond, Call, Rvalue, value, result, Declarator, Stmt, absent}
use Rattle.lra_program.specs.Program.{nothing, block, assign, write, call, if, loop, for, break, continue, return}
use Rattle.lra_program.specs.Program.{assert, assume, switch, Cases, no_cases, labelled, stated, labels_of, BlockItems}
use Rattle.lra_program.specs.Program.{no_more, declaration, array, statement, Function, Program}
use Rattle.lra_program.specs.Receivers.{variable_at, waiting_in, nobody, result_receiver, accepts}
use Rattle.lra_program.specs.Value.{◌>>=◌, number, index_of, Environment, Drawn, first_draw, draws_of, value_of}
use Rattle.lra_program.specs.Value.{Argument, values_of, truth_of}
use Rattle.lra_program.specs.declared.receivers.Cell.TheVariants.{Variable, Waiting}
use Rattle.lra_program.specs.{declared.arrays.Array.Array, declared.receivers.Cell.Cell}
use Rattle.lra_program.specs.{declared.receivers.Receiver.Receiver, declared.receivers.Target.Target}
use Rattle.lra_base.specs.{CaseLabels.is_same_case, CaseLabels.goal_of, declared.case_labels.CaseLabel.CaseLabel}
use Rattle.lra_base.specs.{declared.number_types.NumberType.NumberType, declared.refusals.Place.Place}

-- the variables, oldest first; what the arrays hold; the indexes that wait for what their elements get, newest first;
-- and the draws that are left
pub record State : Type 0 where
  pub store : List ℤ
  pub arrays : Contents
  pub waiting : List ℕ
  pub draws : List ℤ

-- what a call reads in the state, whose own variables begin there
abbrev pub environment_at : ℕ → State → Environment
environment_at base s = record { base = base; store = s.store; arrays = s.arrays }

-- the least changes of a state, of which all steps are made; a number is a place in the store, or a length
pub data Op : Type 0 where
  -- a new variable of this type, which gets a draw
  append : NumberType → Op
  -- the array's elements, which get draws
  fill : Array → Op
  -- the receiver gets the value; `base` is where the call's own variables begin
  store_value : ℕ → Receiver → Expr → Op
  havoc : Receiver → Op
  -- an element gets the value; its index is computed first
  store_element : ℕ → Element → Expr → Op
  -- the arguments' values, as new variables
  push : ℕ → List Argument → Op
  -- an element's index is computed, and waits; then the arguments' values
  push_for : ℕ → Element → List Argument → Op
  -- only the oldest so many variables stay
  truncate_to : ℕ → Op
  -- nothing, if the condition is so
  test : ℕ → Cond → Bool → Op

-- to the element at the first of these indexes, which waits no more
abbrev pub put_waiting : Place → ℤ → List ℕ → State → State
put_waiting p z [] s = s
put_waiting p z (k ∷ ks) s = record s { arrays = with_element p k z s.arrays; waiting = ks }

abbrev pub put_in : Cell → ℤ → State → State
put_in (Variable k) z s = record s { store = slice_set s.store k z }
put_in (Waiting p) z s = put_waiting p z s.waiting s

abbrev pub put : Option Target → ℤ → State → State
put None z s = s
put (Some t) z s = put_in t.cell z s

-- the state, if the one is as the other
abbrev pub kept_if : Bool → Bool → State → Option State
kept_if true true s = Some s
kept_if false false s = Some s
kept_if true false s = None
kept_if false true s = None

-- none if a type on the value's way doesn't have it
abbrev pub receive : Receiver → State → Drawn ℤ → Option State
receive x s None = None
receive x s (Some r) = kept_if true (accepts x r.0) (put x.target r.0 (record s { draws = r.1 }))

abbrev pub pushed : State → Drawn (List ℤ) → Option State
pushed s None = None
pushed s (Some r) = Some (record s { store = s.store ++ r.0; draws = r.1 })

abbrev pub tested : Bool → State → Drawn Bool → Option State
tested wanted s None = None
tested wanted s (Some r) = kept_if wanted r.0 (record s { draws = r.1 })

-- a draw for the target; none is needed without one
abbrev pub drawn_for : Option Target → Receiver → State → Option State
drawn_for None x s = Some s
drawn_for (Some t) x s = receive x s (first_draw s.draws)

abbrev pub run_any : Receiver → State → Option State
run_any x s = drawn_for x.target x s

abbrev pub filled : Array → State → Drawn (List ℤ) → Option State
filled a s None = None
filled a s (Some r) = Some (record s { arrays = (a.declared, r.0) ∷ s.arrays; draws = r.1 })

-- the element's index, if its array has it, waits
abbrev pub aim : ℕ → Element → State → Option State
aim base x s = value_of x.index (environment_at base s) s.draws >>= λ r. place_among x.array.length r.0 >>= λ k.
    Some (record s { waiting = k ∷ s.waiting; draws = r.1 })

abbrev pub run_op : Op → State → Option State
run_op (append t) s = first_draw s.draws >>= λ r. number t r.0 >>= λ z.
    Some (record s { store = s.store ++ z ∷ []; draws = r.1 })
run_op (fill a) s = filled a s (draws_of a.number_type a.length s.draws)
run_op (store_value base x e) s = receive x s (value_of e (environment_at base s) s.draws)
run_op (havoc x) s = run_any x s
run_op (store_element base x e) s =
    aim base x s >>= λ m. receive (waiting_in x.array) m (value_of e (environment_at base m) m.draws)
run_op (push base given) s = pushed s (values_of given (environment_at base s) s.draws)
run_op (push_for base x given) s = aim base x s >>= λ m. pushed m (values_of given (environment_at base m) m.draws)
run_op (truncate_to n) s = Some (record s { store = take n s.store })
run_op (test base c wanted) s = tested wanted s (truth_of c (environment_at base s) s.draws)

-- the calls that lead here, the innermost first, and where the call's own variables begin
pub record CallContext : Type 0 where
  pub path : List ℕ
  pub base : ℕ

-- what a call leaves for its end: what gets the value, the caller, and how long the store was
pub record ReturnFrame : Type 0 where
  pub receiver : Receiver
  pub here : CallContext
  pub length : ℕ

pub data Item : Type 0 where
  run : Stmt → Item
  declare : Declarator → Item
  declare_array : ℕ → Array → Item
  all : BlockItems → Item
  -- a block's end, and how long the store was before the block
  end_of : ℕ → ℕ → Item
  -- a round's end: the loop's step, the loop, and how long the store is there
  next_round : Stmt → Stmt → ℕ → Item
  -- what is left of a `switch`: its labels do nothing
  cases : Cases → Item
  -- after a `switch`, and how long the store is there
  end_switch : ℕ → Item
  end_for : ℕ → Item
  -- a function's end
  return_frame : ReturnFrame → Item
  -- a return whose value a call has given
  leave_call : Item

pub record Config : Type 0 where
  pub items : List Item
  pub here : CallContext
  pub state : State

-- what `break` leaves: how long the store is at the nearest loop or `switch` of this call, and the items after it
pub record BreakTarget : Type 0 where
  pub length : ℕ
  pub rest : List Item

abbrev pub break_target : List Item → Option BreakTarget
break_target [] = None
break_target (run s ∷ k) = break_target k
break_target (declare d ∷ k) = break_target k
break_target (declare_array at a ∷ k) = break_target k
break_target (all s ∷ k) = break_target k
break_target (end_of at n ∷ k) = break_target k
break_target (next_round step again n ∷ k) = Some (record { length = n; rest = k })
break_target (cases cs ∷ k) = break_target k
break_target (end_switch n ∷ k) = Some (record { length = n; rest = k })
break_target (end_for n ∷ k) = break_target k
break_target (return_frame b ∷ k) = None
break_target (leave_call ∷ k) = break_target k

-- where `continue` goes on: the nearest round's end of this call, and the items after it
pub record ContinueTarget : Type 0 where
  pub step : Stmt
  pub again : Stmt
  pub length : ℕ
  pub rest : List Item

abbrev pub continue_target : List Item → Option ContinueTarget
continue_target [] = None
continue_target (run s ∷ k) = continue_target k
continue_target (declare d ∷ k) = continue_target k
continue_target (declare_array at a ∷ k) = continue_target k
continue_target (all s ∷ k) = continue_target k
continue_target (end_of at n ∷ k) = continue_target k
continue_target (next_round step again n ∷ k) = Some (record { step = step; again = again; length = n; rest = k })
continue_target (cases cs ∷ k) = continue_target k
continue_target (end_switch n ∷ k) = continue_target k
continue_target (end_for n ∷ k) = continue_target k
continue_target (return_frame b ∷ k) = None
continue_target (leave_call ∷ k) = continue_target k

pub record ReturnTarget : Type 0 where
  pub back : ReturnFrame
  pub rest : List Item

-- the end of the function that runs, none in `main`
abbrev pub return_target : List Item → Option ReturnTarget
return_target [] = None
return_target (run s ∷ k) = return_target k
return_target (declare d ∷ k) = return_target k
return_target (declare_array at a ∷ k) = return_target k
return_target (all s ∷ k) = return_target k
return_target (end_of at n ∷ k) = return_target k
return_target (next_round step again n ∷ k) = return_target k
return_target (cases cs ∷ k) = return_target k
return_target (end_switch n ∷ k) = return_target k
return_target (end_for n ∷ k) = return_target k
return_target (return_frame b ∷ k) = Some (record { back = b; rest = k })
return_target (leave_call ∷ k) = return_target k

-- what gets the value that `main` returns: nobody, but it has to be one of main's type
abbrev pub main_receiver : Program → Receiver
main_receiver P = result_receiver P.main.result_type nobody

-- what gets the value that the function that runs returns
abbrev pub receiver_of : Program → Option ReturnTarget → Receiver
receiver_of P None = main_receiver P
receiver_of P (Some m) = m.back.receiver

abbrev pub go : List Item → CallContext → Option State → Option Config
go k h None = None
go k h (Some s) = Some (record { items = k; here = h; state = s })

-- the one or the other, by a condition's value
abbrev pub branch : Bool → List Item → List Item → List Item
branch true on off = on
branch false on off = off

abbrev pub go_by : List Item → List Item → CallContext → State → Drawn Bool → Option Config
go_by on off h s None = None
go_by on off h s (Some r) = Some (record { items = branch r.0 on off; here = h; state = record s { draws = r.1 } })

-- the values that a call gives, each with its parameter's type
abbrev pub arguments_for : List NumberType → List Expr → List Argument
arguments_for [] es = []
arguments_for (t ∷ ts) [] = []
arguments_for (t ∷ ts) (e ∷ es) = record { number_type = t; value = e } ∷ arguments_for ts es

-- arguments are evaluated and appended; then the callee's body, its end and its mark
abbrev pub enter_by : (List Argument → Op) → Option Function → Call → Receiver → List Item → CallContext → State →
    Option Config
enter_by gives None c x k h s = None
enter_by gives (Some f) c x k h s =
    go (all f.body ∷ end_of f.end (length s.store + length f.parameters) ∷
    return_frame (record { receiver = result_receiver f.result_type x; here = h; length = length s.store }) ∷ k)
    (record { path = c.label ∷ h.path; base = length s.store })
    (run_op (gives (arguments_for f.parameters c.arguments)) s)

abbrev pub enter : Option Function → Call → Receiver → List Item → CallContext → State → Option Config
enter f c x k h s = enter_by (push h.base) f c x k h s

abbrev pub do_rvalue : Program → Receiver → Rvalue → List Item → CallContext → State → Option Config
do_rvalue P x (value e) k h s = go k h (run_op (store_value h.base x e) s)
do_rvalue P x (result c) k h s = enter (slice_get P.functions c.function) c x k h s

-- the element's index, then what it gets
abbrev pub do_write : Program → Element → Rvalue → List Item → CallContext → State → Option Config
do_write P x (value e) k h s = go k h (run_op (store_element h.base x e) s)
do_write P x (result c) k h s =
    enter_by (push_for h.base x) (slice_get P.functions c.function) c (waiting_in x.array) k h s

abbrev pub go_on : Option State → (State → Option Config) → Option Config
go_on None f = None
go_on (Some s) f = f s

abbrev pub do_break : Option BreakTarget → CallContext → State → Option Config
do_break None h s = None
do_break (Some t) h s = go t.rest h (run_op (truncate_to t.length) s)

abbrev pub do_continue : Option ContinueTarget → CallContext → State → Option Config
do_continue None h s = None
do_continue (Some t) h s = go (next_round t.step t.again t.length ∷ t.rest) h (run_op (truncate_to t.length) s)

abbrev pub do_leave : Option ReturnTarget → Option State → Option Config
do_leave None s = None
do_leave (Some m) s = go_on s (λ t. go m.rest m.back.here (run_op (truncate_to m.back.length) t))

abbrev pub do_return : Program → Option Rvalue → List Item → CallContext → State → Option Config
do_return P None k h s = do_leave (return_target k) (run_any (receiver_of P (return_target k)) s)
do_return P (Some (value e)) k h s =
    do_leave (return_target k) (run_op (store_value h.base (receiver_of P (return_target k)) e) s)
do_return P (Some (result c)) k h s = do_rvalue P (receiver_of P (return_target k)) (result c) (leave_call ∷ k) h s

-- what comes after the first such label
abbrev pub cases_after_label : CaseLabel → Cases → Cases
cases_after_label l no_cases = no_cases
cases_after_label l (labelled m cs) = cond (is_same_case l m) cs (cases_after_label l cs)
cases_after_label l (stated a cs) = cases_after_label l cs

-- what runs of them for this value: what comes after the label that names it, else after `default`, else nothing
abbrev pub chosen : ℤ → Cases → Cases
chosen z cs = cases_after_label (goal_of z (labels_of cs)) cs

abbrev pub do_switch : Cases → List Item → CallContext → State → Drawn ℤ → Option Config
do_switch cs k h s None = None
do_switch cs k h s (Some r) =
    go (cases (chosen r.0 cs) ∷ end_switch (length s.store) ∷ k) h (Some (record s { draws = r.1 }))

abbrev pub do_stmt : Program → Stmt → List Item → CallContext → State → Option Config
do_stmt P absent k h s = go k h (Some s)
do_stmt P (nothing at) k h s = go k h (Some s)
do_stmt P (block body end) k h s = go (all body ∷ end_of end (length s.store) ∷ k) h (Some s)
do_stmt P (assign at x e) k h s = do_rvalue P (variable_at (index_of h.base x.slot) x.number_type) e k h s
do_stmt P (write at x e) k h s = do_write P x e k h s
do_stmt P (call at c) k h s = do_rvalue P nobody (result c) k h s
do_stmt P (if at c a b) k h s = go_by (run a ∷ k) (run b ∷ k) h s (truth_of c (environment_at h.base s) s.draws)
do_stmt P (loop at c a step) k h s = go_by (run a ∷ next_round step (loop at c a step) (length s.store) ∷ k) k h s
    (truth_of c (environment_at h.base s) s.draws)
do_stmt P (for at init c a step) k h s =
    go (all init ∷ run (loop at c a step) ∷ end_for (length s.store) ∷ k) h (Some s)
do_stmt P (break at) k h s = do_break (break_target k) h s
do_stmt P (continue at) k h s = do_continue (continue_target k) h s
do_stmt P (return at e) k h s = do_return P e k h s
do_stmt P (assert at c) k h s = go k h (run_op (test h.base c true) s)
do_stmt P (assume at c) k h s = go k h (run_op (test h.base c true) s)
do_stmt P (switch at e cs) k h s = do_switch cs k h s (value_of e (environment_at h.base s) s.draws)

-- a new variable; its value is given by the declarator's rvalue, if it has one
abbrev pub do_declare : Program → NumberType → Option Rvalue → List Item → CallContext → State → Option Config
do_declare P t None k h s = go k h (run_op (append t) s)
do_declare P t (Some e) k h s = go_on (run_op (append t) s) (do_rvalue P (variable_at (length s.store) t) e k h)

abbrev pub do_all : BlockItems → List Item → CallContext → State → Option Config
do_all no_more k h s = go k h (Some s)
do_all (declaration d b) k h s = go (declare d ∷ all b ∷ k) h (Some s)
do_all (array at a b) k h s = go (declare_array at a ∷ all b ∷ k) h (Some s)
do_all (statement a b) k h s = go (run a ∷ all b ∷ k) h (Some s)

-- the statements after a label run one after the other, past further labels
abbrev pub do_cases : Cases → List Item → CallContext → State → Option Config
do_cases no_cases k h s = go k h (Some s)
do_cases (labelled l cs) k h s = go (cases cs ∷ k) h (Some s)
do_cases (stated a cs) k h s = go (run a ∷ cases cs ∷ k) h (Some s)

abbrev pub next_at : Program → List Item → CallContext → State → Option Config
next_at P [] h s = None
next_at P (run a ∷ k) h s = do_stmt P a k h s
next_at P (declare d ∷ k) h s = do_declare P d.number_type d.rvalue k h s
next_at P (declare_array at a ∷ k) h s = go k h (run_op (fill a) s)
next_at P (all a ∷ k) h s = do_all a k h s
next_at P (end_of at n ∷ k) h s = go k h (run_op (truncate_to n) s)
next_at P (next_round step again n ∷ k) h s = go (run step ∷ run again ∷ k) h (Some s)
next_at P (cases cs ∷ k) h s = do_cases cs k h s
next_at P (end_switch n ∷ k) h s = go k h (Some s)
next_at P (end_for n ∷ k) h s = go k h (run_op (truncate_to n) s)
next_at P (return_frame b ∷ k) h s = go_on (run_any b.receiver s) (λ t. go k b.here (run_op (truncate_to b.length) t))
next_at P (leave_call ∷ k) h s = do_leave (return_target k) (Some s)

-- the configuration that follows, or none if the run ends
abbrev pub next : Program → Config → Option Config
next P c = next_at P c.items c.here c.state
