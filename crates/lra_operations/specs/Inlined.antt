-- Which tree of operations stands for which statement, with its calls written out: one case for each form of a
-- statement.
-- T is the list of the program's points in the order of their numbers.
use Rattle.std.specs.Prelude.{◌≡◌, ℕ, suc, ◌+◌, ◌≤◌, Bool, true, false, List, ◌∷◌, length, Option, Some, None}
use Rattle.std.specs.Prelude.{slice_get, []}
use Rattle.lra_program.specs.Program.{Variable, Expr, Element, Cond, Call, Rvalue, value, result, Declarator, Stmt}
use Rattle.lra_program.specs.Program.{absent, nothing, block, assign, write, call, if, loop, for, break, continue}
use Rattle.lra_program.specs.Program.{return, assert, assume, switch, Cases, no_cases, labelled, stated, BlockItems}
use Rattle.lra_program.specs.Program.{no_more, declaration, array, statement, Function, Program}
use Rattle.lra_program.specs.Receivers.{variable_at, waiting_in, nobody, result_receiver}
use Rattle.lra_program.specs.Step.{Op, append, fill, store_value, store_element, havoc, push, push_for, truncate_to}
use Rattle.lra_program.specs.Step.{test, CallContext, ReturnFrame, arguments_for, main_receiver}
use Rattle.lra_program.specs.Value.{index_of, Argument}
use Rattle.lra_program.specs.{Sites.Site, declared.arrays.Array.Array, declared.receivers.Receiver.Receiver}
use Rattle.lra_operations.specs.Crates.lra_base.declared.case_labels.CaseLabel.{CaseLabel}
use Rattle.lra_operations.specs.Crates.lra_base.declared.number_types.NumberType.{NumberType}
use Rattle.lra_operations.specs.Tree.{broken, continued, returned, Node, empty, point, act, check, seq, choose, iterate}
use Rattle.lra_operations.specs.Tree.{catch, leave, select, Arms, no_arms, entry, arm}

-- where a statement stands: its call, how long the store is where `break` comes out - the nearest loop or `switch` -
-- and where `continue` goes on, and what its return goes back to; `main` has no such
pub record Frame : Type 0 where
  pub here : CallContext
  pub breaks : Option ℕ
  pub continues : Option ℕ
  pub back : Option ReturnFrame

-- in a call that runs with n live variables and gives the receiver its value
abbrev pub callee : Frame → ℕ → Receiver → Call → Frame
callee f n x c = record {
  here = record { path = c.label ∷ f.here.path; base = n };
  breaks = None;
  continues = None;
  back = Some (record { receiver = x; here = f.here; length = n });
}

-- `break` comes out after the loop, `continue` after the body and before the step
abbrev pub loop_node : ℕ → ℕ → Cond → Node → Node → Node
loop_node q base c a step = catch q broken (iterate q base c (seq (catch q continued a) step))

-- `break` comes out after the arms
abbrev pub switch_node : ℕ → ℕ → Expr → Arms → Node
switch_node q base e arms = catch q broken (select q base e arms)

-- the call's own point is q, where the operation gives its arguments, and r that of its body's end; there the body's
-- variables go, the receiver gets a draw, and the parameters go
abbrev pub callee_node : ℕ → ℕ → ℕ → Receiver → Op → ℕ → Node → Node
callee_node q r n x gives params g =
    seq (act q gives) (catch q returned (seq g
    (seq (point r) (seq (act r (truncate_to (n + params))) (seq (act r (havoc x)) (act r (truncate_to n)))))))

abbrev pub call_node : ℕ → ℕ → ℕ → ℕ → Receiver → List Argument → ℕ → Node → Node
call_node q r base n x given params g = callee_node q r n x (push base given) params g

-- if so many variables live, the receiver gets the value, and the store is cut to the caller's n
abbrev pub return_node : ℕ → Op → ℕ → ℕ → Node
return_node q op n live = seq (act q op) (seq (act q (truncate_to n)) (leave live returned))

-- where an inlining stands: in which frame, how many variables live, and the next point's number
pub record InlineState : Type 0 where
  pub frame : Frame
  pub live : ℕ
  pub next : ℕ

abbrev pub spot_of : Frame → ℕ → ℕ → InlineState
spot_of f live next = record { frame = f; live = live; next = next }

-- in the same frame, further on
abbrev pub move : InlineState → ℕ → ℕ → InlineState
move s live next = spot_of s.frame live next

abbrev pub at_point : InlineState → ℕ → InlineState
at_point s next = move s s.live next

-- in a loop's body, or in its step
abbrev pub within : InlineState → Option ℕ → ℕ → InlineState
within s length next = spot_of (record s.frame { breaks = length; continues = length }) s.live next

-- in a `switch`
abbrev pub among_cases : InlineState → ℕ → InlineState
among_cases s next = spot_of (record s.frame { breaks = Some s.live }) s.live next

-- where the called function's body begins
abbrev pub into_callee : InlineState → Receiver → Call → ℕ → ℕ → InlineState
into_callee s x c params next = spot_of (callee s.frame s.live x c) (s.live + params) next

-- the point of the list where the spot is
abbrev pub IsSiteWith : List Site → InlineState → ℕ → Bool → Type 0
IsSiteWith T s at asserts = slice_get T s.next ≡ Some (record
    { path = s.frame.here.path; label = at; live = s.live; asserts = asserts })

abbrev pub IsSiteAt : List Site → InlineState → ℕ → Type 0
IsSiteAt T s at = IsSiteWith T s at false

mutual
  -- at the spot the statement has the tree, and q is the next point's number after it; as many variables live there
  pub data InlineStmt (P : Program) (T : List Site) : InlineState → Stmt → Node → ℕ → Type 0 where
    as_nothing : {s : InlineState} {at : ℕ} → IsSiteAt T s at →
        InlineStmt P T s (nothing at) (point s.next) (suc s.next)
    as_block : {s : InlineState} {body : BlockItems} {end : ℕ} {g : Node} {n q : ℕ} →
        InlineItems P T s body g n q → IsSiteAt T (move s n q) end
        → InlineStmt P T s (block body end) (seq g (seq (point q) (act q (truncate_to s.live)))) (suc q)
    as_absent : {s : InlineState} → InlineStmt P T s absent empty s.next
    as_assign : {s : InlineState} {at : ℕ} {x : Variable} {e : Rvalue} {g : Node} {q : ℕ} → IsSiteAt T s at →
        InlineRvalue P T s (suc s.next) (variable_at (index_of s.frame.here.base x.slot) x.number_type) e g q
        → InlineStmt P T s (assign at x e) (seq (point s.next) g) q
    as_write : {s : InlineState} {at : ℕ} {x : Element} {e : Expr} → IsSiteAt T s at
        → InlineStmt P T s (write at x (value e))
        (seq (point s.next) (act s.next (store_element s.frame.here.base x e)))
        (suc s.next)
    as_write_call : {s : InlineState} {at : ℕ} {x : Element} {c : Call} {g : Node} {q : ℕ} → IsSiteAt T s at →
        InlineCall P T s (suc s.next) (waiting_in x.array) (push_for s.frame.here.base x) c g q
        → InlineStmt P T s (write at x (result c)) (seq (point s.next) g) q
    as_call : {s : InlineState} {at : ℕ} {c : Call} {g : Node} {q : ℕ} → IsSiteAt T s at →
        InlineRvalue P T s (suc s.next) nobody (result c) g q
        → InlineStmt P T s (call at c) (seq (point s.next) g) q
    as_if : {s : InlineState} {at : ℕ} {c : Cond} {a b : Stmt} {g h : Node} {r q : ℕ} → IsSiteAt T s at
        → InlineStmt P T (at_point s (suc s.next)) a g r → InlineStmt P T (at_point s r) b h q →
        InlineStmt P T s (if at c a b) (seq (point s.next) (choose s.next s.frame.here.base c g h)) q
    as_loop : {s : InlineState} {a : Stmt} {g : Node} {q : ℕ} → InlineLoop P T s (suc s.next) a g q →
        InlineStmt P T s a g q
    as_for : {s : InlineState} {at : ℕ} {init : BlockItems} {c : Cond} {a step : Stmt} {g h : Node} {n r q : ℕ} →
        InlineItems P T (at_point s (suc s.next)) init g n r → InlineLoop P T (move s n s.next) r (loop at c a step) h q
        → InlineStmt P T s (for at init c a step) (seq g (seq h (act s.next (truncate_to s.live)))) q
    as_break : {s : InlineState} {at m : ℕ} → s.frame.breaks ≡ Some m → m ≤ s.live → IsSiteAt T s at
        → InlineStmt P T s (break at) (seq (point s.next) (seq (act s.next (truncate_to m)) (leave s.live broken)))
        (suc s.next)
    as_continue : {s : InlineState} {at m : ℕ} → s.frame.continues ≡ Some m → m ≤ s.live → IsSiteAt T s at
        → InlineStmt P T s (continue at)
        (seq (point s.next) (seq (act s.next (truncate_to m)) (leave s.live continued))) (suc s.next)
    as_return : {s : InlineState} {at : ℕ} {b : ReturnFrame} → s.frame.back ≡ Some b → b.length ≤ s.live →
        IsSiteAt T s at
        → InlineStmt P T s (return at None) (seq (point s.next) (return_node s.next (havoc b.receiver) b.length s.live))
        (suc s.next)
    as_return_value : {s : InlineState} {at : ℕ} {e : Expr} {b : ReturnFrame} → s.frame.back ≡ Some b →
        b.length ≤ s.live → IsSiteAt T s at
        → InlineStmt P T s (return at (Some (value e))) (seq (point s.next)
        (return_node s.next (store_value s.frame.here.base b.receiver e) b.length s.live)) (suc s.next)
    as_return_call : {s : InlineState} {at : ℕ} {c : Call} {b : ReturnFrame} {g : Node} {q : ℕ} →
        s.frame.back ≡ Some b →
        b.length ≤ s.live → IsSiteAt T s at
        → InlineRvalue P T s (suc s.next) b.receiver (result c) g q
        → InlineStmt P T s (return at (Some (result c))) (seq (point s.next)
        (seq g (seq (act s.next (truncate_to b.length)) (leave s.live returned)))) q
    as_end : {s : InlineState} {at : ℕ} → s.frame.back ≡ None → IsSiteAt T s at →
        InlineStmt P T s (return at None) (seq (point s.next) (leave s.live returned)) (suc s.next)
    as_end_value : {s : InlineState} {at : ℕ} {e : Expr} → s.frame.back ≡ None → IsSiteAt T s at
        → InlineStmt P T s (return at (Some (value e))) (seq (point s.next)
        (seq (act s.next (store_value s.frame.here.base (main_receiver P) e)) (leave s.live returned))) (suc s.next)
    as_end_call : {s : InlineState} {at : ℕ} {c : Call} {g : Node} {q : ℕ} → s.frame.back ≡ None → IsSiteAt T s at →
        InlineRvalue P T s (suc s.next) (main_receiver P) (result c) g q
        → InlineStmt P T s (return at (Some (result c))) (seq (point s.next) (seq g (leave s.live returned))) q
    as_assert : {s : InlineState} {at : ℕ} {c : Cond} → IsSiteWith T s at true →
        InlineStmt P T s (assert at c) (seq (point s.next) (check s.next s.frame.here.base c)) (suc s.next)
    as_assume : {s : InlineState} {at : ℕ} {c : Cond} → IsSiteAt T s at →
        InlineStmt P T s (assume at c) (seq (point s.next) (act s.next (test s.frame.here.base c true))) (suc s.next)
    as_switch : {s : InlineState} {at : ℕ} {e : Expr} {cs : Cases} {arms : Arms} {q : ℕ} → IsSiteAt T s at →
        InlineCases P T (among_cases s (suc s.next)) cs arms q
        → InlineStmt P T s (switch at e cs) (seq (point s.next) (switch_node s.next s.frame.here.base e arms)) q

  -- the statements of a `switch`, after their labels
  pub data InlineCases (P : Program) (T : List Site) : InlineState → Cases → Arms → ℕ → Type 0 where
    as_no_cases : {s : InlineState} → InlineCases P T s no_cases no_arms s.next
    as_labelled : {s : InlineState} {l : CaseLabel} {cs : Cases} {arms : Arms} {q : ℕ} → InlineCases P T s cs arms q
        → InlineCases P T s (labelled l cs) (entry l arms) q
    as_stated : {s : InlineState} {a : Stmt} {cs : Cases} {g : Node} {arms : Arms} {r q : ℕ} →
        InlineStmt P T s a g r → InlineCases P T (at_point s r) cs arms q
        → InlineCases P T s (stated a cs) (arm g arms) q

  -- after the items n live, and q is next
  pub data InlineItems (P : Program) (T : List Site) : InlineState → BlockItems → Node → ℕ → ℕ → Type 0 where
    as_none : {s : InlineState} → InlineItems P T s no_more empty s.live s.next
    as_declaration : {s : InlineState} {d : Declarator} {b : BlockItems} {g h : Node} {r n q : ℕ} →
        IsSiteAt T s d.label → InlineDeclarator P T s (suc s.next) d.number_type d.rvalue g r →
        InlineItems P T (move s (suc s.live) r) b h n q
        → InlineItems P T s (declaration d b) (seq (seq (point s.next) g) h) n q
    as_array : {s : InlineState} {at : ℕ} {a : Array} {b : BlockItems} {h : Node} {n q : ℕ} →
        IsSiteAt T s at → InlineItems P T (at_point s (suc s.next)) b h n q
        → InlineItems P T s (array at a b) (seq (seq (point s.next) (act s.next (fill a))) h) n q
    as_statement : {s : InlineState} {a : Stmt} {b : BlockItems} {g h : Node} {r n q : ℕ} →
        InlineStmt P T s a g r → InlineItems P T (at_point s r) b h n q
        → InlineItems P T s (statement a b) (seq g h) n q

  -- a declarator at its point: a new variable of this type, and what it gets; r is the next one's number
  pub data InlineDeclarator (P : Program) (T : List Site) : InlineState → ℕ → NumberType → Option Rvalue → Node → ℕ →
      Type 0 where
    as_fresh : {s : InlineState} {r : ℕ} {t : NumberType} → InlineDeclarator P T s r t None (act s.next (append t)) r
    as_given : {s : InlineState} {r : ℕ} {t : NumberType} {e : Rvalue} {g : Node} {q : ℕ} →
        InlineRvalue P T (move s (suc s.live) s.next) r (variable_at s.live t) e g q
        → InlineDeclarator P T s r t (Some e) (seq (act s.next (append t)) g) q

  -- a loop at its own point; its step comes before its body in text order
  pub data InlineLoop (P : Program) (T : List Site) : InlineState → ℕ → Stmt → Node → ℕ → Type 0 where
    is_loop : {s : InlineState} {r at : ℕ} {c : Cond} {a step : Stmt} {g h : Node} {m q : ℕ} → IsSiteAt T s at
        → InlineStmt P T (within s None r) step h m → InlineStmt P T (within s (Some s.live) m) a g q
        → InlineLoop P T s r (loop at c a step) (loop_node s.next s.frame.here.base c g h) q

  -- what the receiver gets at the statement's point; r is the next one's number
  pub data InlineRvalue (P : Program) (T : List Site) : InlineState → ℕ → Receiver → Rvalue → Node → ℕ → Type 0 where
    as_value : {s : InlineState} {r : ℕ} {x : Receiver} {e : Expr} →
        InlineRvalue P T s r x (value e) (act s.next (store_value s.frame.here.base x e)) r
    as_result : {s : InlineState} {r : ℕ} {x : Receiver} {c : Call} {g : Node} {q : ℕ} →
        InlineCall P T s r x (push s.frame.here.base) c g q → InlineRvalue P T s r x (result c) g q

  -- a call at the statement's point, by an operation that gives the arguments
  pub data InlineCall (P : Program) (T : List Site) : InlineState → ℕ → Receiver → (List Argument → Op) → Call → Node →
      ℕ → Type 0
    where
      is_call : {s : InlineState} {r : ℕ} {x : Receiver} {gives : List Argument → Op} {c : Call} {fn : Function}
          {g : Node}
          {n q : ℕ}
          → slice_get P.functions c.function ≡ Some fn → length c.arguments ≡ length fn.parameters
          → InlineItems P T (into_callee s (result_receiver fn.result_type x) c (length fn.parameters) r) fn.body g n q
          → IsSiteAt T (move (into_callee s (result_receiver fn.result_type x) c (length fn.parameters) r) n q) fn.end
          → InlineCall P T s r x gives c (callee_node s.next q s.live (result_receiver fn.result_type x)
          (gives (arguments_for fn.parameters c.arguments)) (length fn.parameters) g) (suc q)

abbrev pub main_frame : Program → Frame
main_frame P = record {
  here = record { path = []; base = length P.globals };
  breaks = None;
  continues = None;
  back = None;
}

-- where main's items begin
abbrev pub main_inline_state : Program → InlineState
main_inline_state P = spot_of (main_frame P) (length P.globals) 0
