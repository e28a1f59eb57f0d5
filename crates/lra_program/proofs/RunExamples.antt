-- Runs of small programs: the points that they pass, each with its call path, label and store.
-- Labels number statements, declarators and ends of blocks in text order from 1, over the whole source.
use Rattle.std.proofs.Common.{◌≡◌, ℕ, zero, suc, ℤ, pos, negsuc, List, [], ◌∷◌, Option, Some, None, refl}
use Rattle.lra_base.specs.Operators.{plus, minus, over, times, below, at_least, equal, differs}
use Rattle.lra_base.specs.declared.number_types.NumberType.TheVariants.{Int, Long}
use Rattle.lra_program.specs.Program.{Slot, global, local, Variable, Expr, literal, read, input, negate, binary, compare, nonzero, value, result, Declarator, Stmt, absent, nothing, block, assign}
use Rattle.lra_program.specs.Program.{call, if, loop, for, break, continue, return, assert, assume, BlockItems, no_more, declaration, statement, Function, Program}
use Rattle.lra_program.specs.{Run.start, Run.label_on, Run.Fails, Step.Config, Step.Item, Step.run, Step.all, Step.end_of, Step.next_round, Step.CallContext, Step.next}

-- call path, label and store of the points on the way
abbrev Visits : Type 0
Visits = List (List ℕ × ℕ × List ℤ)

abbrev point_at : Option ℕ → List ℕ → List ℤ → Visits → Visits
point_at None path store rest = rest
point_at (Some l) path store rest = (path, l, store) ∷ rest

abbrev visits : Program → ℕ → Option Config → Visits
visits P n None = []
visits P zero (Some c) = []
visits P (suc n) (Some c) = point_at (label_on c.items) c.here.path c.state.store (visits P n (next P c))

-- at most a hundred steps
abbrev pub visited : Program → List ℤ → Visits
visited P draws = visits P 100 (Some (start P draws))

-- a variable of 64 bits
abbrev pub long_variable : Slot → Variable
long_variable s = record { slot = s; number_type = Long }

abbrev pub main_alone : BlockItems → ℕ → Program
main_alone body end = record { globals = []; arrays = []; functions = []; main = record { result_type = Some Int; parameters = []; body = body; end = end } }

abbrev fresh : ℕ → Declarator
fresh at = record { label = at; number_type = Long; rvalue = None }

abbrev set_to : ℕ → Expr → Declarator
set_to at e = record { label = at; number_type = Long; rvalue = Some (value e) }

abbrev x : Expr
x = read (long_variable (local 0))

abbrev y : Expr
y = read (long_variable (local 1))

-- int main(void){ long x; x = 3; assert(x >= 3); }
-- catches a declarator without a draw: the run with draw 7 has x = 7 before the assignment
abbrev pub one_variable : Program
one_variable = main_alone (declaration (fresh 1) (statement (assign 2 (long_variable (local 0)) (value (literal Int 3))) (statement (assert 3 (compare at_least x (literal Int 3))) no_more))) 4

one_variable_run : visited one_variable (pos 7 ∷ []) ≡ ([], 1, []) ∷ ([], 2, pos 7 ∷ []) ∷ ([], 3, pos 3 ∷ []) ∷ ([], 4, pos 3 ∷ []) ∷ []
one_variable_run = refl

no_draw : visited one_variable [] ≡ ([], 1, []) ∷ []
no_draw = refl

-- int main(void){ long x; x = 2; assert(x >= 3); }
-- the run ends at the assertion: nothing after it is reached
abbrev pub failing : Program
failing = main_alone (declaration (fresh 1) (statement (assign 2 (long_variable (local 0)) (value (literal Int 2))) (statement (assert 3 (compare at_least x (literal Int 3))) no_more))) 4

failing_run : visited failing (pos 7 ∷ []) ≡ ([], 1, []) ∷ ([], 2, pos 7 ∷ []) ∷ ([], 3, pos 2 ∷ []) ∷ []
failing_run = refl

-- the assertion of that program fails
assertion_fails : Fails failing (record { path = []; label = 3 })
assertion_fails = (
  _,
  record { draws = pos 7 ∷ []; words = (refl, tt); length = 5; steps = (_, refl, (_, refl, (_, refl, (_, refl, (_, refl, refl))))) },
  record { label = refl; path = refl },
  (_, refl),
)

-- int main(void){ long i=0; while(i<2) i=i+1; }
-- the loop's point comes at each round, before the test
abbrev counting : Program
counting = main_alone
    (declaration (set_to 1 (literal Int 0)) (statement (loop 2 (compare below x (literal Int 2)) (assign 3 (long_variable (local 0)) (value (binary plus x (literal Int 1)))) absent) no_more)) 4

counting_run : visited counting (pos 9 ∷ []) ≡ ([], 1, []) ∷ ([], 2, pos 0 ∷ []) ∷ ([], 3, pos 0 ∷ []) ∷ ([], 2, pos 1 ∷ []) ∷ ([], 3, pos 1 ∷ []) ∷ ([], 2, pos 2 ∷ []) ∷ ([], 4, pos 2 ∷ []) ∷ []
counting_run = refl

-- int main(void){ while(1){} assert(0); }
-- the loop's point and the `}` of its body alternate, and the assertion's point is never reached
abbrev endless : Program
endless = main_alone (statement (loop 1 (nonzero (literal Int 1)) (block no_more 2) absent) (statement (assert 3 (nonzero (literal Int 0))) no_more)) 4

endless_run : visits endless 14 (Some (start endless [])) ≡ ([], 1, []) ∷ ([], 2, []) ∷ ([], 1, []) ∷ ([], 2, []) ∷ ([], 1, []) ∷ []
endless_run = refl

-- int main(void){ long x; if(2*x==1) assert(0); } : no number's double is 1
abbrev odd_double : Program
odd_double = main_alone (declaration (fresh 1) (statement (if 2 (compare equal (binary times (literal Int 2) x) (literal Int 1)) (assert 3 (nonzero (literal Int 0))) absent) no_more)) 4

odd_double_run : visited odd_double (pos 5 ∷ []) ≡ ([], 1, []) ∷ ([], 2, pos 5 ∷ []) ∷ ([], 4, pos 5 ∷ []) ∷ []
odd_double_run = refl

-- int main(void){ long a=0, b=0; while(a<5){ b=0; while(1){ if(b>=3) break; if(input()) return 0; b=b+1; } a=a+1; } assert(a==5); }
abbrev inner_loop : Stmt
inner_loop = loop 5 (nonzero (literal Int 1)) (block (statement (if 6 (compare at_least y (literal Int 3)) (break 7) absent)
    (statement (if 8 (nonzero input) (return 9 (Some (value (literal Int 0)))) absent) (statement (assign 10 (long_variable (local 1)) (value (binary plus y (literal Int 1)))) no_more))) 11) absent

abbrev nested : ℕ → Program
nested rounds = main_alone (declaration (set_to 1 (literal Int 0)) (declaration (set_to 2 (literal Int 0)) (statement (loop 3 (compare below x (literal Int rounds))
    (block (statement (assign 4 (long_variable (local 1)) (value (literal Int 0)))
    (statement inner_loop (statement (assign 12 (long_variable (local 0)) (value (binary plus x (literal Int 1)))) no_more))) 13) absent)
    (statement (assert 14 (compare equal x (literal Int rounds))) no_more)))) 15

-- a `return` inside two loops ends main's run: catches one that only leaves the loop
return_in_loop : visited (nested 5) (pos 0 ∷ pos 0 ∷ pos 1 ∷ []) ≡ ([], 1, []) ∷ ([], 2, pos 0 ∷ []) ∷ ([], 3, pos 0 ∷ pos 0 ∷ []) ∷ ([], 4, pos 0 ∷ pos 0 ∷ [])
    ∷ ([], 5, pos 0 ∷ pos 0 ∷ []) ∷ ([], 6, pos 0 ∷ pos 0 ∷ []) ∷ ([], 8, pos 0 ∷ pos 0 ∷ []) ∷ ([], 9, pos 0 ∷ pos 0 ∷ []) ∷ []
return_in_loop = refl

-- with one round in place of five: `break` leaves the inner loop alone, and the block's end after it isn't passed by
-- `break`
break_in_loop : visited (nested 1) (pos 0 ∷ pos 0 ∷ pos 0 ∷ pos 0 ∷ pos 0 ∷ [])
    ≡ ([], 1, []) ∷ ([], 2, pos 0 ∷ []) ∷ ([], 3, pos 0 ∷ pos 0 ∷ []) ∷ ([], 4, pos 0 ∷ pos 0 ∷ [])
    ∷ ([], 5, pos 0 ∷ pos 0 ∷ []) ∷ ([], 6, pos 0 ∷ pos 0 ∷ []) ∷ ([], 8, pos 0 ∷ pos 0 ∷ []) ∷ ([], 10, pos 0 ∷ pos 0 ∷ []) ∷ ([], 11, pos 0 ∷ pos 1 ∷ [])
    ∷ ([], 5, pos 0 ∷ pos 1 ∷ []) ∷ ([], 6, pos 0 ∷ pos 1 ∷ []) ∷ ([], 8, pos 0 ∷ pos 1 ∷ []) ∷ ([], 10, pos 0 ∷ pos 1 ∷ []) ∷ ([], 11, pos 0 ∷ pos 2 ∷ [])
    ∷ ([], 5, pos 0 ∷ pos 2 ∷ []) ∷ ([], 6, pos 0 ∷ pos 2 ∷ []) ∷ ([], 8, pos 0 ∷ pos 2 ∷ []) ∷ ([], 10, pos 0 ∷ pos 2 ∷ []) ∷ ([], 11, pos 0 ∷ pos 3 ∷ [])
    ∷ ([], 5, pos 0 ∷ pos 3 ∷ []) ∷ ([], 6, pos 0 ∷ pos 3 ∷ []) ∷ ([], 7, pos 0 ∷ pos 3 ∷ [])
    ∷ ([], 12, pos 0 ∷ pos 3 ∷ []) ∷ ([], 13, pos 1 ∷ pos 3 ∷ []) ∷ ([], 3, pos 1 ∷ pos 3 ∷ []) ∷ ([], 14, pos 1 ∷ pos 3 ∷ []) ∷ ([], 15, pos 1 ∷ pos 3 ∷ []) ∷ []
break_in_loop = refl

-- long inc(long x){ x=x+1; return x; } int main(void){ long x=inc(1); x=inc(x); assert(x==3); }
-- catches a callee's variable that shares its caller's place, and a store that isn't cut back after the call;
-- the function's `}` (3) isn't passed by `return`
abbrev pub inc : Function
inc = record {
  result_type = Some Long;
  parameters = Long ∷ [];
  body =
      statement (assign 1 (long_variable (local 0)) (value (binary plus x (literal Int 1)))) (statement (return 2 (Some (value x))) no_more);
  end = 3;
}

abbrev pub called_twice : Program
called_twice = record {
  globals = [];
  arrays = [];
  functions = inc ∷ [];
  main = record {
    result_type = Some Int;
    parameters = [];
    body = declaration (record { label = 4; number_type = Long; rvalue = Some (result (record { label = 4; function = 0; arguments = literal Int 1 ∷ [] })) })
        (statement (assign 5 (long_variable (local 0)) (result (record { label = 5; function = 0; arguments = x ∷ [] }))) (statement (assert 6 (compare equal x (literal Int 3))) no_more));
    end = 7;
  };
}

called_twice_run : visited called_twice (pos 8 ∷ []) ≡ ([], 4, []) ∷ (4 ∷ [], 1, pos 8 ∷ pos 1 ∷ []) ∷ (4 ∷ [], 2, pos 8 ∷ pos 2 ∷ []) ∷ ([], 5, pos 2 ∷ [])
    ∷ (5 ∷ [], 1, pos 2 ∷ pos 2 ∷ []) ∷ (5 ∷ [], 2, pos 2 ∷ pos 3 ∷ []) ∷ ([], 6, pos 3 ∷ []) ∷ ([], 7, pos 3 ∷ []) ∷ []
called_twice_run = refl

-- long g=2; void f(void){ g=g+1; } int main(void){ f(); f(); assert(g==4); }
-- a global keeps its value from call to call; the end of a function without a result takes no draw
abbrev pub counted : Program
counted = record {
  globals = record { number_type = Long; value = pos 2 } ∷ [];
  arrays = [];
  functions = record {
    result_type = None;
    parameters = [];
    body =
        statement (assign 1 (long_variable (global 0)) (value (binary plus (read (long_variable (global 0))) (literal Int 1)))) no_more;
    end = 2;
  } ∷ [];
  main = record {
    result_type = Some Int;
    parameters = [];
    body = statement (call 3 (record { label = 3; function = 0; arguments = [] })) (statement (call 4 (record { label = 4; function = 0; arguments = [] }))
        (statement (assert 5 (compare equal (read (long_variable (global 0))) (literal Int 4))) no_more));
    end = 6;
  };
}

counted_run : visited counted [] ≡ ([], 3, pos 2 ∷ []) ∷ (3 ∷ [], 1, pos 2 ∷ []) ∷ (3 ∷ [], 2, pos 3 ∷ []) ∷ ([], 4, pos 3 ∷ [])
    ∷ (4 ∷ [], 1, pos 3 ∷ []) ∷ (4 ∷ [], 2, pos 4 ∷ []) ∷ ([], 5, pos 4 ∷ []) ∷ ([], 6, pos 4 ∷ []) ∷ []
counted_run = refl

-- long f(void){ return g(); } long g(void){ } int main(void){ long v = f(); }
-- v gets a draw at the end of g, and the `return` after g's result draws nothing more; call paths have the innermost
-- call first
abbrev handed_on : Program
handed_on = record {
  globals = [];
  arrays = [];
  functions = record { result_type = Some Long; parameters = []; body = statement (return 1 (Some (result (record { label = 1; function = 1; arguments = [] })))) no_more; end = 2 }
      ∷ record { result_type = Some Long; parameters = []; body = no_more; end = 3 } ∷ [];
  main = record {
    result_type = Some Int;
    parameters = [];
    body =
        declaration (record { label = 4; number_type = Long; rvalue = Some (result (record { label = 4; function = 0; arguments = [] })) }) no_more;
    end = 5;
  };
}

handed_on_run : visited handed_on (pos 1 ∷ pos 2 ∷ pos 3 ∷ []) ≡ ([], 4, []) ∷ (4 ∷ [], 1, pos 1 ∷ []) ∷ (1 ∷ 4 ∷ [], 3, pos 1 ∷ []) ∷ ([], 5, pos 2 ∷ []) ∷ []
handed_on_run = refl

-- long f(void){ return; } int main(void){ long v = f(); } : a `return` without a value gives a draw
abbrev bare_return : Program
bare_return = record {
  globals = [];
  arrays = [];
  functions = record { result_type = Some Long; parameters = []; body = statement (return 1 None) no_more; end = 2 } ∷ [];
  main = record {
    result_type = Some Int;
    parameters = [];
    body =
        declaration (record { label = 3; number_type = Long; rvalue = Some (result (record { label = 3; function = 0; arguments = [] })) }) no_more;
    end = 4;
  };
}

bare_return_run : visited bare_return (pos 1 ∷ pos 2 ∷ []) ≡ ([], 3, []) ∷ (3 ∷ [], 1, pos 1 ∷ []) ∷ ([], 4, pos 2 ∷ []) ∷ []
bare_return_run = refl

-- int main(void){ for (long i=0; ; i=i+1) { long j=i; if (j==1) break; continue; } }
-- catches a store that stays long: `continue` and `break` cut off j, the loop's end cuts off i; `continue` goes to the step
abbrev pub left_blocks : Program
left_blocks = main_alone (statement (for 1 (declaration (set_to 2 (literal Int 0)) no_more) (nonzero (literal Int 1))
    (block (declaration (set_to 4 x) (statement (if 5 (compare equal y (literal Int 1)) (break 6) absent) (statement (continue 7) no_more))) 8)
    (assign 3 (long_variable (local 0)) (value (binary plus x (literal Int 1))))) no_more) 9

left_blocks_run : visited left_blocks (pos 5 ∷ pos 6 ∷ pos 7 ∷ []) ≡ ([], 2, []) ∷ ([], 1, pos 0 ∷ []) ∷ ([], 4, pos 0 ∷ []) ∷ ([], 5, pos 0 ∷ pos 0 ∷ []) ∷ ([], 7, pos 0 ∷ pos 0 ∷ [])
    ∷ ([], 3, pos 0 ∷ []) ∷ ([], 1, pos 1 ∷ []) ∷ ([], 4, pos 1 ∷ []) ∷ ([], 5, pos 1 ∷ pos 1 ∷ []) ∷ ([], 6, pos 1 ∷ pos 1 ∷ []) ∷ ([], 9, []) ∷ []
left_blocks_run = refl

-- int main(void){ { long y; ; } ; } : the block's end has y still live, and after it y is gone
abbrev inner_block : Program
inner_block = main_alone (statement (block (declaration (fresh 1) (statement (nothing 2) no_more)) 3) (statement (nothing 4) no_more)) 5

inner_block_run : visited inner_block (pos 6 ∷ []) ≡ ([], 1, []) ∷ ([], 2, pos 6 ∷ []) ∷ ([], 3, pos 6 ∷ []) ∷ ([], 4, []) ∷ ([], 5, []) ∷ []
inner_block_run = refl

-- int main(void){ long x; x = input()/0; x = 1; } : the run ends at the zero divisor
abbrev divided : Program
divided = main_alone (declaration (fresh 1)
    (statement (assign 2 (long_variable (local 0)) (value (binary over input (literal Int 0)))) (statement (assign 3 (long_variable (local 0)) (value (literal Int 1))) no_more))) 4

divided_run : visited divided (pos 1 ∷ pos 2 ∷ []) ≡ ([], 1, []) ∷ ([], 2, pos 1 ∷ []) ∷ []
divided_run = refl

-- int main(void){ long x=9223372036854775807; x=x+1; } : the run ends at the overflow
abbrev overflowing : Program
overflowing = main_alone (declaration (set_to 1 (literal Long 9223372036854775807)) (statement (assign 2 (long_variable (local 0)) (value (binary plus x (literal Int 1)))) no_more)) 3

overflowing_run : visited overflowing (pos 0 ∷ []) ≡ ([], 1, []) ∷ ([], 2, pos 9223372036854775807 ∷ []) ∷ []
overflowing_run = refl

-- int main(void){ long x=-9223372036854775807-1; x=x/-1; }
abbrev least_divided : Program
least_divided = main_alone (declaration (set_to 1 (binary minus (negate (literal Long 9223372036854775807)) (literal Int 1)))
    (statement (assign 2 (long_variable (local 0)) (value (binary over x (negate (literal Int 1))))) no_more)) 3

least_divided_run : visited least_divided (pos 0 ∷ []) ≡ ([], 1, []) ∷ ([], 2, negsuc 9223372036854775807 ∷ []) ∷ []
least_divided_run = refl

-- int main(void){ long x=input(); assume(x!=0); x=1; } : a false assumption ends the run, a true one changes nothing
abbrev assumed : Program
assumed = main_alone (declaration (set_to 1 input) (statement (assume 2 (compare differs x (literal Int 0))) (statement (assign 3 (long_variable (local 0)) (value (literal Int 1))) no_more))) 4

assumed_run : (visited assumed (pos 9 ∷ pos 0 ∷ []) ≡ ([], 1, []) ∷ ([], 2, pos 0 ∷ []) ∷ []) ×
    (visited assumed (pos 9 ∷ pos 4 ∷ []) ≡ ([], 1, []) ∷ ([], 2, pos 4 ∷ []) ∷ ([], 3, pos 4 ∷ []) ∷ ([], 4, pos 1 ∷ []) ∷ [])
assumed_run = (refl, refl)

abbrev with_items : List Item → CallContext → List ℤ → List ℤ → Config
with_items items here store draws = record { items = items; here = here; state = record { store = store; arrays = []; waiting = []; draws = draws } }

-- `continue` in a block of a loop's body: the round's end is on top, whose next items are the step and the loop; the block's variable is gone
behind_continue : (P : Program) (step again : Stmt) (rest : BlockItems) (k : List Item) (h : CallContext) (x y : ℤ) (draws : List ℤ)
    → next P (with_items (run (continue 7) ∷ all rest ∷ end_of 9 1 ∷ next_round step again 1 ∷ k) h (x ∷ y ∷ []) draws) ≡ Some (with_items (next_round step again 1 ∷ k) h (x ∷ []) draws)
behind_continue P step again rest k h x y draws = refl

behind_turn : (P : Program) (step again : Stmt) (k : List Item) (h : CallContext) (store draws : List ℤ)
    → next P (with_items (next_round step again 1 ∷ k) h store draws) ≡ Some (with_items (run step ∷ run again ∷ k) h store draws)
behind_turn P step again k h store draws = refl

-- `break` there: neither the step nor the loop is left
behind_break : (P : Program) (step again : Stmt) (rest : BlockItems) (k : List Item) (h : CallContext) (x y : ℤ) (draws : List ℤ)
    → next P (with_items (run (break 8) ∷ all rest ∷ end_of 9 1 ∷ next_round step again 1 ∷ k) h (x ∷ y ∷ []) draws) ≡ Some (with_items k h (x ∷ []) draws)
behind_break P step again rest k h x y draws = refl

-- `continue` in a loop that stands in another loop's body: the inner round's end is on top, and the outer step waits
inner_continue : (P : Program) (step again inner : Stmt) (k : List Item) (h : CallContext) (x : ℤ) (draws : List ℤ)
    → next P (with_items (run (continue 7) ∷ next_round absent inner 1 ∷ end_of 9 1 ∷ next_round step again 1 ∷ k) h (x ∷ []) draws)
    ≡ Some (with_items (next_round absent inner 1 ∷ end_of 9 1 ∷ next_round step again 1 ∷ k) h (x ∷ []) draws)
inner_continue P step again inner k h x draws = refl
