-- Arrays: values, runs and where they end. Which slip each would catch stands beside it.
use Rattle.std.proofs.Common.{◌≡◌, ℕ, ℤ, pos, List, [], ◌∷◌, Some, None, true, false, refl, inl, inr}
use Rattle.lra_base.specs.Operators.{plus, minus, below, above, equal}
use Rattle.lra_base.specs.{declared.number_types.NumberType.TheVariants.Int, declared.number_types.NumberType.TheVariants.Long, declared.refusals.Place.Place}
use Rattle.lra_program.specs.Accesses.{expr_accesses, op_accesses, ExprOutOfBounds, CondOutOfBounds, OpOutOfBounds, IsOutOfBounds, AccessesOutOfBounds}
use Rattle.lra_program.specs.Program.{global, local, Variable, Expr, literal, read, input, binary, negate, element, Element, compare, nonzero, opposite, both_of, either_of, value, result, absent}
use Rattle.lra_program.specs.Program.{block, assign, write, loop, return, assert, switch, no_cases, no_more, declaration, array, statement, Program}
use Rattle.lra_program.specs.Step.{State, environment_at, Op, fill, store_value, store_element, push, push_for, test, run_op, CallContext, declare, run}
use Rattle.lra_program.specs.{Overflow.op_computes, Receivers.nobody, Run.Point, Value.Environment, Value.value_of, declared.arrays.Array.Array}
use Rattle.lra_program.proofs.RunExamples.{visited, main_alone, long_variable}

abbrev at : ℕ → Place
at c = record { line = 1; column = c }

-- long a[3], declared at 1:6
abbrev a : Array
a = record { declared = at 6; length = 3; number_type = Long }

abbrev at_index : Array → Expr → Element
at_index x e = record { array = x; place = at 30; index = e }

abbrev number : ℕ → Expr
number n = literal Int n

abbrev a_at : Expr → Expr
a_at e = element a (at 30) e

-- values: a has 7, 8, 9, and a later array has 5 -----------------------------------------------------------------------

abbrev scene : Environment
scene = record { base = 0; store = []; arrays = (at 9, pos 5 ∷ []) ∷ (at 6, pos 7 ∷ pos 8 ∷ pos 9 ∷ []) ∷ [] }

-- catches the elements of another array
last_element : value_of (a_at (number 2)) scene [] ≡ Some (pos 9, [])
last_element = refl

-- catches an index that is one too great, and one that is counted from the end
behind_the_last : value_of (a_at (number 3)) scene [] ≡ None
behind_the_last = refl

before_the_first : value_of (a_at (negate (number 1))) scene [] ≡ None
before_the_first = refl

-- a[a[0] - 6]
nested : value_of (a_at (binary minus (a_at (number 0)) (number 6))) scene [] ≡ Some (pos 8, [])
nested = refl

-- an element that holds what its array's type doesn't have stops whoever reads it
typed_element : value_of (element (record a { number_type = Int }) (at 30) (number 0)) (record scene { arrays = (at 6, pos 2147483648 ∷ []) ∷ [] }) [] ≡ None
typed_element = refl

-- steps ----------------------------------------------------------------------------------------------------------------

abbrev pair_of_ints : Array
pair_of_ints = record { declared = at 6; length = 2; number_type = Int }

abbrev drawing : List ℤ → State
drawing draws = record { store = []; arrays = []; waiting = []; draws = draws }

-- each element gets a draw of its array's type
two_draws : run_op (fill pair_of_ints) (drawing (pos 1 ∷ pos 2 ∷ pos 3 ∷ [])) ≡
    Some (record (drawing (pos 3 ∷ [])) { arrays = (at 6, pos 1 ∷ pos 2 ∷ []) ∷ [] })
two_draws = refl

long_draw : run_op (fill pair_of_ints) (drawing (pos 1 ∷ pos 2147483648 ∷ [])) ≡ None
long_draw = refl

-- x[input()] = input(): the index's draw is the first, and no index waits after it
index_first : run_op (store_element 0 (at_index pair_of_ints input) input)
    (record (drawing (pos 1 ∷ pos 4 ∷ [])) { arrays = (at 6, pos 0 ∷ pos 0 ∷ []) ∷ [] }) ≡
    Some (record (drawing []) { arrays = (at 6, pos 0 ∷ pos 4 ∷ []) ∷ (at 6, pos 0 ∷ pos 0 ∷ []) ∷ [] })
index_first = refl

-- a `long` that an `int` element doesn't have ends the run
long_written : run_op (store_element 0 (at_index pair_of_ints (number 0)) (literal Long 2147483648)) (record (drawing []) { arrays = (at 6, pos 0 ∷ pos 0 ∷ []) ∷ [] }) ≡ None
long_written = refl

-- what computes: a read doesn't, but its index may; a `long` for an `int` element is converted
read_alone : op_computes (store_value 0 nobody (a_at (number 1))) ≡ false
read_alone = refl

index_computes : op_computes (store_value 0 nobody (a_at (binary plus (number 1) (number 1)))) ≡ true
index_computes = refl

conversion_alone : op_computes (store_element 0 (at_index pair_of_ints (number 0)) (literal Long 1)) ≡ true
conversion_alone = refl

-- runs -----------------------------------------------------------------------------------------------------------------

abbrev i : Variable
i = long_variable (local 0)

-- int main(void){ long a[3], i=1; a[i]=5; i=a[1]; }
-- an array's declarator is a point and adds no variable; catches an array among the variables, and a write that is lost
abbrev written : Program
written = main_alone (array 1 a (declaration (record { label = 2; number_type = Long; rvalue = Some (value (number 1)) })
    (statement (write 3 (at_index a (read i)) (value (number 5))) (statement (assign 4 i (value (a_at (number 1)))) no_more)))) 5

written_run : visited written (pos 7 ∷ pos 8 ∷ pos 9 ∷ pos 0 ∷ []) ≡ ([], 1, []) ∷ ([], 2, []) ∷ ([], 3, pos 1 ∷ []) ∷ ([], 4, pos 1 ∷ []) ∷ ([], 5, pos 5 ∷ []) ∷ []
written_run = refl

-- if one draw is too few for the array, the run ends at its point
too_few_draws : visited written (pos 7 ∷ pos 8 ∷ []) ≡ ([], 1, []) ∷ []
too_few_draws = refl

-- long g; long f(void){ g=1; return 7; } long a[2]; int main(void){ a[g]=f(); assert(a[0]==7); assert(a[1]==0); }
-- catches an index that is computed after the call, and global arrays without zeros
abbrev g : Variable
g = long_variable (global 0)

abbrev global_pair : Array
global_pair = record { declared = at 45; length = 2; number_type = Long }

abbrev awaited : Program
awaited = record {
  globals = record { number_type = Long; value = pos 0 } ∷ [];
  arrays = global_pair ∷ [];
  functions = record { result_type = Some Long; parameters = []; body = statement (assign 1 g (value (number 1))) (statement (return 2 (Some (value (number 7)))) no_more); end = 3 } ∷ [];
  main = record {
    result_type = Some Int;
    parameters = [];
    body = statement (write 4 (at_index global_pair (read g)) (result (record { label = 4; function = 0; arguments = [] })))
        (statement (assert 5 (compare equal (element global_pair (at 70) (number 0)) (number 7)))
        (statement (assert 6 (compare equal (element global_pair (at 80) (number 1)) (number 0))) no_more));
    end = 7;
  };
}

awaited_run : visited awaited [] ≡ ([], 4, pos 0 ∷ []) ∷ (4 ∷ [], 1, pos 0 ∷ []) ∷ (4 ∷ [], 2, pos 1 ∷ []) ∷ ([], 5, pos 1 ∷ [])
    ∷ ([], 6, pos 1 ∷ []) ∷ ([], 7, pos 1 ∷ []) ∷ []
awaited_run = refl

-- int main(void){ long i=0; while(i<9){ long b[1]; i=i+b[0]; } }
-- catches an array that keeps what it held when its declarator runs again
abbrev single : Array
single = record { declared = at 44; length = 1; number_type = Long }

abbrev refilled : Program
refilled = main_alone (declaration (record { label = 1; number_type = Long; rvalue = Some (value (number 0)) }) (statement (loop 2 (compare below (read i) (number 9))
    (block (array 3 single (statement (assign 4 i (value (binary plus (read i) (element single (at 53) (number 0))))) no_more)) 5) absent) no_more)) 6

refilled_run : visited refilled (pos 0 ∷ pos 4 ∷ pos 6 ∷ []) ≡ ([], 1, []) ∷ ([], 2, pos 0 ∷ []) ∷ ([], 3, pos 0 ∷ []) ∷ ([], 4, pos 0 ∷ []) ∷ ([], 5, pos 4 ∷ [])
    ∷ ([], 2, pos 4 ∷ []) ∷ ([], 3, pos 4 ∷ []) ∷ ([], 4, pos 4 ∷ []) ∷ ([], 5, pos 10 ∷ []) ∷ ([], 2, pos 10 ∷ []) ∷ ([], 6, pos 10 ∷ []) ∷ []
refilled_run = refl

-- indexes outside ------------------------------------------------------------------------------------------------------

-- int main(void){ long b[1]; b[1]=b[0]; }
abbrev outside : Program
outside = main_alone (array 1 single (statement (write 2 (at_index single (number 1)) (value (element single (at 53) (number 0)))) no_more)) 3

abbrev second_point : Point
second_point = record { path = []; label = 2 }

-- the element that gets a value is the first access
first_strays : AccessesOutOfBounds outside second_point 0
first_strays = (
  _,
  record { draws = pos 7 ∷ []; words = (refl, tt); length = 3; steps = (_, refl, (_, refl, (_, refl, refl))) },
  record { label = refl; path = refl },
  inl (inr ((pos 1, []), refl, refl, refl)),
)

-- b[0]=b[1]: what it gets is the second; catches an order from right to left
second_strays : OpOutOfBounds (store_element 0 (at_index single (number 0)) (element single (at 53) (number 1))) (record (drawing []) { arrays = (at 44, pos 7 ∷ []) ∷ [] }) 1
second_strays = inr (0, refl, _, refl, inr ((pos 1, []), refl, refl, refl))

-- b[b[0]]: the inner access is the first
inner_first : expr_accesses (element single (at 30) (element single (at 32) (number 0)))
    ≡ record { array = single; place = at 32; index = number 0 } ∷ at_index single (element single (at 32) (number 0)) ∷ []
inner_first = refl

-- of `b[0]=b[1];` the element that gets the value is the first access; catches a target that is listed last
target_first : op_accesses (store_element 0 (at_index single (number 0)) (element single (at 53) (number 1)))
    ≡ at_index single (number 0) ∷ record { array = single; place = at 53; index = number 1 } ∷ []
target_first = refl

-- of `b[0]=f(b[1], b[2]);` the third access is outside, if b has two elements; catches arguments that are not
-- reported
abbrev pair : Array
pair = record single { length = 2 }

abbrev argued : Op
argued = push_for 0 (at_index pair (number 0)) (record { number_type = Long; value = element pair (at 53) (number 1) } ∷
    record { number_type = Long; value = element pair (at 58) (number 2) } ∷ [])

abbrev holding : List ℤ → State
holding xs = record (drawing []) { arrays = (at 44, xs) ∷ [] }

argument_strays : OpOutOfBounds argued (holding (pos 5 ∷ pos 6 ∷ [])) 2
argument_strays = inr (1, refl, _, refl, inr (0, refl, (pos 6, []), refl, pos 6, refl, inl (inr ((pos 2, []), refl, refl, refl))))

-- of `b[0]>0 && b[1]>0` the right side is computed if the left one holds, of `||` if it doesn't; both ways of a
-- condition ask it
right_of_both : OpOutOfBounds (test 0 (both_of (compare above (element single (at 53) (number 0)) (number 0)) (compare above (element single (at 61) (number 1)) (number 0))) true)
    (holding (pos 7 ∷ [])) 1
right_of_both = inr (0, refl, [], refl, inl (inr ((pos 1, []), refl, refl, refl)))

right_of_either : OpOutOfBounds (test 0 (either_of (compare above (element single (at 53) (number 0)) (number 0)) (compare above (element single (at 61) (number 1)) (number 0))) false)
    (holding (pos 0 ∷ [])) 1
right_of_either = inr (0, refl, [], refl, inl (inr ((pos 1, []), refl, refl, refl)))

-- `long s=b[1];` and `switch (b[1]) {}`; catches accesses of a declarator's value, or of a value that is looked for,
-- that are not reported
abbrev here : CallContext
here = record { path = []; base = 0 }

declared_strays : IsOutOfBounds outside 0 (declare (record { label = 2; number_type = Long; rvalue = Some (value (element single (at 53) (number 1))) }) ∷ []) here
    (record (holding (pos 7 ∷ [])) { draws = pos 1 ∷ [] })
declared_strays = (_, refl, inr ((pos 1, []), refl, refl, refl))

selected_strays : IsOutOfBounds outside 0 (run (switch 2 (element single (at 53) (number 1)) no_cases) ∷ []) here (holding (pos 7 ∷ []))
selected_strays = inr ((pos 1, []), refl, refl, refl)

-- `return b[1];` of `main`
returned_strays : IsOutOfBounds outside 0 (run (return 2 (Some (value (element single (at 53) (number 1))))) ∷ []) here (holding (pos 7 ∷ []))
returned_strays = inr ((pos 1, []), refl, refl, refl)

-- `b[1]` within a sign, on either side of an operator, in an index, on the right of a comparison, as a condition, within `!`, on the left of
-- `&&` and `||`, and in an argument: catches an access that is evaluated and not reported
abbrev outside_one : Expr
outside_one = element single (at 53) (number 1)

abbrev there : Environment
there = environment_at 0 (holding (pos 7 ∷ []))

alone : ExprOutOfBounds outside_one there [] 0
alone = inr ((pos 1, []), refl, refl, refl)

within_others : ExprOutOfBounds (negate outside_one) there [] 0
    × ExprOutOfBounds (binary plus outside_one (number 1)) there [] 0
    × ExprOutOfBounds (binary plus (number 1) outside_one) there [] 0
    × ExprOutOfBounds (element single (at 40) outside_one) there [] 0
    × CondOutOfBounds (compare above (number 0) outside_one) there [] 0
    × CondOutOfBounds (nonzero outside_one) there [] 0
    × CondOutOfBounds (opposite (nonzero outside_one)) there [] 0
    × CondOutOfBounds (both_of (nonzero outside_one) (nonzero (number 1))) there [] 0
    × CondOutOfBounds (either_of (nonzero outside_one) (nonzero (number 1))) there [] 0
    × OpOutOfBounds (push 0 (record { number_type = Long; value = outside_one } ∷ [])) (holding (pos 7 ∷ [])) 0
within_others = (
  alone,
  inl alone,
  inr (0, refl, (pos 1, []), refl, alone),
  inl alone,
  inr (0, refl, (pos 0, []), refl, alone),
  alone,
  alone,
  inl alone,
  inl alone,
  inl alone,
)
