-- Where a run stops by a number: an operator has no value though its operands have, or a type on a value's way doesn't
-- have it. A run that ends because no draw is left, because a draw isn't one of its variable's type, at an index
-- outside its array, or at a false condition doesn't stop by a number.
use Rattle.std.specs.Prelude.{◌≡◌, ◌⊎◌, ℕ, ℤ, pos, ◌-ℤ◌, List, [], ◌∷◌, None, Some, Bool, true, false, ◌||◌, IsTrue}
use Rattle.lra_base.specs.NumberTypes.{wider}
use Rattle.lra_program.specs.Program.{Expr, literal, read, input, negate, binary, element, type_of, Element, Cond}
use Rattle.lra_program.specs.Program.{compare, nonzero, opposite, both_of, either_of, Program}
use Rattle.lra_program.specs.Receivers.{waiting_in, parameter_of, converts_to, accepts}
use Rattle.lra_program.specs.Run.{Point, IsOn, Reaches}
use Rattle.lra_program.specs.Step.{State, environment_at, Op, append, fill, store_value, store_element, havoc, push}
use Rattle.lra_program.specs.Step.{push_for, truncate_to, test, aim, CallContext, Item, Config}
use Rattle.lra_program.specs.Value.{number, apply, Environment, value_of, Argument, truth_of}
use Rattle.lra_program.specs.{NextOperation.NextOpIs, declared.receivers.Receiver.Receiver}

-- expressions and conditions, in the order in which they are computed -----------------------------------------------

abbrev pub ExprOverflows : Expr → Environment → List ℤ → Type 0
ExprOverflows (literal t n) s draws = ⊥
ExprOverflows (read v) s draws = ⊥
ExprOverflows input s draws = ⊥
ExprOverflows (negate e) s draws = ExprOverflows e s draws ⊎
    ((r : ℤ × List ℤ) × (value_of e s draws ≡ Some r) × (number (type_of e) (pos 0 -ℤ r.0) ≡ None))
ExprOverflows (binary op a b) s draws = ExprOverflows a s draws ⊎
    ((r : ℤ × List ℤ) × (value_of a s draws ≡ Some r) × (ExprOverflows b s r.1 ⊎
    ((q : ℤ × List ℤ) × (value_of b s r.1 ≡ Some q) × (apply (wider (type_of a) (type_of b)) op r.0 q.0 ≡ None))))
ExprOverflows (element a at e) s draws = ExprOverflows e s draws

-- a second expression is computed with the draws that the first one leaves
abbrev pub EitherOverflows : Expr → Expr → Environment → List ℤ → Type 0
EitherOverflows a b s draws = ExprOverflows a s draws ⊎
    ((r : ℤ × List ℤ) × (value_of a s draws ≡ Some r) × ExprOverflows b s r.1)

-- the right side of `&&` is computed if the left one is true, that of `||` if it is false
abbrev pub CondOverflows : Cond → Environment → List ℤ → Type 0
CondOverflows (compare op a b) s draws = EitherOverflows a b s draws
CondOverflows (nonzero e) s draws = ExprOverflows e s draws
CondOverflows (opposite c) s draws = CondOverflows c s draws
CondOverflows (both_of c d) s draws = CondOverflows c s draws ⊎
    ((left : List ℤ) × (truth_of c s draws ≡ Some (true, left)) × CondOverflows d s left)
CondOverflows (either_of c d) s draws = CondOverflows c s draws ⊎
    ((left : List ℤ) × (truth_of c s draws ≡ Some (false, left)) × CondOverflows d s left)

-- or has a value that doesn't reach the receiver
abbrev pub GivenOverflows : Receiver → Expr → Environment → List ℤ → Type 0
GivenOverflows x e s draws = ExprOverflows e s draws ⊎
    ((r : ℤ × List ℤ) × (value_of e s draws ≡ Some r) × (accepts x r.0 ≡ false))

abbrev pub ArgumentsOverflow : List Argument → Environment → List ℤ → Type 0
ArgumentsOverflow [] s draws = ⊥
ArgumentsOverflow (a ∷ rest) s draws = ExprOverflows a.value s draws ⊎
    ((r : ℤ × List ℤ) × (value_of a.value s draws ≡ Some r) × ((number a.number_type r.0 ≡ None) ⊎
    ((z : ℤ) × (number a.number_type r.0 ≡ Some z) × ArgumentsOverflow rest s r.1)))

-- where something is computed, or converted from 64 bits to 32; nothing else can stop by a number -------------------

abbrev pub expr_computes : Expr → Bool
expr_computes (literal t n) = false
expr_computes (read v) = false
expr_computes input = false
expr_computes (negate e) = true
expr_computes (binary op a b) = true
expr_computes (element a at e) = expr_computes e

abbrev pub cond_computes : Cond → Bool
cond_computes (compare op a b) = expr_computes a || expr_computes b
cond_computes (nonzero e) = expr_computes e
cond_computes (opposite c) = cond_computes c
cond_computes (both_of c d) = cond_computes c || cond_computes d
cond_computes (either_of c d) = cond_computes c || cond_computes d

-- an expression whose value goes to the receiver
abbrev pub given_computes : Receiver → Expr → Bool
given_computes x e = expr_computes e || converts_to (type_of e) x

abbrev pub arguments_compute : List Argument → Bool
arguments_compute [] = false
arguments_compute (a ∷ rest) = given_computes (parameter_of a.number_type) a.value || arguments_compute rest

abbrev pub op_computes : Op → Bool
op_computes (append t) = false
op_computes (fill a) = false
op_computes (store_value base x e) = given_computes x e
op_computes (store_element base x e) = expr_computes x.index || given_computes (waiting_in x.array) e
op_computes (havoc x) = false
op_computes (push base given) = arguments_compute given
op_computes (push_for base x given) = expr_computes x.index || arguments_compute given
op_computes (truncate_to n) = false
op_computes (test base c wanted) = cond_computes c

-- least changes -----------------------------------------------------------------------------------------------------

-- the element's index does, or what is done after it
abbrev pub AimedOverflows : ℕ → Element → (State → Type 0) → State → Type 0
AimedOverflows base x Behind s = ExprOverflows x.index (environment_at base s) s.draws ⊎
    ((m : State) × (aim base x s ≡ Some m) × Behind m)

abbrev pub OpOverflows : Op → State → Type 0
OpOverflows (append t) s = ⊥
OpOverflows (fill a) s = ⊥
OpOverflows (store_value base x e) s = GivenOverflows x e (environment_at base s) s.draws
OpOverflows (store_element base x e) s =
    AimedOverflows base x (λ m. GivenOverflows (waiting_in x.array) e (environment_at base m) m.draws) s
OpOverflows (havoc x) s = ⊥
OpOverflows (push base given) s = ArgumentsOverflow given (environment_at base s) s.draws
OpOverflows (push_for base x given) s =
    AimedOverflows base x (λ m. ArgumentsOverflow given (environment_at base m) m.draws) s
OpOverflows (truncate_to n) s = ⊥
OpOverflows (test base c wanted) s = CondOverflows c (environment_at base s) s.draws

-- what stops by a number computes something
abbrev pub OverflowingCompute : Type 0
OverflowingCompute = (op : Op) (s : State) → OpOverflows op s → IsTrue (op_computes op)

-- runs --------------------------------------------------------------------------------------------------------------

-- what is on top stops by a number
abbrev pub IsOverflowing : Program → List Item → CallContext → State → Type 0
IsOverflowing P k h s = NextOpIs OpOverflows P k h s

-- some run with the point on top stops there by a number
abbrev pub Overflows : Program → Point → Type 0
Overflows P p = (c : Config) × Reaches P c × IsOn c p × IsOverflowing P c.items c.here c.state
