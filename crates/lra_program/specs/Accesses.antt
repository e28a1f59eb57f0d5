-- The accesses of arrays, and where a run ends by an index outside its array. Among what an item computes they are
-- numbered from 0 in the order in which they are evaluated: operands from left to right, an element's index before the
-- element, and an element that gets a value before what it gets.
use Rattle.std.specs.Prelude.{◌≡◌, ◌⊎◌, ℕ, ◌+◌, ℤ, List, [], ◌∷◌, ◌++◌, length, Bool, None, Some, true, false, nat_lt}
use Rattle.std.specs.Prelude.{slice_get}
use Rattle.lra_program.specs.Program.{Expr, literal, read, input, negate, binary, element, Element, read_of, Cond}
use Rattle.lra_program.specs.Program.{compare, nonzero, opposite, both_of, either_of, Program}
use Rattle.lra_program.specs.Run.{Point, IsOn, Reaches}
use Rattle.lra_program.specs.Step.{State, environment_at, Op, append, fill, store_value, store_element, havoc, push}
use Rattle.lra_program.specs.Step.{push_for, truncate_to, test, aim, CallContext, Item, Config}
use Rattle.lra_program.specs.Value.{number, Environment, value_of, Argument, truth_of}
use Rattle.lra_program.specs.{Arrays.place_among, NextOperation.NextOpIs, NextOperation.Ends}

-- in their order -----------------------------------------------------------------------------------------------------

abbrev pub expr_accesses : Expr → List Element
expr_accesses (literal t n) = []
expr_accesses (read v) = []
expr_accesses input = []
expr_accesses (negate e) = expr_accesses e
expr_accesses (binary op a b) = expr_accesses a ++ expr_accesses b
expr_accesses (element a at e) = expr_accesses e ++ record { array = a; place = at; index = e } ∷ []

abbrev pub cond_accesses : Cond → List Element
cond_accesses (compare op a b) = expr_accesses a ++ expr_accesses b
cond_accesses (nonzero e) = expr_accesses e
cond_accesses (opposite c) = cond_accesses c
cond_accesses (both_of c d) = cond_accesses c ++ cond_accesses d
cond_accesses (either_of c d) = cond_accesses c ++ cond_accesses d

abbrev pub arguments_accesses : List Argument → List Element
arguments_accesses [] = []
arguments_accesses (a ∷ rest) = expr_accesses a.value ++ arguments_accesses rest

-- of an element that gets a value: those of its index, then itself
abbrev pub aim_accesses : Element → List Element
aim_accesses x = expr_accesses (read_of x)

abbrev pub op_accesses : Op → List Element
op_accesses (append t) = []
op_accesses (fill a) = []
op_accesses (store_value base x e) = expr_accesses e
op_accesses (store_element base x e) = aim_accesses x ++ expr_accesses e
op_accesses (havoc x) = []
op_accesses (push base given) = arguments_accesses given
op_accesses (push_for base x given) = aim_accesses x ++ arguments_accesses given
op_accesses (truncate_to n) = []
op_accesses (test base c wanted) = cond_accesses c

-- whether it has any
abbrev pub op_accesses_any : Op → Bool
op_accesses_any op = nat_lt 0 (length (op_accesses op))

-- the n-th has an index outside its array, when it is evaluated ------------------------------------------------------

-- the n-th of all is the m-th of those after `first`
abbrev pub IsNthAfter : List Element → ℕ → ℕ → Type 0
IsNthAfter first m n = n ≡ length first + m

abbrev pub ExprOutOfBounds : Expr → Environment → List ℤ → ℕ → Type 0
ExprOutOfBounds (literal t k) s draws n = ⊥
ExprOutOfBounds (read v) s draws n = ⊥
ExprOutOfBounds input s draws n = ⊥
ExprOutOfBounds (negate e) s draws n = ExprOutOfBounds e s draws n
ExprOutOfBounds (binary op a b) s draws n = ExprOutOfBounds a s draws n ⊎
    ((m : ℕ) × IsNthAfter (expr_accesses a) m n × (r : ℤ × List ℤ) × (value_of a s draws ≡ Some r)
    × ExprOutOfBounds b s r.1 m)
ExprOutOfBounds (element a at e) s draws n = ExprOutOfBounds e s draws n ⊎
    ((r : ℤ × List ℤ) × IsNthAfter (expr_accesses e) 0 n × (value_of e s draws ≡ Some r) ×
    (place_among a.length r.0 ≡ None))

-- a second expression is computed with the draws that the first one leaves
abbrev pub EitherOutOfBounds : Expr → Expr → Environment → List ℤ → ℕ → Type 0
EitherOutOfBounds a b s draws n = ExprOutOfBounds a s draws n ⊎
    ((m : ℕ) × IsNthAfter (expr_accesses a) m n × (r : ℤ × List ℤ) × (value_of a s draws ≡ Some r)
    × ExprOutOfBounds b s r.1 m)

-- the right side of `&&` is computed if the left one is true, that of `||` if it is false
abbrev pub CondOutOfBounds : Cond → Environment → List ℤ → ℕ → Type 0
CondOutOfBounds (compare op a b) s draws n = EitherOutOfBounds a b s draws n
CondOutOfBounds (nonzero e) s draws n = ExprOutOfBounds e s draws n
CondOutOfBounds (opposite c) s draws n = CondOutOfBounds c s draws n
CondOutOfBounds (both_of c d) s draws n = CondOutOfBounds c s draws n ⊎
    ((m : ℕ) × IsNthAfter (cond_accesses c) m n × (left : List ℤ) × (truth_of c s draws ≡ Some (true, left)) ×
    CondOutOfBounds d s left m)
CondOutOfBounds (either_of c d) s draws n = CondOutOfBounds c s draws n ⊎
    ((m : ℕ) × IsNthAfter (cond_accesses c) m n × (left : List ℤ) × (truth_of c s draws ≡ Some (false, left)) ×
    CondOutOfBounds d s left m)

abbrev pub ArgumentsOutOfBounds : List Argument → Environment → List ℤ → ℕ → Type 0
ArgumentsOutOfBounds [] s draws n = ⊥
ArgumentsOutOfBounds (a ∷ rest) s draws n = ExprOutOfBounds a.value s draws n ⊎
    ((m : ℕ) × IsNthAfter (expr_accesses a.value) m n × (r : ℤ × List ℤ) × (value_of a.value s draws ≡ Some r) ×
    (z : ℤ) × (number a.number_type r.0 ≡ Some z) × ArgumentsOutOfBounds rest s r.1 m)

-- of an element and of what is done after its index
abbrev pub AimedOutOfBounds : ℕ → Element → (State → ℕ → Type 0) → State → ℕ → Type 0
AimedOutOfBounds base x Behind s n = ExprOutOfBounds (read_of x) (environment_at base s) s.draws n ⊎
    ((m : ℕ) × IsNthAfter (aim_accesses x) m n × (t : State) × (aim base x s ≡ Some t) × Behind t m)

abbrev pub OpOutOfBounds : Op → State → ℕ → Type 0
OpOutOfBounds (append t) s n = ⊥
OpOutOfBounds (fill a) s n = ⊥
OpOutOfBounds (store_value base x e) s n = ExprOutOfBounds e (environment_at base s) s.draws n
OpOutOfBounds (store_element base x e) s n =
    AimedOutOfBounds base x (λ t m. ExprOutOfBounds e (environment_at base t) t.draws m) s n
OpOutOfBounds (havoc x) s n = ⊥
OpOutOfBounds (push base given) s n = ArgumentsOutOfBounds given (environment_at base s) s.draws n
OpOutOfBounds (push_for base x given) s n =
    AimedOutOfBounds base x (λ t m. ArgumentsOutOfBounds given (environment_at base t) t.draws m) s n
OpOutOfBounds (truncate_to k) s n = ⊥
OpOutOfBounds (test base c wanted) s n = CondOutOfBounds c (environment_at base s) s.draws n

-- with some draws the index is computed, and isn't one of the array's
abbrev pub IsOutside : Environment → Element → Type 0
IsOutside s x = (draws : List ℤ) × (r : ℤ × List ℤ) × (value_of x.index s draws ≡ Some r) ×
    (place_among x.array.length r.0 ≡ None)

-- where the variables of the call that evaluates its accesses begin; if it has none, any number would do
abbrev pub base_of : Op → ℕ
base_of (store_value base x e) = base
base_of (store_element base x e) = base
base_of (push base given) = base
base_of (push_for base x given) = base
base_of (test base c wanted) = base
base_of op = 0

-- the operation has an n-th access, and that is outside, in the store and the arrays as they are
abbrev pub OutOfBoundsHasAccess : Type 0
OutOfBoundsHasAccess = (op : Op) (s : State) (n : ℕ) → OpOutOfBounds op s n → (x : Element) ×
    (slice_get (op_accesses op) n ≡ Some x) × IsOutside (environment_at (base_of op) s) x

-- if an access of the operation is outside its array, the run ends there
abbrev pub OutOfBoundsEndsRun : Type 0
OutOfBoundsEndsRun = (op : Op) (s : State) (n : ℕ) → OpOutOfBounds op s n → Ends op s

-- runs ---------------------------------------------------------------------------------------------------------------

-- what is on top has its n-th access outside
abbrev pub IsOutOfBounds : Program → ℕ → List Item → CallContext → State → Type 0
IsOutOfBounds P n k h s = NextOpIs (λ op t. OpOutOfBounds op t n) P k h s

-- some run with the point on top evaluates the point's n-th access, counted from 0, outside that access's array
abbrev pub AccessesOutOfBounds : Program → Point → ℕ → Type 0
AccessesOutOfBounds P p n = (c : Config) × Reaches P c × IsOn c p × IsOutOfBounds P n c.items c.here c.state
