-- Values of two types, ways, and runs that stop by a number. Which slip each would catch stands beside it.
use Rattle.std.proofs.Common.{◌≡◌, pos, negsuc, [], ◌∷◌, Some, None, Bool, true, false, refl, inl, inr, ap}
use Rattle.lra_base.specs.Operators.{plus, times, over, modulo, above, below}
use Rattle.lra_base.specs.declared.number_types.NumberType.TheVariants.{Int, Long}
use Rattle.lra_program.specs.Program.{local, Expr, literal, read, input, negate, binary, compare, both_of, either_of}
use Rattle.lra_program.specs.Step.{append, store_value, havoc, run_op, arguments_for}
use Rattle.lra_program.specs.{Overflow.op_computes, Overflow.CondOverflows, Receivers.converts_to, Receivers.variable_at, Receivers.nobody, Receivers.result_receiver, Value.Environment, Value.Drawn}
use Rattle.lra_program.specs.{Value.value_of, Value.values_of, declared.receivers.ConversionChain.TheVariants.Short, declared.receivers.ConversionChain.TheVariants.Shortened}

abbrev nowhere : Environment
nowhere = record { base = 0; store = []; arrays = [] }

-- an `int` x that is the greatest one, and a `long` y that is 7
abbrev scene : Environment
scene = record { base = 0; store = pos 2147483647 ∷ pos 7 ∷ []; arrays = [] }

abbrev x : Expr
x = read (record { slot = local 0; number_type = Int })

abbrev y : Expr
y = read (record { slot = local 1; number_type = Long })

abbrev one : Expr
one = literal Int 1

-- 65536*65536, 65536L*65536: catches 64 bits for two `int`s
product_of_ints : value_of (binary times (literal Int 65536) (literal Int 65536)) nowhere [] ≡ None
product_of_ints = refl

product_of_a_long : value_of (binary times (literal Long 65536) (literal Int 65536)) nowhere [] ≡ Some (pos 4294967296, [])
product_of_a_long = refl

-- x + 1, x + 1 + y, x + (1 + y): catches the type of the whole chain in place of its prefix's
sum_overflows : value_of (binary plus x one) scene [] ≡ None
sum_overflows = refl

prefix_overflows : value_of (binary plus (binary plus x one) y) scene [] ≡ None
prefix_overflows = refl

grouped_fits : value_of (binary plus x (binary plus one y)) scene [] ≡ Some (pos 2147483655, [])
grouped_fits = refl

-- -2147483648: the literal is a `long`, and so is what its sign makes of it
sign_of_a_long : value_of (negate (literal Long 2147483648)) nowhere [] ≡ Some (negsuc 2147483647, [])
sign_of_a_long = refl

-- the least `int`, its sign, its quotient and its remainder by -1; catches the limits of 64 bits
least_scene : Environment
least_scene = record { base = 0; store = negsuc 2147483647 ∷ []; arrays = [] }

sign_overflows : value_of (negate x) least_scene [] ≡ None
unfolding least_scene
sign_overflows = refl

quotient_overflows : value_of (binary over x (negate one)) least_scene [] ≡ None
unfolding least_scene
quotient_overflows = refl

remainder_overflows : value_of (binary modulo x (negate one)) least_scene [] ≡ None
unfolding least_scene
remainder_overflows = refl

-- a variable that holds what its type doesn't have stops whoever reads it
typed_read : value_of x (record { base = 0; store = pos 2147483648 ∷ []; arrays = [] }) [] ≡ None
typed_read = refl

-- ways: int half(long x), called for a `long`, for an `int`, for no receiver; long f(int a), called for an `int`
for_a_long : (result_receiver (Some Int) (variable_at 0 Long)).conversions ≡ Short
for_a_long = refl

for_an_int : (result_receiver (Some Long) (variable_at 0 Int)).conversions ≡ Shortened
for_an_int = refl

for_nobody : converts_to Long (result_receiver (Some Int) nobody) ≡ true
for_nobody = refl

-- a `void` function, `x = 1` of an `int` x: no conversion
no_conversion : converts_to Int (variable_at 0 Int) ≡ false
no_conversion = refl

-- steps: a draw for an `int`; one for a call's target has to be one of all types on the way; without a target none is
short_draw : run_op (append Int) (record { store = []; arrays = []; waiting = []; draws = pos 2147483648 ∷ [] }) ≡ None
short_draw = refl

result_draw : run_op (havoc (result_receiver (Some Int) (variable_at 0 Long)))
    (record { store = pos 0 ∷ []; arrays = []; waiting = []; draws = pos 2147483648 ∷ [] }) ≡ None
result_draw = refl

no_draw : run_op (havoc (result_receiver (Some Int) nobody)) (record { store = []; arrays = []; waiting = []; draws = [] }) ≡
    Some (record { store = []; arrays = []; waiting = []; draws = [] })
no_draw = refl

-- f(input(), input()) with `int` first: the second draw isn't taken if the first doesn't fit
arguments_stop : values_of (arguments_for (Int ∷ Long ∷ []) (input ∷ input ∷ [])) nowhere (pos 2147483648 ∷ []) ≡ None
arguments_stop = refl

-- what computes: a literal or a variable alone doesn't; a conversion does; a sign does
variable_alone : op_computes (store_value 0 (variable_at 1 Long) x) ≡ false
variable_alone = refl

conversion_alone : op_computes (store_value 0 (variable_at 0 Int) y) ≡ true
conversion_alone = refl

abbrev truth_or : Drawn Bool → Bool
truth_or None = true
truth_or (Some r) = r.0

-- x < 2147483647 && x + 1 > 0 if x is the greatest `int`: the right side isn't computed; catches a right side that is
not_computed : CondOverflows (both_of (compare below x (literal Int 2147483647)) (compare above (binary plus x one) (literal Int 0)))
    scene [] → ⊥
not_computed (inl (inl h)) = h
not_computed (inl (inr (r, is, h))) = h
not_computed (inr (left, is, h)) = let same : false ≡ true = ap (λ (o : Drawn Bool). truth_or o) is in cc

computed : CondOverflows (either_of (compare below x (literal Int 2147483647)) (compare above (binary plus x one) (literal Int 0)))
    scene []
computed = inr ([], refl, inl (inr ((pos 2147483647, []), refl, inr ((pos 1, []), refl, refl))))
