-- Single definitions of the iteration on small operands.
use Rattle.std.proofs.Common.{◌≡◌, ℕ, ℤ, pos, negsuc, List, [], ◌∷◌, None, Some, refl}
use Rattle.lra_analysis_spec.specs.Crates.lra_program.Program.{local, Expr, literal, read, input, binary, compare, opposite, either_of}
use Rattle.lra_analysis_spec.specs.Crates.lra_program.Receivers.{variable_at, nobody}
use Rattle.lra_analysis_spec.specs.Crates.lra_program.Step.{append, store_value, push, truncate_to}
use Rattle.lra_analysis_spec.specs.Crates.{lra_base.Operators.plus, lra_base.Operators.below, lra_base.Operators.equal, lra_base.declared.number_types.NumberType.NumberType}
use Rattle.lra_analysis_spec.specs.Crates.{lra_base.declared.number_types.NumberType.TheVariants.Int, lra_base.declared.number_types.NumberType.TheVariants.Long, lra_linear_forms.Form.Form}
use Rattle.lra_analysis_spec.specs.Crates.{lra_linear_spec.declared.ConKind.TheVariants.Ge, lra_program.Value.Argument, lra_program.declared.program.GlobalVariable.GlobalVariable}
use Rattle.lra_domain.specs.Actions.{assign, forget, embed, remove_last, test}
use Rattle.lra_domain.specs.declared.Mode.TheVariants.{Join, Widen, Limited, Tightest}
use Rattle.lra_domain.specs.{Moves.Moves, Moves.stay, Moves.make, Moves.first_then, declared.Exactness.TheVariants.Flagged}
use Rattle.lra_analysis_spec.proofs.Crates.lra_program.RunExamples.{long_variable}
use Rattle.lra_operations.specs.Tree.{broken, returned}
use Rattle.lra_analysis_spec.specs.Plan.{standard, limited, by_thresholds, mode_at}
use Rattle.lra_analysis_spec.specs.{GuardThresholds.guard_thresholds, MovesOf.moves_of, MovesOf.first_values, Pass.PassResult, Pass.noted, Pass.values_behind}

abbrev form : ℤ → List ℤ → Form
form c cs = record { constant = c; coefficients = cs }

abbrev i : Expr
i = read (long_variable (local 0))

-- of !(i < 10 || i == 3), that is i >= 10 && i != 3, the rows i - 10 >= 0, i - 9 >= 0, i - 3 >= 0 and 3 - i >= 0
opposite_given : (guard_thresholds 1 0 (opposite (either_of (compare below i (literal Int 10)) (compare equal i (literal Int 3))))).rows
    ≡ (negsuc 9 ∷ pos 1 ∷ []) ∷ (negsuc 8 ∷ pos 1 ∷ []) ∷ (negsuc 2 ∷ pos 1 ∷ []) ∷ (pos 3 ∷ negsuc 0 ∷ []) ∷ []
opposite_given = refl

-- of i < 10 || i < input() the rows of i < 10 alone, once
or_given : (guard_thresholds 1 0 (either_of (compare below i (literal Int 10)) (compare below i input))).rows ≡ (pos 9 ∷ negsuc 0 ∷ []) ∷ (pos 10 ∷ negsuc 0 ∷ []) ∷ []
or_given = refl

-- what a call gives to a parameter of the type
abbrev argument : NumberType → Expr → Argument
argument t e = record { number_type = t; value = e }

abbrev variable : NumberType → ℤ → GlobalVariable
variable t z = record { number_type = t; value = z }

-- after what gives an `int` its value: x + 2^31 >= 0, 2^31 - 1 - x >= 0
abbrev of_int : Moves → List ℤ → List ℤ → Moves
of_int p one contrary = first_then p (first_then (make (test Ge (form (pos 2147483648) one))) (make (test Ge (form (pos 2147483647) contrary))))

-- one variable is live: a call's parameter is new and gets i + 1
push_example : moves_of 1 (push 0 (argument Long (binary plus i (literal Int 1)) ∷ [])) ≡ first_then (first_then (make (embed 1)) (make (assign 1 (form (pos 1) (pos 1 ∷ pos 0 ∷ []))))) stay
push_example = refl

-- a parameter that gets no linear form may be anything
push_input : moves_of 1 (push 0 (argument Long input ∷ [])) ≡ first_then (first_then (make (embed 1)) (make (forget 1))) stay
push_input = refl

-- a parameter that is an `int` lies within 32 bits, where it is: catches tests of the place before it
push_int : moves_of 1 (push 0 (argument Int input ∷ [])) ≡
    first_then (of_int (first_then (make (embed 1)) (make (forget 1))) (pos 0 ∷ pos 1 ∷ []) (pos 0 ∷ negsuc 0 ∷ [])) stay
push_int = refl

-- an `int` after a draw and after an assignment, a `long` after none
int_fresh : moves_of 0 (append Int) ≡ of_int (make (embed 1)) (pos 1 ∷ []) (negsuc 0 ∷ [])
int_fresh = refl

int_given : moves_of 1 (store_value 0 (variable_at 0 Int) (literal Int 3)) ≡ of_int (make (assign 0 (form (pos 3) (pos 0 ∷ [])))) (pos 1 ∷ []) (negsuc 0 ∷ [])
int_given = refl

long_given : moves_of 1 (store_value 0 (variable_at 0 Long) (literal Int 3)) ≡ make (assign 0 (form (pos 3) (pos 0 ∷ [])))
long_given = refl

-- of three variables the newest two go; if none goes nothing is done
keep_one : moves_of 3 (truncate_to 1) ≡ make (remove_last 2)
keep_one = refl

keep_all : moves_of 3 (truncate_to 3) ≡ stay
keep_all = refl

-- a value without a variable that gets it changes nothing
no_target : moves_of 1 (store_value 0 nobody input) ≡ stay
no_target = refl

-- two globals, -3 and 5
globals_example : first_values 0 (variable Long (negsuc 2) ∷ variable Long (pos 5) ∷ [])
    ≡ first_then (first_then (make (embed 1)) (make (assign 0 (form (negsuc 2) (pos 0 ∷ [])))))
    (first_then (first_then (make (embed 1)) (make (assign 1 (form (pos 5) (pos 0 ∷ pos 0 ∷ []))))) stay)
globals_example = refl

global_int : first_values 0 (variable Int (pos 5) ∷ []) ≡
    first_then (of_int (first_then (make (embed 1)) (make (assign 0 (form (pos 5) (pos 0 ∷ []))))) (pos 1 ∷ []) (negsuc 0 ∷ [])) stay
global_int = refl

-- the first flagged point stays
first_stays : noted 7 Flagged (Some 3) ≡ Some 3
first_stays = refl

-- the first rounds join, the others widen, limited or not
modes : (mode_at limited 1 ≡ Join) × (mode_at limited 0 ≡ Limited) × (mode_at standard 0 ≡ Widen) × (mode_at (by_thresholds []) 0 ≡ Tightest)
modes = (refl, refl, refl, refl)

-- a loop's own end comes before what broke out; a call's end after what returned
abbrev two_jumps : PassResult ℕ
two_jumps = record { entries = []; normal = 9; breaks = 1 ∷ 2 ∷ []; continues = []; returns = 3 ∷ 4 ∷ []; flag = None }

broken_order : values_behind broken two_jumps ≡ (9, 1 ∷ 2 ∷ [])
broken_order = refl

returned_order : values_behind returned two_jumps ≡ (3, 4 ∷ 9 ∷ [])
returned_order = refl
