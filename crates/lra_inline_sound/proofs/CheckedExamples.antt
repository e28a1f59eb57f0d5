-- What trees ask. Which slip each would catch stands beside it.
use Rattle.std.proofs.Common.{◌≡◌, ℤ, pos, [], ◌∷◌, Some, None, true, refl, inl, inr, map}
use Rattle.lra_inline_sound.specs.Crates.lra_program.Program.{Expr, literal, binary, Cond, nonzero}
use Rattle.lra_inline_sound.specs.Crates.lra_program.Step.{State, Op, append, store_value, push_for, test, run_op}
use Rattle.lra_inline_sound.specs.Crates.{lra_base.Operators.plus, lra_base.declared.number_types.NumberType.TheVariants.Int, lra_program.Accesses.OpOutOfBounds, lra_program.Receivers.variable_at}
use Rattle.lra_operations.specs.CheckedOperations.{OpAtPoint, computing_ops, accessing_ops, OverflowsAtPoint}
use Rattle.lra_operations.specs.Tree.{empty, point, act, seq, choose}
use Rattle.lra_inline_sound.proofs.GraphExamples.{called_twice_graph, element_called_graph, two_elements, aimed}

abbrev sum_too_great : Expr
sum_too_great = binary plus (literal Int 2147483647) (literal Int 1)

abbrev sum_given : Op
sum_given = store_value 0 (variable_at 0 Int) sum_too_great

abbrev asked_behind_new : OpAtPoint
asked_behind_new = record { point = 0; fresh = Some Int; op = sum_given }

-- int x = 2147483647 + 1: catches an operation that is reported as if its variable weren't there yet
new_variable_asks : computing_ops None (seq (point 0) (seq (act 0 (append Int)) (act 0 sum_given))) ≡ asked_behind_new ∷ []
new_variable_asks = refl

-- with 5 for the new variable it overflows, on top of an empty store
new_variable_overflows : (s : State) → s ≡ record { store = []; arrays = []; waiting = []; draws = pos 5 ∷ [] } → OverflowsAtPoint asked_behind_new s
new_variable_overflows s e = rw e
    (record { store = pos 5 ∷ []; arrays = []; waiting = []; draws = [] }, refl, inl (inr ((pos 2147483647, []), refl, inr ((pos 1, []), refl, refl))))

-- int x; x = 2147483647 + 1: catches a variable that is new at the points after it
old_variable_asks : computing_ops None (seq (seq (point 0) (act 0 (append Int))) (seq (point 1) (act 1 sum_given))) ≡ record
    { point = 1; fresh = None; op = sum_given } ∷ []
old_variable_asks = refl

abbrev sum_tested : Cond
sum_tested = nonzero sum_too_great

-- if (2147483647 + 1) ..: catches a condition that is asked for both sides
condition_asks : computing_ops None (choose 3 0 sum_tested empty empty) ≡ record { point = 3; fresh = None; op = test 0 sum_tested true } ∷ []
condition_asks = refl

-- `a + 1` of a function that is called twice is asked where each call is written out; a literal for an argument isn't asked
called_twice_asks : map (λ (a : OpAtPoint). a.point) (computing_ops None called_twice_graph.0) ≡ 1 ∷ 5 ∷ []
unfolding called_twice_graph
called_twice_asks = refl

-- accesses: both of `a[a[0]]=f()` are those of the call's operation, and of nothing else; no number can stop it
element_called_accesses : (accessing_ops None element_called_graph.0 ≡ record { point = 1; fresh = None; op = push_for 0 aimed [] } ∷ [])
    × (computing_ops None element_called_graph.0 ≡ [])
unfolding element_called_graph
element_called_accesses = (refl, refl)

-- with 2 at the index 0 the second of them is outside, and with 1 none is: catches accesses that are counted from the outside in
abbrev holding : ℤ → State
holding z = record { store = []; arrays = (two_elements.declared, z ∷ pos 0 ∷ []) ∷ []; waiting = []; draws = [] }

outside : OpOutOfBounds (push_for 0 aimed []) (holding (pos 2)) 1
outside = inl (inr ((pos 2, []), refl, refl, refl))

inside : run_op (push_for 0 aimed []) (holding (pos 1)) ≡ Some (record (holding (pos 1)) { waiting = 1 ∷ [] })
inside = refl
