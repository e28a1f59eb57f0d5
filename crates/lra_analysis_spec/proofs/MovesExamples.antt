-- Moves of conditions. Which slip an example would catch stands beside it.
use Rattle.std.proofs.Common.{◌≡◌, ℤ, pos, negsuc, [], ◌∷◌, true, false, refl, inr}
use Rattle.lra_analysis_spec.proofs.Crates.lra_program.RunExamples.{long_variable}
use Rattle.lra_analysis_spec.specs.Crates.lra_base.Operators.{modulo, below, equal, differs}
use Rattle.lra_analysis_spec.specs.Crates.lra_program.Program.{local, Expr, literal, read, input, negate, binary, compare, nonzero, opposite, both_of, either_of}
use Rattle.lra_analysis_spec.specs.Crates.{lra_base.declared.number_types.NumberType.TheVariants.Int, lra_linear_spec.declared.ConKind.TheVariants.Ge, lra_linear_spec.declared.ConKind.TheVariants.Eq}
use Rattle.lra_domain.specs.{Actions.Action, Actions.test, Actions.embed, Actions.forget, Moves.stay, Moves.make, Moves.first_then, Moves.join_of, Moves.MayLead, Moves.cases, Moves.dims_moved}
use Rattle.lra_analysis_spec.specs.MovesOf.{guard, value_moves}

-- two live variables
abbrev x : Expr
x = read (long_variable (local 0))

abbrev y : Expr
y = read (long_variable (local 1))

-- c + a*x + b*y >= 0, or = 0
abbrev at_least_0 : ℤ → ℤ → ℤ → Action
at_least_0 c a b = test Ge (record { constant = c; coefficients = a ∷ b ∷ [] })

abbrev is_0 : ℤ → ℤ → ℤ → Action
is_0 c a b = test Eq (record { constant = c; coefficients = a ∷ b ∷ [] })

-- x < y
abbrev less : Action
less = at_least_0 (negsuc 0) (negsuc 0) (pos 1)

-- x != y joins x < y with x > y, in this order
differs_joins : guard 2 0 true (compare differs x y) ≡ join_of (make less) (make (at_least_0 (negsuc 0) (pos 1) (negsuc 0)))
differs_joins = refl

-- !(x < y && x) is !(x < y), or x < y and then x == 0: catches an `&&` that stays, and a right side that is met if the left one is false
opposed : guard 2 0 true (opposite (both_of (compare below x y) (nonzero x)))
    ≡ join_of (make (at_least_0 (pos 0) (pos 1) (negsuc 0))) (first_then (make less) (make (is_0 (pos 0) (pos 1) (pos 0))))
opposed = refl

twice_opposed : guard 2 0 false (opposite (either_of (compare equal x y) (compare below x y)))
    ≡ join_of (make (is_0 (pos 0) (pos 1) (negsuc 0)))
    (first_then (join_of (make less) (make (at_least_0 (negsuc 0) (pos 1) (negsuc 0)))) (make less))
twice_opposed = refl

-- x == y and then x < y; a comparison that isn't linear does nothing
in_turn : guard 2 0 true (both_of (compare equal x y) (compare below x input)) ≡ first_then (make (is_0 (pos 0) (pos 1) (negsuc 0))) stay
in_turn = refl

-- written out, a join has one case for each side, and what comes after it is in both
joined_then : cases (first_then (join_of (make (forget 0)) stay) (make less)) ≡ (forget 0 ∷ less ∷ []) ∷ (less ∷ []) ∷ []
joined_then = refl

opposed_cases : cases (guard 2 0 false (both_of (compare below x y) (nonzero x)))
    ≡ (at_least_0 (pos 0) (pos 1) (negsuc 0) ∷ []) ∷ (less ∷ is_0 (pos 0) (pos 1) (pos 0) ∷ []) ∷ []
opposed_cases = refl

-- at x = 1, y = 1 the left side of x < y || x == y leads nowhere, and the right one stays
right_leads : MayLead (join_of (make less) (make (is_0 (pos 0) (pos 1) (negsuc 0)))) (pos 1 ∷ pos 1 ∷ []) (pos 1 ∷ pos 1 ∷ [])
right_leads = inr (refl, refl)

two_more : dims_moved (first_then (make (embed 1)) (join_of (make (embed 1)) (make (embed 1)))) 2 ≡ 4
two_more = refl

-- switch(x){ case 5: .. }: what has the value 5 is what the comparison with the literal leaves, and so for what hasn't
value_5 : value_moves 2 0 true x (pos 5) ≡ make (is_0 (negsuc 4) (pos 1) (pos 0))
value_5 = refl

as_compared : (value_moves 2 0 true x (pos 5) ≡ guard 2 0 true (compare equal x (literal Int 5))) ×
    (value_moves 2 0 false x (pos 5) ≡ guard 2 0 true (compare differs x (literal Int 5)))
as_compared = (refl, refl)

-- case -1, over a remainder: catches the sign of the literal that is lost, and a division that isn't seen
remainder_compared : (value_moves 2 0 true (binary modulo x (literal Int 3)) (negsuc 0) ≡ guard 2 0 true
    (compare equal (binary modulo x (literal Int 3)) (negate (literal Int 1))))
    × (value_moves 2 0 false (binary modulo x (literal Int 3)) (negsuc 0) ≡ guard 2 0 true
    (compare differs (binary modulo x (literal Int 3)) (negate (literal Int 1))))
remainder_compared = (refl, refl)

-- nothing is seen of `input()`
input_compared : value_moves 2 0 true input (pos 5) ≡ stay
input_compared = refl
