-- Divisions as an analysis sees them, and their moves. Which slip an example would catch stands beside it.
use Rattle.std.proofs.Common.{◌≡◌, ℤ, pos, negsuc, List, [], ◌∷◌, Some, None, true, false, refl, inr}
use Rattle.std.specs.Int.Signed.{le_z_yes}
use Rattle.lra_analysis_spec.specs.Crates.lra_base.Operators.{plus, minus, times, over, modulo, equal, differs}
use Rattle.lra_analysis_spec.specs.Crates.lra_program.Program.{local, Expr, literal, read, negate, binary, compare, nonzero}
use Rattle.lra_analysis_spec.specs.Crates.lra_program.Step.{store_value}
use Rattle.lra_analysis_spec.specs.Crates.{lra_base.declared.number_types.NumberType.TheVariants.Int, lra_base.declared.number_types.NumberType.TheVariants.Long, lra_linear_forms.Form.Form}
use Rattle.lra_analysis_spec.specs.Crates.{lra_linear_spec.declared.ConKind.TheVariants.Ge, lra_linear_spec.declared.ConKind.TheVariants.Eq, lra_program.Receivers.variable_at}
use Rattle.lra_analysis_spec.proofs.Crates.lra_program.RunExamples.{long_variable}
use Rattle.lra_domain.specs.Actions.{Action, assign, test, embed, remove_last}
use Rattle.lra_domain.specs.Moves.{stay, make, first_then, join_of, dims_moved, cases, MayLead}
use Rattle.lra_analysis_spec.specs.declared.linearization.Linearized.TheVariants.{Divided, Unseen}
use Rattle.lra_analysis_spec.specs.{Linearization.division, Linearization.linearized, MovesOf.in_cases, MovesOf.guard, MovesOf.moves_of, declared.linearization.Division.Division}

-- one live variable
abbrev x : Expr
x = read (long_variable (local 0))

abbrev form : ℤ → List ℤ → Form
form c cs = record { constant = c; coefficients = cs }

-- of x by k
abbrev x_by : ℤ → Division
x_by k = record { numerator = form (pos 0) (pos 1 ∷ []); opposite = form (negsuc 0) (negsuc 0 ∷ []); divisor = k }

-- x / 2 is t, x % 2 is r: catches the one for the other
half_seen : linearized 1 0 (binary over x (literal Int 2)) ≡ Divided (x_by (pos 2)) (form (pos 0) (pos 0 ∷ pos 1 ∷ pos 0 ∷ []))
half_seen = refl

rest_seen : linearized 1 0 (binary modulo x (literal Int 2)) ≡ Divided (x_by (pos 2)) (form (pos 0) (pos 0 ∷ pos 0 ∷ pos 1 ∷ []))
rest_seen = refl

-- by 1 - 4 + 5, which is a constant form; catches a divisor that has to be a literal
constant_divisor : linearized 1 0 (binary over x (binary plus (binary minus (literal Int 1) (literal Int 4)) (literal Int 5)))
    ≡ Divided (x_by (pos 2)) (form (pos 0) (pos 0 ∷ pos 1 ∷ pos 0 ∷ []))
constant_divisor = refl

-- by 0, by -2, by x, of x*x, and within a larger expression nothing is seen: catches a negative divisor that is taken, and `x/2 + 1` as a division
nothing_seen : (linearized 1 0 (binary over x (literal Int 0)) ≡ Unseen) × (linearized 1 0 (binary over x (negate (literal Int 2))) ≡ Unseen)
    × (linearized 1 0 (binary over x x) ≡ Unseen) × (linearized 1 0 (binary over (binary times x x) (literal Int 2)) ≡ Unseen)
    × (linearized 1 0 (binary plus (binary over x (literal Int 2)) (literal Int 1)) ≡ Unseen)
    × (linearized 1 0 (negate (binary over x (literal Int 2))) ≡ Unseen)
    × (linearized 1 0 (binary over (binary over x (literal Int 2)) (literal Int 2)) ≡ Unseen)
nothing_seen = (refl, refl, refl, refl, refl, refl, refl)

-- -2^63*x has no opposite, and x + 2^63 - 1 no number above it: the old rule, for the whole; one below both have theirs
too_wide : (division (form (pos 0) (negsuc 9223372036854775807 ∷ [])) (form (pos 2) (pos 0 ∷ [])) ≡ None)
    × (division (form (pos 9223372036854775807) (pos 1 ∷ [])) (form (pos 2) (pos 0 ∷ [])) ≡ None)
too_wide = (refl, refl)

just_fits : division (form (pos 9223372036854775806) (negsuc 9223372036854775806 ∷ [])) (form (pos 2) (pos 0 ∷ []))
    ≡ Some (record {
      numerator = form (pos 9223372036854775806) (negsuc 9223372036854775806 ∷ []);
      opposite = form (negsuc 9223372036854775806) (pos 9223372036854775807 ∷ []);
      divisor = pos 2;
    })
just_fits = refl

-- c + a*x + b*t + d*r >= 0, or = 0
abbrev at_least_0 : ℤ → ℤ → ℤ → ℤ → Action
at_least_0 c a b d = test Ge (form c (a ∷ b ∷ d ∷ []))

abbrev is_0 : ℤ → ℤ → ℤ → ℤ → Action
is_0 c a b d = test Eq (form c (a ∷ b ∷ d ∷ []))

-- x = x / 3: x >= 0, t and r, r >= 0, 2 - r >= 0, x - 3*t - r = 0; -x - 1 >= 0, t and r, r + 2 >= 0, -r >= 0 and the same; catches a remainder
-- with the other sign, 3 - r >= 0, one case alone, cases in the other order, and t and r that stay
third : cases (moves_of 1 (store_value 0 (variable_at 0 Long) (binary over x (literal Int 3)))) ≡
    (test Ge (form (pos 0) (pos 1 ∷ [])) ∷ embed 2 ∷ at_least_0 (pos 0) (pos 0) (pos 0) (pos 1) ∷ at_least_0 (pos 2) (pos 0) (pos 0) (negsuc 0)
    ∷ is_0 (pos 0) (pos 1) (negsuc 2) (negsuc 0) ∷ assign 0 (form (pos 0) (pos 0 ∷ pos 1 ∷ pos 0 ∷ [])) ∷ remove_last 2 ∷ [])
    ∷ (test Ge (form (negsuc 0) (negsuc 0 ∷ [])) ∷ embed 2 ∷ at_least_0 (pos 2) (pos 0) (pos 0) (pos 1) ∷ at_least_0 (pos 0) (pos 0) (pos 0) (negsuc 0)
    ∷ is_0 (pos 0) (pos 1) (negsuc 2) (negsuc 0) ∷ assign 0 (form (pos 0) (pos 0 ∷ pos 1 ∷ pos 0 ∷ [])) ∷ remove_last 2 ∷ []) ∷ []
third = refl

third_dims : dims_moved (moves_of 1 (store_value 0 (variable_at 0 Long) (binary over x (literal Int 3)))) 1 ≡ 1
third_dims = refl

-- the tests of an `int` come after the join, once: catches them in each case
int_behind : moves_of 1 (store_value 0 (variable_at 0 Int) (binary modulo x (literal Int 3)))
    ≡ first_then (in_cases 1 (x_by (pos 3)) (assign 0 (form (pos 0) (pos 0 ∷ pos 0 ∷ pos 1 ∷ []))))
    (first_then (make (test Ge (form (pos 2147483648) (pos 1 ∷ [])))) (make (test Ge (form (pos 2147483647) (negsuc 0 ∷ [])))))
int_behind = refl

-- x / 2 == 3 tests t - 3 = 0 in both cases, 3 == x / 2 tests 3 - t = 0: catches sides that are exchanged
half_is_3 : guard 1 0 true (compare equal (binary over x (literal Int 2)) (literal Int 3)) ≡ in_cases 1 (x_by (pos 2)) (is_0 (negsuc 2) (pos 0) (pos 1) (pos 0))
half_is_3 = refl

is_half : guard 1 0 true (compare equal (literal Int 3) (binary over x (literal Int 2))) ≡ in_cases 1 (x_by (pos 2)) (is_0 (pos 3) (pos 0) (negsuc 0) (pos 0))
is_half = refl

-- !(x % 2) is x % 2 == 0; x % 2 alone is r < 0 or r > 0, each in both cases: catches cases that are split into `<` and `>`
even : guard 1 0 false (nonzero (binary modulo x (literal Int 2))) ≡ in_cases 1 (x_by (pos 2)) (is_0 (pos 0) (pos 0) (pos 0) (pos 1))
even = refl

odd : guard 1 0 true (nonzero (binary modulo x (literal Int 2)))
    ≡ join_of (in_cases 1 (x_by (pos 2)) (at_least_0 (negsuc 0) (pos 0) (pos 0) (negsuc 0)))
    (in_cases 1 (x_by (pos 2)) (at_least_0 (negsuc 0) (pos 0) (pos 0) (pos 1)))
odd = refl

-- two divisions in one comparison do nothing
two_divisions : guard 1 0 true (compare differs (binary over x (literal Int 7)) (binary modulo x (literal Int 7))) ≡ stay
two_divisions = refl

-- -7 / 2 is -3 and leaves -1: the second case leads there, over the store -7
seven_halved : MayLead (moves_of 1 (store_value 0 (variable_at 0 Long) (binary over x (literal Int 2)))) (negsuc 6 ∷ []) (negsuc 2 ∷ [])
seven_halved = inr (
  negsuc 6 ∷ negsuc 2 ∷ negsuc 0 ∷ [],
  (
    negsuc 6 ∷ [],
    (le_z_yes tt, refl),
    (
      negsuc 6 ∷ negsuc 2 ∷ negsuc 0 ∷ [],
      (negsuc 2 ∷ negsuc 0 ∷ [], refl, refl),
      (
        negsuc 6 ∷ negsuc 2 ∷ negsuc 0 ∷ [],
        (le_z_yes tt, refl),
        (negsuc 6 ∷ negsuc 2 ∷ negsuc 0 ∷ [], (le_z_yes tt, refl), (negsuc 6 ∷ negsuc 2 ∷ negsuc 0 ∷ [], (refl, refl), refl)),
      ),
    ),
  ),
  (negsuc 2 ∷ negsuc 2 ∷ negsuc 0 ∷ [], refl, refl),
)
