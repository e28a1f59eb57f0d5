-- Definitions of certificates on small operands. Which slip an example would catch stands beside it.
use Rattle.std.proofs.Common.{◌≡◌, ℤ, pos, negsuc, List, [], ◌∷◌, ◌++◌, Some, None, refl}
use Rattle.std.specs.Prelude.{codes, Ok}
use Rattle.lra_certificate_spec.specs.Crates.lra_domain.Actions.{assign, forget, test, embed, remove_last}
use Rattle.lra_certificate_spec.specs.Crates.lra_linear_spec.Descriptions.{LinearRow, equality, inequality}
use Rattle.lra_certificate_spec.specs.Crates.lra_linear_spec.declared.ConKind.TheVariants.{Ge}
use Rattle.lra_multipliers.specs.{Multipliers.Multipliers, Multipliers.yes, Multipliers.no, Multipliers.wide, Multipliers.checked, Symbols.executed_path}
use Rattle.lra_certificate_spec.specs.Judged.{number_in, row_in, multipliers_in, head_of}

-- numbers have one spelling
zero_is : number_in (codes "0") ≡ Some (pos 0)
zero_is = refl

below_zero : number_in (codes "-12") ≡ Some (negsuc 11)
below_zero = refl

zeros_before : number_in (codes "01") ≡ None
zeros_before = refl

minus_zero : number_in (codes "-0") ≡ None
minus_zero = refl

plus_one : number_in (codes "+1") ≡ None
plus_one = refl

no_number : number_in [] ≡ None
no_number = refl

-- rows of a point with one variable
row_is : row_in 1 (codes "  >= -3 1") ≡ Some (inequality (negsuc 2 ∷ pos 1 ∷ []))
row_is = refl

equal_row : row_in 1 (codes "  = -3 1") ≡ Some (equality (negsuc 2 ∷ pos 1 ∷ []))
equal_row = refl

one_space_more : row_in 1 (codes "  >=  -3 1") ≡ None
one_space_more = refl

space_behind : row_in 1 (codes "  >= -3 1 ") ≡ None
space_behind = refl

one_number_more : row_in 1 (codes "  >= -3 1 0") ≡ None
one_number_more = refl

-- lines
line_is : multipliers_in (codes "by") 1 (codes "by 1 0 -1") ≡ Some (record { divisor = pos 1; constant = pos 0; factors = negsuc 0 ∷ [] })
line_is = refl

other_word : multipliers_in (codes "dead") 1 (codes "by 1 0 1") ≡ None
other_word = refl

-- the check: the premise x = 3
abbrev is_three : List LinearRow
is_three = equality (negsuc 2 ∷ pos 1 ∷ []) ∷ []

abbrev times : ℤ → ℤ → ℤ → Multipliers
times d k l = record { divisor = d; constant = k; factors = l ∷ [] }

shown : checked is_three (negsuc 2 ∷ pos 1 ∷ []) (times (pos 1) (pos 0) (pos 1)) ≡ yes
shown = refl

twice_shown : checked is_three (negsuc 2 ∷ pos 1 ∷ []) (times (pos 2) (pos 0) (pos 2)) ≡ yes
twice_shown = refl

-- minus the row, by an equality's factor below 0: catches a sign that is asked of equalities
opposite_shown : checked is_three (pos 3 ∷ negsuc 0 ∷ []) (times (pos 1) (pos 0) (negsuc 0)) ≡ yes
opposite_shown = refl

no_factor : checked is_three (negsuc 2 ∷ pos 1 ∷ []) (times (pos 1) (pos 0) (pos 0)) ≡ no
no_factor = refl

-- a divisor 0, and one below it
no_divisor : checked is_three (negsuc 2 ∷ pos 1 ∷ []) (times (pos 0) (pos 0) (pos 0)) ≡ no
no_divisor = refl

divisor_below : checked is_three (negsuc 2 ∷ pos 1 ∷ []) (times (negsuc 0) (pos 0) (negsuc 0)) ≡ no
divisor_below = refl

-- an inequality's factor below 0
factor_below : checked (inequality (negsuc 2 ∷ pos 1 ∷ []) ∷ []) (pos 3 ∷ negsuc 0 ∷ []) (times (pos 1) (pos 0) (negsuc 0)) ≡ no
factor_below = refl

-- three times the greatest number passes, before the signs are asked
passes_range : checked is_three (negsuc 2 ∷ pos 1 ∷ []) (times (pos 170141183460469231731687303715884105727) (pos 0)
    (pos 170141183460469231731687303715884105727)) ≡ wide
passes_range = refl

-- nor has it -2^127 times 1 >= 0
constant_passes : checked is_three (negsuc 2 ∷ pos 1 ∷ []) (times (pos 1) (negsuc 170141183460469231731687303715884105727) (pos 1)) ≡ wide
constant_passes = refl

-- paths: an assignment, a value of which nothing is reported, a test of that, and dimensions that come and go
assigned_three : executed_path 1 (assign 0 (record { constant = pos 3; coefficients = pos 0 ∷ [] }) ∷ []) ≡ Ok
    (record { forms = (pos 3 ∷ pos 0 ∷ []) ∷ []; tests = []; free = 2 })
assigned_three = refl

-- a new symbol: catches one that keeps the old
forgotten : executed_path 1 (forget 0 ∷ []) ≡ Ok (record { forms = (pos 0 ∷ pos 0 ∷ pos 1 ∷ []) ∷ []; tests = []; free = 3 })
forgotten = refl

tested_after : executed_path 1 (assign 0 (record { constant = pos 1; coefficients = pos 2 ∷ [] }) ∷ test Ge
    (record { constant = negsuc 4; coefficients = pos 3 ∷ [] }) ∷ [])
    ≡ Ok (record { forms = (pos 1 ∷ pos 2 ∷ []) ∷ []; tests = inequality (negsuc 1 ∷ pos 6 ∷ []) ∷ []; free = 2 })
tested_after = refl

come_and_gone : executed_path 1 (embed 2 ∷ remove_last 1 ∷ []) ≡ Ok (record {
  forms = (pos 0 ∷ pos 1 ∷ pos 0 ∷ pos 0 ∷ []) ∷ (pos 0 ∷ pos 0 ∷ pos 1 ∷ pos 0 ∷ []) ∷ [];
  tests = [];
  free = 4;
})
come_and_gone = refl

-- the head: the source's bytes, and what comes after its line feed
head_is : head_of (codes "certificate bytes 1" ++ 10 ∷ codes "$" ++ 10 ∷ codes "end") ≡ Some (record { source = codes "$"; rest = codes "end" })
head_is = refl

-- counted to the line feed: catches a source that ends one byte too late or too early
one_byte_more : head_of (codes "certificate bytes 2" ++ 10 ∷ codes "$" ++ 10 ∷ codes "end") ≡ None
one_byte_more = refl

one_digit_more : head_of (codes "certificate bytes 01" ++ 10 ∷ codes "$" ++ 10 ∷ codes "end") ≡ None
one_digit_more = refl
