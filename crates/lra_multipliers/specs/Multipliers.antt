-- Whole multipliers that show an inequality (Farkas 1902), and the check of them.
use Rattle.std.specs.Prelude.{◌≡◌, ◌⊎◌, ℕ, ℤ, pos, ◌+ℤ◌, ◌*ℤ◌, ◌≤ℤ◌, ◌<ℤ◌, Bool, true, false, ⊤, List, [], ◌∷◌, length}
use Rattle.std.specs.Prelude.{Result, Ok, Err, int_le, ◌&&◌}
use Rattle.std.specs.{Cmp.Lexicographic.pointwise, Ordering.int_eq}
use Rattle.lra_multipliers.specs.Crates.lra_linear_spec.CheckedArithmetic.{checked_added, and_then}
use Rattle.lra_multipliers.specs.Crates.lra_linear_spec.Descriptions.{LinearRow, rows_of, Con}
use Rattle.lra_multipliers.specs.Crates.lra_linear_spec.Vectors.{entry, zeros, signed_sum, product}
use Rattle.lra_multipliers.specs.Crates.{lra_linear_spec.Polyhedra.positivity, lra_linear_spec.declared.Excess.Excess}
use Rattle.lra_multipliers.specs.Symbols.{constant_row}

-- of the claim, of 1 >= 0, and of each premise
pub record Multipliers : Type 0 where
  pub divisor : ℤ
  pub constant : ℤ
  pub factors : List ℤ

-- an equality's is of either sign
abbrev pub IsSigned : Bool → ℤ → Type 0
IsSigned true l = ⊤
IsSigned false l = pos 0 ≤ℤ l

-- one for each premise
abbrev pub AreSigned : List LinearRow → List ℤ → Type 0
AreSigned [] [] = ⊤
AreSigned [] (l ∷ ls) = ⊥
AreSigned (g ∷ gs) [] = ⊥
AreSigned (g ∷ gs) (l ∷ ls) = IsSigned g.equal l × AreSigned gs ls

-- a positive multiple of the claim is a sum of 1 >= 0 and the premises, column by column
pub record IsFarkasCertificate (premises : List LinearRow) (claim : List ℤ) (m : Multipliers) : Type 0 where
  pub divisor : pos 0 <ℤ m.divisor
  pub constant : pos 0 ≤ℤ m.constant
  pub factors : AreSigned premises m.factors
  pub sum : (j : ℕ) → m.divisor *ℤ entry claim j ≡
      (m.constant *ℤ entry (positivity (length claim)) j) +ℤ signed_sum m.factors (rows_of premises) j

-- the numbers of which the check is made: the multiple of the claim; then the sum, first of 1 >= 0, premise by premise
abbrev pub checked_multiple : List ℤ → ℤ → Result (List ℤ) Excess
checked_multiple claim divisor = checked_added divisor (zeros (length claim)) claim

abbrev pub checked_sum : List ℤ → List ℤ → List LinearRow → Result (List ℤ) Excess
checked_sum sum [] premises = Ok sum
checked_sum sum (l ∷ ls) [] = Ok sum
checked_sum sum (l ∷ ls) (g ∷ gs) = and_then (checked_added l sum g.row) (λ next. checked_sum next ls gs)

abbrev pub premises_sum : List LinearRow → List ℤ → Multipliers → Result (List ℤ) Excess
premises_sum premises claim m = checked_sum (zeros (length claim)) (m.constant ∷ m.factors)
    (record { row = constant_row (length claim) (pos 1); equal = false } ∷ premises)

-- a product or a partial sum passes the range
abbrev pub IsCheckWide : List LinearRow → List ℤ → Multipliers → Type 0
IsCheckWide premises claim m = ((e : Excess) × (checked_multiple claim m.divisor ≡ Err e)) ⊎
    ((e : Excess) × (premises_sum premises claim m ≡ Err e))

pub data Answer : Type 0 where
  yes : Answer
  no : Answer
  wide : Answer

-- the answer of the check; exactly one is right
abbrev pub IsAnswer : List LinearRow → List ℤ → Multipliers → Answer → Type 0
IsAnswer premises claim m yes = (¬ IsCheckWide premises claim m) × IsFarkasCertificate premises claim m
IsAnswer premises claim m no = (¬ IsCheckWide premises claim m) × (¬ IsFarkasCertificate premises claim m)
IsAnswer premises claim m wide = IsCheckWide premises claim m

-- the check, as it is made: first whether something passes, then the signs, then the sum
abbrev pub is_signed : Bool → ℤ → Bool
is_signed true l = true
is_signed false l = int_le (pos 0) l

abbrev pub are_signed : List LinearRow → List ℤ → Bool
are_signed [] [] = true
are_signed [] (l ∷ ls) = false
are_signed (g ∷ gs) [] = false
are_signed (g ∷ gs) (l ∷ ls) = is_signed g.equal l && are_signed gs ls

abbrev pub may_show : List LinearRow → Multipliers → Bool
may_show premises m = int_le (pos 1) m.divisor && int_le (pos 0) m.constant && are_signed premises m.factors

abbrev pub shown_if : Bool → Answer
shown_if true = yes
shown_if false = no

abbrev pub compared : Result (List ℤ) Excess → Result (List ℤ) Excess → Bool → Answer
compared (Err e) sum signed = wide
compared (Ok row) (Err e) signed = wide
compared (Ok row) (Ok sum) signed = shown_if (signed && pointwise int_eq row sum)

abbrev pub checked : List LinearRow → List ℤ → Multipliers → Answer
checked premises claim m = compared (checked_multiple claim m.divisor) (premises_sum premises claim m)
    (may_show premises m)

-- if the premises hold, a claim that multipliers show does
abbrev pub MultipliersShow : Type 0
MultipliersShow = (premises : List LinearRow) (claim x : List ℤ) (m : Multipliers) →
    IsFarkasCertificate premises claim m →
    pos 0 ≤ℤ entry x 0 → Con premises x → pos 0 ≤ℤ product claim x
