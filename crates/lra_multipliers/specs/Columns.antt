-- The check of multipliers column by column, as it is made without memory.
use Rattle.std.specs.Ordering.{int_eq}
use Rattle.std.specs.Prelude.{◌≡◌, ◌<◌, ℕ, zero, suc, ◌+◌, ℤ, pos, ◌+ℤ◌, ◌*ℤ◌, Bool, true, false, ◌&&◌, List, [], ◌∷◌}
use Rattle.std.specs.Prelude.{Option, Some, None, if◌then◌else◌, option_and_then, int_le}
use Rattle.lra_multipliers.specs.Crates.{lra_linear_spec.Kinds.is_equality, lra_linear_spec.Range.in_range}
use Rattle.lra_multipliers.specs.Crates.{lra_linear_spec.Vectors.entry, lra_linear_spec.declared.ConKind.ConKind}
use Rattle.lra_multipliers.specs.Multipliers.{Multipliers, Answer, wide, is_signed, shown_if}

-- a number of the range
abbrev pub within_range : ℤ → Option ℤ
within_range z = if in_range z then Some z else None

abbrev pub added_to : ℤ → ℤ → Option ℤ
added_to sum product = option_and_then (λ p. within_range (sum +ℤ p)) (within_range product)

-- the sum in this column, or none if a product or a partial sum passes
abbrev pub column_sum : ℤ → List ℤ → List (List ℤ) → ℕ → Option ℤ
column_sum sum [] rows j = Some sum
column_sum sum (l ∷ ls) [] j = Some sum
column_sum sum (l ∷ ls) (r ∷ rows) j =
    option_and_then (λ next. column_sum next ls rows j) (added_to sum (l *ℤ entry r j))

-- of so many times 1 >= 0, which has a column 0 alone; and the sum that begins with that
abbrev pub first_of : ℕ → ℤ → ℤ
first_of zero k = k
first_of (suc j) k = pos 0

abbrev pub premises_column : List (List ℤ) → Multipliers → ℕ → Option ℤ
premises_column rows m j =
    option_and_then (λ first. column_sum first m.factors rows j) (within_range (first_of j m.constant))

-- the places of the factors other than 0, the first of them at this place
abbrev pub used_from : ℕ → List ℤ → List ℕ
used_from i [] = []
used_from i (l ∷ ls) = if int_eq l (pos 0) then used_from (i + 1) ls else i ∷ used_from (i + 1) ls

-- whether two numbers are the same, if there are both
abbrev pub both : Option ℤ → Option ℤ → Option Bool
both o p = option_and_then (λ x. option_and_then (λ y. Some (int_eq x y)) p) o

-- whether the multiple of the claim is the sum of the rows there
abbrev pub column_agrees : List (List ℤ) → List ℤ → Multipliers → ℕ → Option Bool
column_agrees rows claim m j =
    both (within_range (m.divisor *ℤ entry claim j)) (premises_column rows m j)

-- the columns before this one agree; or none of them passes, and one doesn't agree
abbrev pub AgreeBelow : (ℕ → Option Bool) → ℕ → Bool → Type 0
AgreeBelow f n true = (j : ℕ) → j < n → f j ≡ Some true
AgreeBelow f n false = ((j : ℕ) → j < n → (b : Bool) × (f j ≡ Some b)) × ((j : ℕ) × (j < n) × (f j ≡ Some false))

-- one of them passes, or they agree or not
abbrev pub ColumnsTell : (ℕ → Option Bool) → ℕ → Option Bool → Type 0
ColumnsTell f n None = (j : ℕ) × (j < n) × (f j ≡ None)
ColumnsTell f n (Some agree) = AgreeBelow f n agree

-- the signs, by the premises' kinds alone
abbrev pub kinds_signed : List ConKind → List ℤ → Bool
kinds_signed [] [] = true
kinds_signed [] (l ∷ ls) = false
kinds_signed (k ∷ ks) [] = false
kinds_signed (k ∷ ks) (l ∷ ls) = is_signed (is_equality k) l && kinds_signed ks ls

abbrev pub kinds_show : List ConKind → Multipliers → Bool
kinds_show kinds m = int_le (pos 1) m.divisor && int_le (pos 0) m.constant && kinds_signed kinds m.factors

-- the answer, by whether the signs are as they have to be
abbrev pub answer_told : Bool → Option Bool → Answer
answer_told signed None = wide
answer_told signed (Some agree) = shown_if (signed && agree)
