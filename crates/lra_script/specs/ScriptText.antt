-- The lines of a script, their words, and the names and numbers among these.
use Rattle.std.specs.Prelude.{ℕ, ◌-◌, ℤ, Bool, true, false, ◌&&◌, ◌||◌, not, nat_eq, List, [], ◌∷◌, length, take, drop}
use Rattle.std.specs.Prelude.{map, filter, if◌then◌else◌, Option, Some, None}
use Rattle.std.specs.{Char.is_ascii_digit, Char.is_ascii_uppercase, Char.is_ascii_alphanumeric, List.slice_split}
use Rattle.std.specs.{List.ends_with, List.list_all, Str.Parse.starts_with_minus, Str.Parse.signed_digits_value}
use Rattle.lra_script.specs.Crates.lra_linear_spec.Range.{in_range}

-- lines ------------------------------------------------------------------------------------------------------------

-- a last carriage return is no part of the line
abbrev pub without_return : List ℕ → List ℕ
without_return line = if ends_with nat_eq line (13 ∷ []) then take (length line - 1) line else line

-- what stands before, between and after the line feeds; nothing is after the last if it ends the script, and such
-- a line is skipped
abbrev pub lines : List ℕ → List (List ℕ)
lines bytes = map without_return (slice_split (λ b. nat_eq b 10) bytes)

-- only spaces, or a `#` first
abbrev pub is_skipped : List ℕ → Bool
is_skipped [] = true
is_skipped (b ∷ bs) = nat_eq b 35 || list_all (λ c. nat_eq c 32) (b ∷ bs)

-- words ------------------------------------------------------------------------------------------------------------

-- what stands between spaces
abbrev pub words : List ℕ → List (List ℕ)
words line = filter (λ w. not (nat_eq (length w) 0)) (slice_split (λ b. nat_eq b 32) line)

-- a capital letter, then letters and digits
abbrev pub is_name : List ℕ → Bool
is_name [] = false
is_name (c ∷ cs) = is_ascii_uppercase c && list_all is_ascii_alphanumeric cs

abbrev pub without_minus : List ℕ → List ℕ
without_minus word = if starts_with_minus word then drop 1 word else word

-- decimal digits, a `-` before them or not
abbrev pub is_number : List ℕ → Bool
is_number word = not (nat_eq (length (without_minus word)) 0) && list_all is_ascii_digit (without_minus word)

-- the number that a word writes, if it is one of the range
abbrev pub number_of : List ℕ → Option ℤ
number_of word = if is_number word && in_range (signed_digits_value 10 word) then Some (signed_digits_value 10 word)
    else None
