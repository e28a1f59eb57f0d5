-- The lines of an input by the place where they begin among its bytes.
use Rattle.std.specs.List.{All, slice_split, count_by, starts_with}
use Rattle.std.specs.Prelude.{◌≡◌, ◌<◌, ℕ, suc, ◌+◌, Bool, false, List, [], ◌∷◌, length, take, drop, Option, None, Some}
use Rattle.std.specs.Prelude.{Ok, nat_eq, codes}
use Rattle.lra_certificate_spec.specs.Judged.{Left, Judged, then_judged, line_on, after_line}

abbrev pub is_feed : ℕ → Bool
is_feed b = nat_eq b 10

-- what is left from this place on
abbrev pub pieces_at : List ℕ → ℕ → List (List ℕ)
pieces_at bytes at = slice_split is_feed (drop at bytes)

abbrev pub line_number_at : List ℕ → ℕ → ℕ
line_number_at bytes at = suc (count_by is_feed (take at bytes))

abbrev pub left_at : List ℕ → ℕ → Left
left_at bytes at = record { number = line_number_at bytes at; pieces = pieces_at bytes at }

abbrev pub HasNoFeed : List ℕ → Type 0
HasNoFeed text = All (λ b. is_feed b ≡ false) text

-- the line that begins here
pub record IsLineAt (bytes : List ℕ) (at : ℕ) (line : List ℕ) : Type 0 where
  pub on : line_on (pieces_at bytes at) ≡ Some line
  pub after : after_line (left_at bytes at) ≡ left_at bytes (at + length line + 1)
  pub within : at + length line < length bytes

-- the lines of rows begin with a space
abbrev pub is_row_line : Option (List ℕ) → Bool
is_row_line None = false
is_row_line (Some line) = starts_with nat_eq line (codes " ")

-- each in turn
abbrev pub judged_in_turn : {A : Type 0} → (A → Left → Judged Left) → List A → Left → Judged Left
judged_in_turn f [] l = Ok l
judged_in_turn f (x ∷ xs) l = then_judged (f x l) (λ next. judged_in_turn f xs next)
