-- The numbers of a line as the code reads them, word by word.
use Rattle.std.specs.Prelude.{◌≡◌, ◌≤◌, ◌⊎◌, ℕ, ◌+◌, List, [], length, drop, None, Some}
use Rattle.lra_certificate_spec.specs.Judged.{number_in, then_number, spaced_numbers, words_of}

-- no word stands there: nothing does, or something else than a space does first
abbrev pub HasNoWord : List ℕ → Type 0
HasNoWord text = (spaced_numbers (words_of text) ≡ Some []) ⊎ (spaced_numbers (words_of text) ≡ None)

-- the first word of a text that begins with a space: the numbers of the text are its number and those after it
pub record IsWordOf (text word : List ℕ) : Type 0 where
  pub within : length word + 1 ≤ length text
  pub numbers : spaced_numbers (words_of text) ≡
      then_number (number_in word) (spaced_numbers (words_of (drop (length word + 1) text)))
