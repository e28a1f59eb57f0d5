-- Truth values in words of 64 bits.
use Rattle.std.specs.Prelude.{◌≡◌, ℕ, zero, suc, ◌+◌, ◌/◌, ◌%◌, ◌==◌, ◌<◌, Bool, count_ones, List, [], ◌∷◌, length}
use Rattle.std.specs.{Int.bit_at, Int.Bits.bit_and, List.range_with_len, Prelude.slice_index, Prelude.map}
use Rattle.lra_bits.specs.TruthValues.{value_at}

-- the truth value at a place of the words: bit k mod 64 of word k / 64, false past the last word
abbrev pub bit_of : List ℕ → ℕ → Bool
bit_of words k = bit_at (slice_index words (k / 64)) (k % 64) == 1

-- the first so many truth values of the words
abbrev pub unpacked : ℕ → List ℕ → List Bool
unpacked width words = map (bit_of words) (range_with_len 0 width)

-- as many words as the truth values need
abbrev pub words_needed : ℕ → ℕ
words_needed width = (width + 63) / 64

-- The words hold the truth values: there are as many as are needed, each value stands at its place, and each bit that
-- is not used is 0.
pub record ArePacked (values : List Bool) (words : List ℕ) : Type 0 where
  pub count : length words ≡ words_needed (length values)
  pub each : (k : ℕ) → bit_of words k ≡ value_at values k

-- the bits that are set in both, word by word
abbrev pub common_words : List ℕ → List ℕ → List ℕ
common_words [] ys = []
common_words (x ∷ xs) [] = []
common_words (x ∷ xs) (y ∷ ys) = bit_and x y ∷ common_words xs ys

-- how many bits are set in both, in the first n words
abbrev pub common_bits : List ℕ → List ℕ → ℕ → ℕ
common_bits xs ys zero = 0
common_bits xs ys (suc n) = common_bits xs ys n + count_ones (bit_and (slice_index xs n) (slice_index ys n))

-- each bit that is set in a word of the first is set in that of the second
abbrev pub AreWithin : List ℕ → List ℕ → Type 0
AreWithin xs ys = (i : ℕ) → i < length xs → bit_and (slice_index xs i) (slice_index ys i) ≡ slice_index xs i

-- each bit that is set in a word of the first and in that of the second is set in that of the third
abbrev pub AreCommonWithin : List ℕ → List ℕ → List ℕ → Type 0
AreCommonWithin xs ys zs = (i : ℕ) → i < length xs →
    bit_and (bit_and (slice_index xs i) (slice_index ys i)) (slice_index zs i)
    ≡ bit_and (slice_index xs i) (slice_index ys i)
