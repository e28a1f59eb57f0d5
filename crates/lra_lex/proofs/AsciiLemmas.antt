-- A word is text: each of its bytes is below 128.
use Rattle.std.proofs.Common.{◌≡◌, ◌<◌, ℕ, true, List, [], ◌∷◌, arith}
use Rattle.std.proofs.{lemmas.Bool.and_parts, lemmas.Bool.Decides.nat_tests, lemmas.Str.IsUtf8-from_ascii, lemmas.Str.Ascii.IsAscii-nil, lemmas.Str.Ascii.IsAscii-cons}
use Rattle.std.specs.{List.list_all, Str.IsAscii, Str.IsUtf8}
use Rattle.lra_syntax.specs.Lexeme.{is_letter, is_word_byte, is_name_word}

ascii_letter : (c : ℕ) → is_letter c ≡ true → c < 128
ascii_letter c h = grind (arith, nat_tests)

ascii_byte : (c : ℕ) → is_word_byte c ≡ true → c < 128
ascii_byte c h = grind (arith, nat_tests)

ascii_bytes : (bs : List ℕ) → list_all is_word_byte bs ≡ true → IsAscii bs
ascii_bytes [] h = IsAscii-nil
ascii_bytes (c ∷ cs) h = let parts = and_parts _ _ h in IsAscii-cons c cs (ascii_byte c parts.0) (ascii_bytes cs parts.1)

pub word_is_text : (bs : List ℕ) → is_name_word bs ≡ true → IsUtf8 bs
word_is_text [] h = absurd cc
word_is_text (c ∷ cs) h = let parts = and_parts _ _ h in IsUtf8-from_ascii (c ∷ cs) (IsAscii-cons c cs (ascii_letter c parts.0) (ascii_bytes cs parts.1))
