-- The spellings of tokens (ISO/IEC 9899:2011, 6.4: lexical elements), each as a property of its own bytes.
use Rattle.std.specs.List.{list_all, list_any}
use Rattle.std.specs.Prelude.{◌≡◌, ℕ, ◌≤◌, Bool, true, false, ◌||◌, ◌&&◌, nat_eq, nat_le, List, [], ◌∷◌, ◌++◌, codes}
use Rattle.std.specs.Prelude.{bytes_eq, ◌*◌, ◌⊎◌, if◌then◌else◌, ◌≢◌, ◌+◌, ◌-◌}
use Rattle.lra_base.specs.declared.number_types.NumberType.{NumberType}
use Rattle.lra_base.specs.declared.number_types.NumberType.TheVariants.{Int, Long}
use Rattle.lra_syntax.specs.declared.tokens.Kind.TheVariants.{Name, Number, Mark as MarkOf, Reserved, Unclosed}
use Rattle.lra_syntax.specs.{declared.tokens.Kind.Kind, declared.tokens.Mark.Mark}
use Rattle.lra_syntax.specs.declared.tokens.Mark.TheVariants as mark

-- bytes ------------------------------------------------------------------------------------------------------------

abbrev pub is_between : ℕ → ℕ → ℕ → Bool
is_between low high c = nat_le low c && nat_le c high

abbrev pub is_letter : ℕ → Bool
is_letter c = is_between 65 90 c || is_between 97 122 c || nat_eq c 95

abbrev pub is_digit : ℕ → Bool
is_digit c = is_between 48 57 c

abbrev pub is_word_byte : ℕ → Bool
is_word_byte c = is_letter c || is_digit c

-- words ------------------------------------------------------------------------------------------------------------

-- a letter or `_`, then letters, digits, `_`
abbrev pub is_name_word : List ℕ → Bool
is_name_word [] = false
is_name_word (c ∷ cs) = is_letter c && list_all is_word_byte cs

-- a digit, then letters, digits, `_`
abbrev pub is_number_word : List ℕ → Bool
is_number_word [] = false
is_number_word (c ∷ cs) = is_digit c && list_all is_word_byte cs

-- marks ------------------------------------------------------------------------------------------------------------

abbrev pub mark_text : Mark → List ℕ
mark_text mark.Plus = codes "+"
mark_text mark.Minus = codes "-"
mark_text mark.Star = codes "*"
mark_text mark.Slash = codes "/"
mark_text mark.Percent = codes "%"
mark_text mark.Assign = codes "="
mark_text mark.Equal = codes "=="
mark_text mark.Differs = codes "!="
mark_text mark.Less = codes "<"
mark_text mark.AtMost = codes "<="
mark_text mark.Greater = codes ">"
mark_text mark.AtLeast = codes ">="
mark_text mark.And = codes "&&"
mark_text mark.Or = codes "||"
mark_text mark.Not = codes "!"
mark_text mark.Increment = codes "++"
mark_text mark.Decrement = codes "--"
mark_text mark.PlusAssign = codes "+="
mark_text mark.MinusAssign = codes "-="
mark_text mark.StarAssign = codes "*="
mark_text mark.SlashAssign = codes "/="
mark_text mark.PercentAssign = codes "%="
mark_text mark.OpenParen = codes "("
mark_text mark.CloseParen = codes ")"
mark_text mark.OpenBrace = codes "{"
mark_text mark.CloseBrace = codes "}"
mark_text mark.OpenBracket = codes "["
mark_text mark.CloseBracket = codes "]"
mark_text mark.Semicolon = codes ";"
mark_text mark.Comma = codes ","
mark_text mark.Colon = codes ":"
mark_text mark.Assert = codes "assert"
mark_text mark.Assume = codes "assume"
mark_text mark.Input = codes "input"
mark_text mark.Break = codes "break"
mark_text mark.Case = codes "case"
mark_text mark.Continue = codes "continue"
mark_text mark.Default = codes "default"
mark_text mark.Else = codes "else"
mark_text mark.Extern = codes "extern"
mark_text mark.For = codes "for"
mark_text mark.If = codes "if"
mark_text mark.Int = codes "int"
mark_text mark.Long = codes "long"
mark_text mark.Return = codes "return"
mark_text mark.Switch = codes "switch"
mark_text mark.Void = codes "void"
mark_text mark.While = codes "while"

-- the reserved words that the grammar names
abbrev pub named_words : List (List ℕ)
named_words = codes "assert" ∷ codes "assume" ∷ codes "break" ∷ codes "case" ∷ codes "continue" ∷ codes "default" ∷
    codes "else" ∷ codes "extern" ∷ codes "for" ∷ codes "if"
    ∷ codes "input" ∷ codes "int" ∷ codes "long" ∷ codes "return" ∷ codes "switch" ∷ codes "void" ∷ codes "while" ∷ []

-- the other keywords of C
abbrev pub further_words : List (List ℕ)
further_words = codes "auto" ∷
    codes "char" ∷ codes "const" ∷ codes "do" ∷ codes "double" ∷ codes "enum"
    ∷ codes "float" ∷ codes "goto" ∷ codes "inline" ∷ codes "register" ∷ codes "restrict" ∷ codes "short" ∷
    codes "signed" ∷ codes "sizeof"
    ∷ codes "static" ∷ codes "struct" ∷ codes "typedef" ∷ codes "union" ∷ codes "unsigned" ∷
    codes "volatile"
    ∷ codes "_Alignas" ∷ codes "_Alignof" ∷ codes "_Atomic" ∷ codes "_Bool" ∷ codes "_Complex" ∷ codes "_Generic" ∷
    codes "_Imaginary"
    ∷ codes "_Noreturn" ∷ codes "_Static_assert" ∷ codes "_Thread_local" ∷ []

abbrev pub is_among : List ℕ → List (List ℕ) → Bool
is_among s words = list_any (bytes_eq s) words

-- literals (6.4.4.1) -----------------------------------------------------------------------------------------------

pub data Base : Type 0 where
  octal : Base
  decimal_base : Base
  hexadecimal : Base

abbrev pub base_number : Base → ℕ
base_number octal = 8
base_number decimal_base = 10
base_number hexadecimal = 16

abbrev pub is_digit_of : Base → ℕ → Bool
is_digit_of octal c = is_between 48 55 c
is_digit_of decimal_base c = is_digit c
is_digit_of hexadecimal c = is_digit c || is_between 65 70 c || is_between 97 102 c

-- what a digit is worth
abbrev pub digit_value : ℕ → ℕ
digit_value c = if is_digit c then c - 48 else (if is_between 65 70 c then c - 55 else c - 87)

-- the number that the digits write after those of n
abbrev pub number_after : Base → ℕ → List ℕ → ℕ
number_after base n [] = n
number_after base n (c ∷ cs) = number_after base (n * base_number base + digit_value c) cs

-- how the digits of a base begin: `0x` or `0X` and a digit; `0`; a digit from 1 to 9
abbrev pub IsBasePrefix : Base → List ℕ → List ℕ → Type 0
IsBasePrefix hexadecimal front digits = ((front ≡ codes "0x") ⊎ (front ≡ codes "0X")) × (digits ≢ [])
IsBasePrefix octal front digits = front ≡ codes "0"
IsBasePrefix decimal_base front digits = (c : ℕ) × (cs : List ℕ) × (front ≡ []) × (digits ≡ c ∷ cs) ×
    (is_between 49 57 c ≡ true)

abbrev pub suffixes : List (List ℕ)
suffixes = [] ∷ codes "l" ∷ codes "L" ∷ codes "ll" ∷ codes "LL" ∷ []

-- the bytes are a literal of this value: a prefix, digits and a suffix
pub record IsLiteral (s : List ℕ) (n : ℕ) : Type 0 where
  pub base : Base
  pub front : List ℕ
  pub digits : List ℕ
  pub suffix : List ℕ
  pub parts : s ≡ front ++ digits ++ suffix
  pub begins : IsBasePrefix base front digits
  pub all_digits : list_all (is_digit_of base) digits ≡ true
  pub is_suffix : is_among suffix suffixes ≡ true
  pub number : n ≡ number_after base 0 digits

-- 2^63 - 1
abbrev pub greatest_literal : ℕ
greatest_literal = 9223372036854775807

-- 2^31 - 1
abbrev pub greatest_int_literal : ℕ
greatest_int_literal = 2147483647

-- the type of a literal with this suffix and this value: an `int` if it has no suffix and fits one. (In C one of
-- octal or hexadecimal digits may be unsigned as well; here no type is.)
abbrev pub literal_type : List ℕ → ℕ → NumberType
literal_type [] n = if nat_le n greatest_int_literal then Int else Long
literal_type (c ∷ cs) n = Long

-- comments (6.4.9) -------------------------------------------------------------------------------------------------

-- no `*/` in it
abbrev pub IsOpen : List ℕ → Type 0
IsOpen s = (front rest : List ℕ) → s ≡ front ++ codes "*/" ++ rest → ⊥

-- `/*` and no `*/` after it
abbrev pub IsUnclosed : List ℕ → Type 0
IsUnclosed s = (text : List ℕ) × (s ≡ codes "/*" ++ text) × IsOpen text

-- tokens -----------------------------------------------------------------------------------------------------------

-- the bytes spell a token, or would if its number were a literal
pub data Lexeme (s : List ℕ) : Type 0 where
  word : is_name_word s ≡ true → Lexeme s
  number_word : is_number_word s ≡ true → Lexeme s
  mark_word : (m : Mark) → s ≡ mark_text m → Lexeme s
  unclosed : IsUnclosed s → Lexeme s

-- which token they spell
pub data SpellsToken (s : List ℕ) : Kind → Type 0 where
  name : is_name_word s ≡ true → is_among s named_words ≡ false → is_among s further_words ≡ false
      → SpellsToken s (Name s)
  literal_text : (n : ℕ) (t : NumberType) → is_number_word s ≡ true → (l : IsLiteral s n) →
      t ≡ literal_type l.suffix n →
      n ≤ greatest_literal → SpellsToken s (Number t n)
  mark_of : (m : Mark) → s ≡ mark_text m → SpellsToken s (MarkOf m)
  reserved : is_among s further_words ≡ true → SpellsToken s Reserved
  comment : IsUnclosed s → SpellsToken s Unclosed
