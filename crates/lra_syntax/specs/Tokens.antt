-- The tokens of a source (ISO/IEC 9899:2011, 5.1.1.2 and 6.4): its bytes are a sequence of gaps, which stand for
-- nothing, and of spellings of tokens, each the longest one at its place.
use Rattle.std.specs.Prelude.{◌≡◌, ◌≢◌, ℕ, ◌≤◌, ◌⊎◌, Bool, true, false, ◌||◌, nat_eq, List, [], ◌∷◌, ◌++◌, length}
use Rattle.std.specs.{List.list_all, Prelude.codes, Prelude.⊤, Prelude.not}
use Rattle.lra_base.specs.declared.refusals.Cause.TheVariants.{BadByte, BadLiteral}
use Rattle.lra_base.specs.{Places.place_after, declared.refusals.Cause.Cause, declared.refusals.Place.Place}
use Rattle.lra_syntax.specs.Lexeme.{is_word_byte, is_number_word, IsLiteral, greatest_literal, IsOpen, Lexeme}
use Rattle.lra_syntax.specs.{Lexeme.SpellsToken, declared.tokens.Kind.TheVariants.End, declared.tokens.Token.Token}

-- gaps -------------------------------------------------------------------------------------------------------------

-- space, tab, line feed, vertical tab, form feed, carriage return
abbrev pub is_blank : ℕ → Bool
is_blank c = nat_eq c 32 || nat_eq c 9 || nat_eq c 10 || nat_eq c 11 || nat_eq c 12 || nat_eq c 13

abbrev pub is_space_or_tab : ℕ → Bool
is_space_or_tab c = nat_eq c 32 || nat_eq c 9

abbrev pub in_line : ℕ → Bool
in_line c = not (nat_eq c 10)

-- a line feed or the end of the source comes next
abbrev pub IsLineEnd : List ℕ → Type 0
IsLineEnd [] = ⊤
IsLineEnd (c ∷ cs) = c ≡ 10

-- only spaces and tabs stand on the line so far
pub record IsLineStart (before : List ℕ) : Type 0 where
  pub lines : List ℕ
  pub blanks : List ℕ
  pub parts : before ≡ lines ++ blanks
  pub whole_lines : (lines ≡ []) ⊎ ((ls : List ℕ) × (lines ≡ ls ++ 10 ∷ []))
  pub only_blanks : list_all is_space_or_tab blanks ≡ true

-- the next byte continues no word
abbrev pub IsWordEnd : List ℕ → Type 0
IsWordEnd [] = ⊤
IsWordEnd (c ∷ cs) = is_word_byte c ≡ false

-- what stands for nothing between the bytes before and after it
pub data IsGap (before gap after : List ℕ) : Type 0 where
  blank : (c : ℕ) → gap ≡ c ∷ [] → is_blank c ≡ true → IsGap before gap after
  -- `//` up to the end of the line
  line_comment : (text : List ℕ) → gap ≡ codes "//" ++ text → list_all in_line text ≡ true → IsLineEnd after →
      IsGap before gap after
  -- `/*` up to the next `*/`
  block_comment : (text : List ℕ) → gap ≡ codes "/*" ++ text ++ codes "*/" → IsOpen (text ++ codes "*") →
      IsGap before gap after
  -- from the `#` of an `#include` line up to the end of the line
  skipped_line : (blanks text : List ℕ) → gap ≡ codes "#" ++ blanks ++ codes "include" ++ text → IsLineStart before
      → list_all is_space_or_tab blanks ≡ true → IsWordEnd text → list_all in_line text ≡ true → IsLineEnd after →
      IsGap before gap after

-- no gap begins after these bytes
abbrev pub NoGap : List ℕ → List ℕ → Type 0
NoGap before rest = (gap after : List ℕ) → rest ≡ gap ++ after → IsGap before gap after → ⊥

-- the longest lexeme at the start of rest
pub record IsLongest (s rest : List ℕ) : Type 0 where
  pub lexeme : Lexeme s
  pub after : List ℕ
  pub front : rest ≡ s ++ after
  pub longest : (t after : List ℕ) → rest ≡ t ++ after → Lexeme t → length t ≤ length s

-- the whole --------------------------------------------------------------------------------------------------------

-- a gap, or a token with its spelling
pub data Fragment : Type 0 where
  gap : List ℕ → Fragment
  token : List ℕ → Token → Fragment

abbrev pub bytes_of : List Fragment → List ℕ
bytes_of [] = []
bytes_of (gap bytes ∷ ps) = bytes ++ bytes_of ps
bytes_of (token bytes t ∷ ps) = bytes ++ bytes_of ps

abbrev pub tokens_of : List Fragment → List Token
tokens_of [] = []
tokens_of (gap bytes ∷ ps) = tokens_of ps
tokens_of (token bytes t ∷ ps) = t ∷ tokens_of ps

-- the spelling is the longest at its place, which is the token's
pub record IsToken (before s rest : List ℕ) (t : Token) : Type 0 where
  pub no_gap : NoGap before rest
  pub longest : IsLongest s rest
  pub spells : SpellsToken s t.kind
  pub place : t.place ≡ place_after before

-- the pieces stand between the bytes before and after them
abbrev pub IsReading : List ℕ → List Fragment → List ℕ → Type 0
IsReading before [] after = ⊤
IsReading before (gap bytes ∷ ps) after = IsGap before bytes (bytes_of ps ++ after) ×
    IsReading (before ++ bytes) ps after
IsReading before (token bytes t ∷ ps) after = IsToken before bytes (bytes ++ (bytes_of ps ++ after)) t ×
    IsReading (before ++ bytes) ps after

abbrev pub end_token : List ℕ → Token
end_token source = record { kind = End; place = place_after source }

-- the tokens of the source; after the last byte stands the end
abbrev pub Lex : List ℕ → List Token → Type 0
Lex source tokens = (ps : List Fragment) × (source ≡ bytes_of ps) × IsReading [] ps [] ×
    (tokens ≡ tokens_of ps ++ end_token source ∷ [])

-- faults -----------------------------------------------------------------------------------------------------------

-- no token, or no number, can be read at the start of rest
abbrev pub IsFaulty : Cause → List ℕ → List ℕ → Type 0
IsFaulty BadByte before rest = (rest ≢ []) × NoGap before rest × ((s after : List ℕ) → rest ≡ s ++ after → Lexeme s → ⊥)
IsFaulty BadLiteral before rest = NoGap before rest
    × (s : List ℕ) × IsLongest s rest × (is_number_word s ≡ true) × ((n : ℕ) → IsLiteral s n → n ≤ greatest_literal → ⊥)
IsFaulty cause before rest = ⊥

-- up to the first fault the source is read, and the fault is there
abbrev pub IsTokenFault : List ℕ → Cause → Place → Type 0
IsTokenFault source cause place =
    (ps : List Fragment) × (rest : List ℕ) × (source ≡ bytes_of ps ++ rest) × IsReading [] ps rest
    × IsFaulty cause (bytes_of ps) rest × (place ≡ place_after (bytes_of ps))

-- a source has one list of tokens, or one first fault
abbrev pub OneReading : Type 0
OneReading = (source : List ℕ)
    → ((T U : List Token) → Lex source T → Lex source U → T ≡ U)
    × ((c d : Cause) (p q : Place) → IsTokenFault source c p → IsTokenFault source d q → (c ≡ d) × (p ≡ q))
    × ((T : List Token) (c : Cause) (p : Place) → Lex source T → IsTokenFault source c p → ⊥)
