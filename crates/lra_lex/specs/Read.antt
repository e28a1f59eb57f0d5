-- What a call found at the start of the bytes that are left.
use Rattle.std.specs.Prelude.{◌≡◌, ℕ, ◌<◌, ◌≤◌, Bool, true, List, [], ◌∷◌, ◌++◌, length, take, drop, Option, Some, None}
use Rattle.lra_base.specs.declared.refusals.Cause.TheVariants.{BadByte, BadLiteral}
use Rattle.lra_base.specs.declared.refusals.Refusal.{Refusal}
use Rattle.lra_base.specs.{declared.refusals.Cause.Cause, declared.refusals.Place.Place}
use Rattle.lra_syntax.specs.Lexeme.{is_number_word, IsLiteral, greatest_literal, Lexeme, SpellsToken}
use Rattle.lra_syntax.specs.Tokens.{IsGap, NoGap, IsLongest, IsFaulty}
use Rattle.lra_syntax.specs.{declared.tokens.Kind.Kind, declared.tokens.Token.Token}
use Rattle.lra_lex.specs.{Places.fresh_after_bytes, declared.lexer.Found.Found}

-- the first n bytes are the longest spelling there, of a token of this kind
pub record BeginsToken (rest : List ℕ) (n : ℕ) (k : Kind) : Type 0 where
  pub some : 0 < n
  pub within : n ≤ length rest
  pub longest : IsLongest (take n rest) rest
  pub spells : SpellsToken (take n rest) k

-- no token, or no number, can be read there, whatever gaps are
abbrev pub HasFault : Cause → List ℕ → Type 0
HasFault BadByte rest = (s after : List ℕ) → rest ≡ s ++ after → Lexeme s → ⊥
HasFault BadLiteral rest = (s : List ℕ) × IsLongest s rest × (is_number_word s ≡ true) ×
    ((n : ℕ) → IsLiteral s n → n ≤ greatest_literal → ⊥)
HasFault cause rest = ⊥

-- these bytes are a gap, or the token of this kind
abbrev pub IsFoundAs : List ℕ → Option Kind → List ℕ → List ℕ → Type 0
IsFoundAs before None s after = IsGap before s after
IsFoundAs before (Some k) s after = NoGap before (s ++ after) × IsLongest s (s ++ after) × SpellsToken s k

-- the first bytes are what was found, after any bytes that leave the start of a line as stated
pub record BeginsFound (fresh : Bool) (rest : List ℕ) (f : Found) : Type 0 where
  pub some : 0 < f.length
  pub within : f.length ≤ length rest
  pub is_found : (before : List ℕ) → fresh ≡ fresh_after_bytes true before →
      IsFoundAs before f.kind (take f.length rest) (drop f.length rest)

pub record FaultsAt (place : Place) (fresh : Bool) (rest : List ℕ) (r : Refusal) : Type 0 where
  pub at_place : r.place ≡ place
  pub faulty : (before : List ℕ) → fresh ≡ fresh_after_bytes true before → IsFaulty r.cause before rest

-- the token of what was found
abbrev pub found_tokens : Option Kind → Place → List Token
found_tokens None place = []
found_tokens (Some k) place = record { kind = k; place = place } ∷ []
